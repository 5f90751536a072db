use Rattle.std.proofs.Common.{sym, ◌∙◌}
use Rattle.spv_parse.proofs.Scenes.{loop_by_labels}
use Rattle.spv_parse.proofs.Standing.{entered}
use Rattle.spv_parse.proofs.scene.Scene.way.Goals as goal

pub returns-in_ok-values : goal.returns-in_ok-values
returns-in_ok-values c =
    let s = c.args.self.now in (
      entered s c.args.block c.args.left c.requires.stands c.args.target c.requires.branch (sym c.leaves.ensures ∙ c.if-leaves.false),
      sym (loop_by_labels s c.args.target c.opens_loop.result c.requires.stands.scene c.opens_loop.ensures) ∙ c.if-opens_loop.true,
      c.in_ok-values.ensures,
    )

pub returns-else-opens_loop : goal.returns-else-opens_loop
returns-else-opens_loop c =
    let s = c.args.self.now in (
      entered s c.args.block c.args.left c.requires.stands c.args.target c.requires.branch (sym c.leaves.ensures ∙ c.if-leaves.false),
      sym (loop_by_labels s c.args.target c.opens_loop.result c.requires.stands.scene c.opens_loop.ensures) ∙ c.if-opens_loop.false,
    )
