use Rattle.std.proofs.Common.{Bool, ◌&&◌, ap, sym, ◌∙◌}
use Rattle.std.proofs.lemmas.Bool.{and_left}
use Rattle.spv_module.specs.View.{seen}
use Rattle.spv_repeats.specs.Repeats.{is_one_of, single_decorations}
use Rattle.spv_repeats.proofs.KeySets.{follows-target}
use Rattle.spv_repeats.proofs.decorations.add_target.Goals as goal

pub returns-then-known : goal.returns-then-known
returns-then-known c =
    follows-target c.args.targets.now c.add.new.set c.target_of.result c.in_ok-known.known _ (seen c.args.inst.now) c.target_of.ensures c.in_ok-known.ensures
    (ap (λ (b : Bool). b && c.is_single.result) (sym c.if-known.true)
    ∙ ap (λ (b : Bool). c.in_ok-known.known && b) (c.is_single.ensures ∙ ap (is_one_of single_decorations) c.word.ensures))

pub returns-else-known : goal.returns-else-known
returns-else-known c =
    follows-target c.args.targets.now c.add.new.set c.target_of.result c.in_ok-known.known _ (seen c.args.inst.now) c.target_of.ensures c.in_ok-known.ensures
    (c.if-known.false ∙ sym (and_left c.in_ok-known.known _ c.if-known.false))
