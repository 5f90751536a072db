use Rattle.spv_parse.proofs.Standing.{exit_is_label}
use Rattle.spv_parse.proofs.scene.Scene.exit.Goals as goal

pub values-requires-clause-label : goal.values-requires-clause-label
values-requires-clause-label c = exit_is_label c.args.self.now c.args.block c.args.left c.requires.stands c.args.target c.requires.leaves
