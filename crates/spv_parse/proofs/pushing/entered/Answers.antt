use Rattle.std.proofs.Common.{◌∙◌}
use Rattle.spv_tree.specs.Tree.{sequence_body}
use Rattle.spv_tree.proofs.Equations.{rolled}
use Rattle.spv_parse.proofs.Entered.{in_box}
use Rattle.spv_parse.proofs.pushing.entered.Goals as goal

pub returns : goal.returns
returns c = rolled record { turn = c.in_ok-turn.turn; rest = c.args.rest } ∙ in_box c.in_ok-turn.turn.value c.args.turn (sequence_body c.args.rest) c.in_ok-turn.ensures.ok
