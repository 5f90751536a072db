use Rattle.std.proofs.Common.{length}
use Rattle.opt_tests.proofs.rules.edited.Given as goal

abbrev pub decreases-edits : goal.decreases-edits
decreases-edits l = length l.left
