use Rattle.std.proofs.Common.{map, take}
use Rattle.spv_editing.specs.Showing.{AStep, IsShown}
use Rattle.spv_editing.specs.Code.{words_in}
use Rattle.spv_editing.proofs.visiting.show_steps.Given as goal

abbrev pub invariant-steps : goal.invariant-steps
invariant-steps g l = IsShown g.V.Visitor.has_seen (map AStep (words_in (take l.inst-index l.steps))) l.fn.visitor l.visitor
