use Rattle.std.proofs.Common.{List, sym, subst, ◌∙◌}
use Rattle.passing.specs.Chains.{Tells}
use Rattle.spv_module.specs.Instruction.{Instruction}
use Rattle.spv_module.specs.View.{seen}
use Rattle.spv_availability.specs.Availability.{AreAvailable, IsUnavailable}
use Rattle.spv_check.proofs.Lacking.{lacks_told}
use Rattle.spv_check.proofs.bodies.Bodies.lacks.Goals as goal

pub returns : goal.returns
returns c =
    let k = c.args.k in
    let i = seen c.args.inst.now in
    let same = c.self.invariant.places ∙ c.self.view_is in
    lacks_told c.args.self.now k i c.are_available.result c.requires.here c.requires.inside (sym c.is_line.ensures ∙ c.if-is_line.false)
    (subst (λ (is : List Instruction). Tells c.are_available.result (AreAvailable is k i)) same c.are_available.ensures.available)
    (λ e. subst (λ (is : List Instruction). IsUnavailable is k i) same (c.are_available.ensures.broken e))
