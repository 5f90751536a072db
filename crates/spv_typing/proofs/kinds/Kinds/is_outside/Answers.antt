use Rattle.std.proofs.Common.{ℕ, List, nat_lt, Some, None, ◌∙◌, ap, sym}
use Rattle.spv_module.specs.Instruction.{Instruction}
use Rattle.spv_typing.specs.Kinds.{is_outside}
use Rattle.spv_typing.proofs.Outside.{outside-at}
use Rattle.spv_typing.proofs.kinds.Kinds.is_outside.Goals as goal

pub returns-in-Some : goal.returns-in-Some
returns-in-Some c =
    ap (λ (n : ℕ). nat_lt c.in-Some.place n) c.self.invariant
    ∙ outside-at c.self.inside.definitions c.args.id (Some c.in-Some.place) (sym c.in-Some.is ∙ c.place.ensures)
    ∙ ap (λ (insts : List Instruction). is_outside insts c.args.id) c.self.view_is

pub returns-in-None : goal.returns-in-None
returns-in-None c =
    outside-at c.self.inside.definitions c.args.id None (sym c.in-None.is ∙ c.place.ensures) ∙ ap (λ (insts : List Instruction). is_outside insts c.args.id) c.self.view_is
