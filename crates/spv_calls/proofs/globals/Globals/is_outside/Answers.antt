use Rattle.std.proofs.Common.{ℕ, List, nat_lt, Some, None, ◌∙◌, ap, sym}
use Rattle.spv_module.specs.Instruction.{Instruction}
use Rattle.spv_ids.specs.Ids.{place_of}
use Rattle.spv_typing.specs.Kinds.{is_outside}
use Rattle.spv_typing.proofs.Outside.{outside-at}
use Rattle.spv_calls.proofs.globals.Globals.is_outside.Goals as goal

pub returns-in-Some : goal.returns-in-Some
returns-in-Some c =
    ap (λ (n : ℕ). nat_lt c.in-Some.place n) c.self.invariant
    ∙ outside-at c.self.inside.kinds.now c.args.id (Some c.in-Some.place) (c.in-Some.ensures ∙ ap (λ (insts : List Instruction). place_of insts c.args.id) c.definitions.ensures)
    ∙ ap (λ (insts : List Instruction). is_outside insts c.args.id) c.self.view_is

pub returns-in-None : goal.returns-in-None
returns-in-None c =
    outside-at c.self.inside.kinds.now c.args.id None (c.in-None.ensures ∙ ap (λ (insts : List Instruction). place_of insts c.args.id) c.definitions.ensures)
    ∙ ap (λ (insts : List Instruction). is_outside insts c.args.id) c.self.view_is
