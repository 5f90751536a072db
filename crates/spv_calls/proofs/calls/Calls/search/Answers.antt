use Rattle.std.proofs.Common.{ℕ, List, length, ◌∙◌, ap, subst}
use Rattle.std.proofs.lemmas.Result.{IfOk-weaker}
use Rattle.spv_module.specs.Instruction.{Instruction}
use Rattle.spv_calls.specs.Kept.{IsFresh}
use Rattle.spv_calls.proofs.Interfaces.{length-calls}
use Rattle.spv_calls.proofs.calls.Calls.search.Goals as goal

pub returns : goal.returns
returns c =
    let count = c.count.ensures ∙ ap (λ (g : List (List ℕ)). length g) c.self.invariant.rows_are ∙ length-calls c.self.inside.globals ∙ ap (λ (is : List Instruction). length is) c.self.view_is in
    IfOk-weaker c.new.result (λ s. IsFresh c.count.result s) (λ s. IsFresh (length c.args.self.now) s) (λ s f. subst (λ (n : ℕ). IsFresh n s) count f) c.new.ensures
