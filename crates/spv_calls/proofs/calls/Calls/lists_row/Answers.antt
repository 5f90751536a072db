use Rattle.std.proofs.Common.{ℕ, List, [], get_or, ◌∙◌, ap}
use Rattle.std.specs.BTreeSet.{contains}
use Rattle.std.specs.List.{list_all}
use Rattle.std.specs.Ordering.{nat_cmp}
use Rattle.spv_module.specs.Instruction.{Instruction}
use Rattle.spv_calls.specs.Kept.{row_passes}
use Rattle.spv_calls.proofs.Searching.{row-all}
use Rattle.spv_calls.proofs.calls.Calls.lists_row.Goals as goal

pub returns : goal.returns
returns c =
    let listed = contains nat_cmp c.args.listed.now in
    let place = c.args.place in
    c.lists_all.ensures
    ∙ ap (list_all listed) (c.ids_at.ensures ∙ ap (λ (rows : List (List ℕ)). get_or rows place []) c.deref.ensures.value ∙ row-all c.self.inside.globals c.self.inside.named.items place c.self.invariant.globals_are)
    ∙ ap (λ (is : List Instruction). row_passes is listed place) c.self.view_is
