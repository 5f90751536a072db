use Rattle.std.proofs.Common.{ℕ, List, Option, Some, ◌∙◌, sym, ap, subst}
use Rattle.std.proofs.lemmas.Result.{IfOk-weaker}
use Rattle.std.specs.BTreeSet.{BTreeSet, contains}
use Rattle.std.specs.Ordering.{nat_cmp}
use Rattle.spv_module.specs.Instruction.{Instruction}
use Rattle.spv_ids.specs.Ids.{place_of}
use Rattle.spv_calls.specs.Broken.{Decides}
use Rattle.spv_calls.specs.Interfaces.{IsInterface}
use Rattle.spv_calls.specs.Kept.{ListsNamed, IsListing}
use Rattle.spv_calls.proofs.Interfaces.{interface_named}
use Rattle.spv_calls.proofs.calls.Calls.is_interface.Goals as goal

pub returns-in-Some-place-clause-is : goal.returns-in-Some-place-clause-is
returns-in-Some-place-clause-is c =
    let insts = c.args.self.now in
    let ids = c.args.ids.now in
    let first = c.in-Some-place.first in
    let listed = contains nat_cmp c.in-Some.listed in
    let listing : IsListing insts ids (Some c.in-Some.listed) =
    subst (λ (is : List Instruction). IsListing is ids (Some c.in-Some.listed)) c.self.view_is (subst (IsListing c.self.inside.globals ids) c.in-Some.is c.in_ok-listed.ensures) in
    IfOk-weaker c.lists_named.result (λ b. Decides b (ListsNamed insts first listed)) (λ b. Decides b (IsInterface insts c.args.function ids))
    (λ b d. interface_named insts c.args.function first ids listed b listing.0 listing.1 (ap (λ (is : List Instruction). place_of is c.args.function) (sym c.self.view_is) ∙ sym c.in-Some-place.ensures) d)
    c.lists_named.ensures.lists
