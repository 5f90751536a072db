-- Edited functions are structured, and their listings break no rule on structured control flow.
use Rattle.std.proofs.Common.{List, sym, subst}
use Rattle.spv_bodies.specs.Listing.{Branching}
use Rattle.spv_tree.specs.Branches.{branches_in}
use Rattle.spv_structured.specs.Structured.{ParametersFit}
use Rattle.spv_structured.proofs.Unbroken.{structured_is_unbroken}
use Rattle.spv_editing.specs.Editing.{edited, edited_function}
use Rattle.spv_editing.proofs.Kept.{branches-in-kept}
use Rattle.spv_editing.proofs.Soundness.{sound-kept}
use Rattle.spv_structured_edits.specs.Laws.{OpensStays, StructuredStays, UnbrokenStays}
use Rattle.spv_structured_edits.proofs.Flow.{flows-from}
use Rattle.spv_structured_edits.proofs.Fronts.{fit-kept}
use Rattle.spv_structured_edits.proofs.Names.{names-kept}

pub structured_stays : StructuredStays
structured_stays e is_pointer f sound h = record {
  flows = flows-from e (branches_in f) f.label f.body sound.formed h.flows;
  parameters = subst (λ (all : List Branching). ParametersFit is_pointer all (edited e f.body)) (sym (branches-in-kept e f))
      (fit-kept is_pointer e (branches_in f) f.body h.parameters);
  arms = names-kept e (branches_in f) f.body sound.formed h.arms;
}

pub opens_stays : OpensStays
opens_stays e f h = record { function = h.function; parameters = h.parameters }

-- it is sound again, and structured again
pub unbroken_stays : UnbrokenStays
unbroken_stays e is_pointer f insts keeps sound opens structured listing =
    structured_is_unbroken (edited_function e f) insts is_pointer (sound-kept e f keeps sound) (opens_stays e f opens)
    (structured_stays e is_pointer f sound structured) listing
