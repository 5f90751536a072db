-- Each arm of a switch is named as before, by induction on the body.
use Rattle.std.proofs.Common.{◌≡◌, ℕ, List, [], ◌∷◌, ◌∙◌}
use Rattle.std.specs.List.{list_all}
use Rattle.spv_blocks.specs.Blocks.{Switch, end_targets, has}
use Rattle.spv_bodies.specs.Bodies.{Body, Leaves, Finishes, Step, Enters, Splits, Selects, Switches, Loops, Arms, Last, Also}
use Rattle.spv_bodies.specs.Listing.{Branching}
use Rattle.spv_tree.specs.Sound.{AreFormed, IsFormed}
use Rattle.spv_structured.specs.Structured.{NamesArms, NamesInArms, are_named}
use Rattle.spv_editing.specs.Editing.{Edit, edited, edited_arms, steps_before}
use Rattle.spv_editing.proofs.Soundness.{targets-kept}
use Rattle.spv_structured_edits.proofs.Ends.{first-target-kept}

names-before : (lines : List (List ℕ)) (b : Body) → NamesArms b → NamesArms (steps_before lines b)
names-before [] b h = h
names-before (words ∷ lines) b h = names-before lines b h

module _ (e : Edit) (all : List Branching) where
  named-kept : (cases : List (ℕ × ℕ)) (arms : Arms) → AreFormed all arms → are_named (edited_arms e arms) cases ≡ are_named arms cases
  named-kept cases arms formed =
      λ i. list_all (has (end_targets (Switch (first-target-kept e all arms formed i) cases))) (targets-kept e all arms formed i)

  mutual
    pub names-kept : (b : Body) → IsFormed all b → NamesArms b → NamesArms (edited e b)
    names-kept (Leaves exit) formed h = h
    names-kept (Finishes words) formed h = h
    names-kept (Step words body) formed h = names-before (e.steps words) (edited e body) (names-kept body formed.1 h)
    names-kept (Enters label body) formed h = names-kept body formed h
    names-kept (Splits condition on exit body) formed h = names-kept body formed.1 h
    names-kept (Selects control condition first second merge rest) formed h =
        (names-kept first formed.3 h.0, names-kept second formed.4 h.1, names-kept rest formed.5 h.2)
    names-kept (Switches control selector cases arms merge rest) formed h =
        (named-kept cases arms formed.2 ∙ h.0, names-in-arms-kept arms formed.2 h.1, names-kept rest formed.3 h.2)
    names-kept (Loops entry header control inner next continuing merge rest) formed h =
        (names-kept inner formed.4 h.0, names-kept continuing formed.5 h.1, names-kept rest formed.6 h.2)

    names-in-arms-kept : (arms : Arms) → AreFormed all arms → NamesInArms arms → NamesInArms (edited_arms e arms)
    names-in-arms-kept (Last arm) formed h = names-kept arm formed.1 h
    names-in-arms-kept (Also arm arms) formed h = (names-kept arm formed.1 h.0, names-in-arms-kept arms formed.2 h.1)
