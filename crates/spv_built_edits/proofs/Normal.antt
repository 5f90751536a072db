-- A function in normal form stays so when it is edited: by induction on the tree. An OpPhi names the blocks that it named, since branches come from where they
-- came from.
use Rattle.std.proofs.Common.{◌≡◌, ℕ, Bool, true, false, List, [], ◌∷◌, map, refl, sym, ap, ◌∙◌, subst}
use Rattle.std.specs.List.{AllByRecursion}
use Rattle.spv_blocks.specs.Blocks.{seconds}
use Rattle.spv_bodies.specs.Bodies.{Arms, Last, Also, Body, Leaves, Finishes, Step, Enters, Splits, Selects, Switches, Loops, Front, Parameter}
use Rattle.spv_bodies.specs.Listing.{Branching, arriving, first_target, in_order}
use Rattle.spv_spelling.specs.Text.{firsts}
use Rattle.spv_tree.specs.Branches.{branches_in}
use Rattle.spv_tree.specs.Sound.{AreFormed, IsFormed, targets}
use Rattle.spv_respelling.specs.Normal.{AreNormal, IsNamed, IsNormalBody, NamesParents}
use Rattle.spv_editing.specs.Editing.{Edit, edited, edited_arms, steps_before}
use Rattle.spv_editing.proofs.Kept.{branches-in-kept}
use Rattle.spv_editing.proofs.Soundness.{arriving-mapped, in-order-mapped, mapped, targets-kept}
use Rattle.spv_structured_edits.proofs.Ends.{first-target-kept}
use Rattle.spv_built_edits.specs.Laws.{NormalStays}

normal_before : (all : List Branching) (parted : Bool) (lines : List (List ℕ)) (b : Body) → IsNormalBody all parted b → IsNormalBody all parted (steps_before lines b)
normal_before all parted [] b h = h
normal_before all parted (words ∷ lines) b h = normal_before all parted lines b h

module _ (e : Edit) where
  sources_kept : (here : List Branching) → map (λ b. b.0) (mapped e here) ≡ map (λ b. b.0) here
  sources_kept [] = refl
  sources_kept (branching ∷ here) = ap (λ (z : List ℕ). branching.0 ∷ z) (sources_kept here)

  parents_named : (here : List Branching) (p : Parameter) → NamesParents here p → NamesParents (mapped e here) p
  parents_named here p h = ap (map (λ b. b.0)) (in-order-mapped e p.parents here) ∙ sources_kept (in_order p.parents here) ∙ h

  all_named : (here : List Branching) (ps : List Parameter) → AllByRecursion (NamesParents here) ps → AllByRecursion (NamesParents (mapped e here)) ps
  all_named here [] h = tt
  all_named here (p ∷ ps) h = (parents_named here p h.0, all_named here ps h.1)

  module _ (all : List Branching) where
    front_named : (front : Front) → IsNamed all front → IsNamed (mapped e all) front
    front_named front h =
        subst (λ (here : List Branching). AllByRecursion (NamesParents here) front.parameters) (sym (arriving-mapped e front.label all))
        (all_named (arriving front.label all) front.parameters h)

    -- the arms of a switch stand in the order in which it names them
    in_their_order : (cases : List (ℕ × ℕ)) (arms : Arms) → AreFormed all arms → targets arms ≡ firsts (first_target arms ∷ seconds cases)
        → targets (edited_arms e arms) ≡ firsts (first_target (edited_arms e arms) ∷ seconds cases)
    in_their_order cases arms formed h =
        targets-kept e all arms formed ∙ h ∙ sym (ap (λ (t : ℕ). firsts (t ∷ seconds cases)) (first-target-kept e all arms formed))

    mutual
      normal_kept : (b : Body) (parted : Bool) → IsFormed all b → IsNormalBody all parted b → IsNormalBody (mapped e all) parted (edited e b)
      normal_kept (Leaves exit) parted formed h = h
      normal_kept (Finishes words) parted formed h = h
      normal_kept (Step words body) parted formed h =
          normal_before (mapped e all) parted (e.steps words) (edited e body) (normal_kept body parted formed.1 h)
      normal_kept (Enters label body) parted formed h = (h.0, normal_kept body false formed h.1)
      normal_kept (Splits condition on exit body) parted formed h = normal_kept body true formed.1 h
      normal_kept (Selects control condition first second merge rest) parted formed h = (
        front_named merge h.0,
        normal_kept first true formed.3 h.1,
        normal_kept second true formed.4 h.2,
        normal_kept rest false formed.5 h.3,
      )
      normal_kept (Switches control selector cases arms merge rest) parted formed h = (
        in_their_order cases arms formed.2 h.0,
        front_named merge h.1,
        arms_normal arms formed.2 h.2,
        normal_kept rest false formed.3 h.3,
      )
      normal_kept (Loops entry header control inner next continuing merge rest) parted formed h = (
        front_named header h.0,
        front_named next h.1,
        front_named merge h.2,
        normal_kept inner true formed.4 h.3,
        normal_kept continuing false formed.5 h.4,
        normal_kept rest false formed.6 h.5,
      )

      arms_normal : (arms : Arms) → AreFormed all arms → AreNormal all arms → AreNormal (mapped e all) (edited_arms e arms)
      arms_normal (Last arm) formed h = normal_kept arm true formed.1 h
      arms_normal (Also arm arms) formed h = (normal_kept arm true formed.1 h.0, arms_normal arms formed.2 h.1)

pub normal_stays : NormalStays
normal_stays e f sound h =
    subst (λ (all : List Branching). IsNormalBody all false (edited e f.body)) (sym (branches-in-kept e f))
    (normal_kept e (branches_in f) f.body false sound.formed h)
