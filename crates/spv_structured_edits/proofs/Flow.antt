-- Exits, branches of headers and back edges stay, by induction on the body.
use Rattle.std.proofs.Common.{◌≡◌, ◌≢◌, ℕ, true, List, [], ◌∷◌, length, sym, ap, ◌∙◌, subst}
use Rattle.std.proofs.lemmas.List.{length-map}
use Rattle.spv_blocks.specs.Blocks.{End}
use Rattle.spv_walk.specs.Contexts.{Context, InSelection, InArm, InBody, InNext}
use Rattle.spv_bodies.specs.Bodies.{Body, Leaves, Finishes, Step, Enters, Splits, Selects, Switches, Loops, Arms, Last, Also, target}
use Rattle.spv_bodies.specs.Listing.{Branching, branches, arriving}
use Rattle.spv_tree.specs.Sound.{AreFormed, IsFormed}
use Rattle.spv_structured.specs.Structured.{ArmsFlow, Flows, first_end, parts_header}
use Rattle.spv_editing.specs.Editing.{Edit, edited, edited_arms, edited_branching, steps_before}
use Rattle.spv_editing.proofs.Kept.{branches-kept}
use Rattle.spv_editing.proofs.Soundness.{arriving-mapped, target-kept}
use Rattle.spv_structured_edits.proofs.Ends.{end-kept}

flows-before : (lines : List (List ℕ)) (b : Body) (c : Context) (l : ℕ) (stop : End) → Flows c l stop b → Flows c l stop (steps_before lines b)
flows-before [] b c l stop h = h
flows-before (words ∷ lines) b c l stop h = flows-before lines b c l stop h

module _ (e : Edit) (all : List Branching) where
  -- as many branches go back to a header
  back-kept : (header next : ℕ) (b : Body) → length (arriving header (branches next (edited e b))) ≡ length (arriving header (branches next b))
  back-kept header next b =
      ap (λ (z : List Branching). length (arriving header z)) (branches-kept e next b)
      ∙ ap length (arriving-mapped e header (branches next b))
      ∙ length-map (arriving header (branches next b)) (edited_branching e)

  -- targets that differ still do
  apart-kept : (t u : ℕ) (same : u ≡ t) (other : ℕ) → other ≢ t → other ≢ u
  apart-kept t u same other differ met = differ (met ∙ same)

  -- the body of a block of its own ends as the block did
  own-end : (c : Context) (l : ℕ) (b : Body) → IsFormed all b → Flows c l (first_end b) (edited e b) → Flows c l (first_end (edited e b)) (edited e b)
  own-end c l b formed flows = subst (λ (stop : End). Flows c l stop (edited e b)) (sym (end-kept e all b formed)) flows

  mutual
    pub flows-kept : (b : Body) (c : Context) (l : ℕ) (stop : End) → IsFormed all b → Flows c l stop b → Flows c l stop (edited e b)
    flows-kept (Leaves exit) c l stop formed h = h
    flows-kept (Finishes words) c l stop formed h = h
    flows-kept (Step words body) c l stop formed h = flows-before (e.steps words) (edited e body) c l stop (flows-kept body c l stop formed.1 h)
    flows-kept (Enters label body) c l stop formed h = own-end c label body formed (flows-kept body c label (first_end body) formed h)
    flows-kept (Splits condition on exit body) c l stop formed h =
        (h.0, apart-kept (target body) (target (edited e body)) (target-kept e body formed.0) exit.target h.1, flows-kept body c l stop formed.1 h.2)
    flows-kept (Selects control condition first second merge rest) c l stop formed h = (
      (λ met. h.0 (sym (target-kept e first formed.0) ∙ met ∙ target-kept e second formed.1)),
      flows-kept first (InSelection merge.label ∷ c) l stop formed.3 h.1,
      flows-kept second (InSelection merge.label ∷ c) l stop formed.4 h.2,
      own-end c merge.label rest formed.5 (flows-kept rest c merge.label (first_end rest) formed.5 h.3),
    )
    flows-kept (Switches control selector cases arms merge rest) c l stop formed h = (
      h.0,
      arms-flow-kept arms c l merge.label stop formed.2 h.1,
      own-end c merge.label rest formed.3 (flows-kept rest c merge.label (first_end rest) formed.3 h.2),
    )
    flows-kept (Loops entry header control inner next continuing merge rest) c l stop formed h = (
      subst (λ (ending : End). parts_header ending merge.label ≡ true) (sym (end-kept e all inner formed.4)) h.0,
      own-end (InBody header.label merge.label next.label ∷ c) header.label inner formed.4
          (flows-kept inner (InBody header.label merge.label next.label ∷ c) header.label (first_end inner) formed.4 h.1),
      own-end (InNext header.label merge.label ∷ c) next.label continuing formed.5
          (flows-kept continuing (InNext header.label merge.label ∷ c) next.label (first_end continuing) formed.5 h.2),
      back-kept header.label next.label continuing ∙ h.3,
      own-end c merge.label rest formed.6 (flows-kept rest c merge.label (first_end rest) formed.6 h.4),
    )

    arms-flow-kept : (arms : Arms) (c : Context) (l m : ℕ) (stop : End) → AreFormed all arms → ArmsFlow c l m stop arms
        → ArmsFlow c l m stop (edited_arms e arms)
    arms-flow-kept (Last arm) c l m stop formed h =
        subst (λ (t : ℕ). Flows (InArm l m t ∷ c) l stop (edited e arm)) (sym (target-kept e arm formed.0))
        (flows-kept arm (InArm l m (target arm) ∷ c) l stop formed.1 h)
    arms-flow-kept (Also arm arms) c l m stop formed h = (
      subst (λ (t : ℕ). Flows (InArm l m t ∷ c) l stop (edited e arm)) (sym (target-kept e arm formed.0))
          (flows-kept arm (InArm l m (target arm) ∷ c) l stop formed.1 h.0),
      arms-flow-kept arms c l m stop formed.2 h.1,
    )

  pub flows-from : (l : ℕ) (b : Body) → IsFormed all b → Flows [] l (first_end b) b → Flows [] l (first_end (edited e b)) (edited e b)
  flows-from l b formed h = own-end [] l b formed (flows-kept b [] l (first_end b) formed h)
