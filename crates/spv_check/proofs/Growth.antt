-- Each walked block of a function in which no rule is broken has a region, so the blocks of such a function can be numbered in the order of the regions,
-- however deep its constructs nest.
use Rattle.std.proofs.Common.{◌≡◌, inl, inr, ℕ, zero, suc, ◌+◌, ◌<◌, ◌≤◌, Bool, true, false, not, ◌==◌, List, [], ◌∷◌, length, Option, Some, None, refl, sym, ap, subst, ◌∙◌, append-nil, arith}
use Rattle.spv_blocks.specs.Blocks.{Code, Construct, ASelection, ASwitch, ALoop, branches, construct, has, is_first, is_label, merge_of, names, next_of, targets}
use Rattle.spv_walk.specs.Contexts.{Context, InNext, behind, is_exit, next_context}
use Rattle.spv_walk.specs.Walk.{Walk}
use Rattle.spv_walk.specs.Walked.{StepEntered}
use Rattle.spv_walk.proofs.Unique.{both_fail, equal_true, goes_unnamed, true_equal}
use Rattle.spv_normal.specs.Order.{is_loop}
use Rattle.spv_spelling.specs.Clean.{EntersIn, IsClean}
use Rattle.spv_spelling.specs.Paths.{Path, Begins, Onward}
use Rattle.spv_spelling.specs.Text.{firsts}
use Rattle.spv_spelling.proofs.Onward.{continues_on, merges_on}
use Rattle.spv_spelling.proofs.Paths.{path_is_walked, paths_are_short}
use Rattle.spv_spelling.proofs.Settled.{walked_runs}
use Rattle.spv_normal_trees.proofs.Arranging.{IsWalked, arranged_firsts, labelled, walked}
use Rattle.spv_normal_trees.proofs.Members.{Distinct, has_firsts, has_head, has_tail}
use Rattle.spv_normal_trees.proofs.Regions.{Onto, Region, region, Way, leaf, comes, enters, Ways, nowhere, more, Parts, bare, selection, switch, loop, of_region}
use Rattle.spv_normal_trees.proofs.RegionBlocks.{region_distinct}
use Rattle.spv_normal_trees.proofs.RegionWhole.{all_walked}
use Rattle.spv_ways.specs.Laws.{IsNumbered}
use Rattle.spv_ways.specs.Ways.{Forward}
use Rattle.spv_ways.proofs.ForwardRegions.{Before, before_less, place_in, region_onward}

-- what the OpPhi of a target take does not matter
abbrev Free : (l t : ℕ) → List ℕ → Type 0
Free l t values = Unit {0}

-- the way to a target that is entered, by whether it heads a loop
way_into : (f : Code) (l t : ℕ) (c d : Context) (loops : Bool) → is_loop (construct f t) ≡ loops → names f t ≡ 0 → Onto f l c t d
    → Region f Free t d → Way f Free l c t
way_into f l t c d true is unnamed onto r = comes {values = []} onto is tt r
way_into f l t c d false is unnamed onto r =
    enters onto (both_fail (not (names f t == 0)) (is_loop (construct f t)) (ap not (true_equal (names f t) 0 unnamed)) is) r

module _ (is_pointer : ℕ → Bool) (f : Code) (clean : IsClean is_pointer f) where
  -- what the walk comes to in at least so many steps, all but `room` of the blocks, has a region
  abbrev Grows : (room : ℕ) → Type 0
  Grows room = (n l : ℕ) (c : Context) → Path f n l c → length f ≤ room + n → Region f Free l c

  module _ (room : ℕ) (deeper : Grows room) (n l : ℕ) (c : Context) (p : Path f n l c) (far : length f ≤ suc room + n) where
    here : Walk f l c
    here = path_is_walked f n l c p

    at : IsWalked is_pointer f l c
    at = walked is_pointer f clean l c here

    further : length f ≤ room + (n + 1)
    further = omega arith

    entered : (t : ℕ) → EntersIn f l c at.block_of t → Way f Free l c t
    entered t on =
        let d : Context = behind (construct f l) l t c in
        way_into f l t c d (is_loop (construct f t)) refl (goes_unnamed f l t on.enters.free) (record { same = refl; enters = on.enters; tried = on.tried })
        (deeper (n + 1) t d (Onward p (StepEntered t on.tried on.enters)) further)

    way_to : (t : ℕ) → branches f l t ≡ true → Way f Free l c t
    way_to t branch = elim (at.settled_there.leads t branch) [
      | inl out ↦ leaf {values = []} (ap (λ e. is_exit (behind (construct f l) l t c) e t) at.end_there ∙ out) tt
      | inr on ↦ entered t on
    ]

    -- induction on the targets
    ways_to : (ts : List ℕ) → ((t : ℕ) → has ts t ≡ true → branches f l t ≡ true) → Ways f Free l c ts
    ways_to [] among = nowhere
    ways_to (t ∷ ts) among = more (way_to t (among t (has_head t ts t refl))) (ways_to ts (λ u h. among u (has_tail t ts u h)))

    merge_region : (m : ℕ) → merge_of (construct f l) ≡ Some m → Region f Free m c
    merge_region m e = deeper (n + 1) m c (Onward p (merges_on is_pointer f clean l m c here e)) further

    parts_of : (k : Option Construct) → construct f l ≡ k → Parts f Free l c k
    parts_of None e = bare
    parts_of (Some (ASelection m)) e = selection (at.settled_there.merge m (ap merge_of e)) (merge_region m (ap merge_of e))
    parts_of (Some (ASwitch m)) e = switch (at.settled_there.merge m (ap merge_of e)) (merge_region m (ap merge_of e))
    parts_of (Some (ALoop m t)) e =
        loop (at.settled_there.next t (ap next_of e)) (at.settled_there.merge m (ap merge_of e))
        (deeper (n + 1) t (InNext l m ∷ c)
        (Onward p (continues_on is_pointer f clean l t c (InNext l m ∷ c) here (ap next_of e) (ap (λ k. next_context k l c) e))) further)
        (merge_region m (ap merge_of e))

    grown : Region f Free l c
    grown =
        region refl here (arranged_firsts f l c (targets f l)) (ways_to (firsts (targets f l)) (λ t h. has_firsts (targets f l) t h))
        (parts_of (construct f l) refl)

  -- paths are shorter than the function: induction on what is left of it
  grow : (room : ℕ) → Grows room
  grow zero n l c p far = let short = paths_are_short is_pointer f clean n l c p in absurd (omega arith)
  grow (suc room) n l c p far = grown room (grow room) n l c p far

  -- ---- the whole function

  module _ (first : ℕ) (begins : is_first f first ≡ true) (one : (l : ℕ) → is_first f l ≡ true → l ≡ first) where
    whole : Region f Free first []
    whole = grow (length f) 0 first [] (Begins begins) (omega arith)

    labels : List ℕ
    labels = of_region f Free whole

    distinct : Distinct labels
    unfolding labels
    distinct = region_distinct f Free is_pointer clean whole

    label_has : (b : ℕ) → is_label f b ≡ true → has labels b ≡ true
    unfolding labels
    label_has b h =
        let found = labelled f b h in
        let w = clean.walked b found.0 found.1 in
        all_walked f Free (λ l c v. walked_runs is_pointer f clean l c v) whole one b w.0 w.1

    onward : (b t : ℕ) → is_label f b ≡ true → Forward f b t → Before labels b t
    unfolding labels
    onward b t h forward =
        subst (λ z. Before z b t) (append-nil (of_region f Free whole)) (region_onward f Free is_pointer clean whole [] tt b t (label_has b h) forward)

    whole_numbered : (number : ℕ → ℕ) × IsNumbered f number
    whole_numbered = (place_in labels, record { onward = λ b t h forward. before_less labels b t distinct (onward b t h forward) })

-- the blocks of a function in which no rule is broken can be numbered so that each step without back edges goes to a greater number
pub clean_is_numbered : (is_pointer : ℕ → Bool) (f : Code) → IsClean is_pointer f → 0 < length f → (number : ℕ → ℕ) × IsNumbered f number
clean_is_numbered is_pointer [] clean some = absurd (omega arith)
clean_is_numbered is_pointer (b ∷ bs) clean some =
    whole_numbered is_pointer (b ∷ bs) clean b.label (true_equal b.label b.label refl) (λ l h. sym (equal_true b.label l h))
