-- The blocks of an edited function: each has the label, the context and the terminator that it had, by induction on the tree.
use Rattle.std.proofs.Common.{◌≡◌, ℕ, List, [], ◌∷◌, ◌++◌, map, refl, sym, ap, ◌∙◌}
use Rattle.std.proofs.lemmas.List.{map-append}
use Rattle.spv_blocks.specs.Blocks.{End}
use Rattle.spv_walk.specs.Contexts.{Context, InSelection, InArm, InBody, InNext}
use Rattle.spv_bodies.specs.Bodies.{Front, Entry, ByBranch, InPlace, Body, Leaves, Finishes, Step, Enters, Splits, Selects, Switches, Loops, Arms, Last, Also, Function, target}
use Rattle.spv_bodies.specs.Listing.{Branching}
use Rattle.spv_tree.specs.Branches.{branches_in}
use Rattle.spv_tree.specs.Sound.{AreFormed, IsFormed, IsSound}
use Rattle.spv_structured.specs.Structured.{first_end}
use Rattle.spv_structured.specs.Spots.{Spot, header_spots, others, others_of_arms, part_spots, spots_in}
use Rattle.spv_editing.specs.Editing.{Edit, edited, edited_arms, edited_entry, edited_function, steps_before}
use Rattle.spv_editing.proofs.Soundness.{target-kept}
use Rattle.spv_structured_edits.proofs.Ends.{end-kept}

-- what stays of a block
abbrev pub seen : Spot → ℕ × Context × End
seen s = (s.label, s.context, first_end s.body)

others-before : (lines : List (List ℕ)) (c : Context) (l : ℕ) (b : Body) → others c l (steps_before lines b) ≡ others c l b
others-before [] c l b = refl
others-before (words ∷ lines) c l b = others-before lines c l b

-- of two lists one behind the other
both : (xs ys vs ws : List Spot) → map seen xs ≡ map seen vs → map seen ys ≡ map seen ws → map seen (xs ++ ys) ≡ map seen (vs ++ ws)
both xs ys vs ws first second = map-append seen xs ys ∙ (λ i. first i ++ second i) ∙ sym (map-append seen vs ws)

-- a merge block or continue target, and the blocks behind it
part : (c : Context) (header : ℕ) (front : Front) (b d : Body) (behind after : List Spot) → first_end b ≡ first_end d → map seen behind ≡ map seen after
    → map seen (part_spots c header front b behind) ≡ map seen (part_spots c header front d after)
part c header front b d behind after ends rest = λ i. (front.label, c, ends i) ∷ rest i

module _ (e : Edit) (all : List Branching) where
  -- the header of a loop
  heads : (c : Context) (l : ℕ) (entry : Entry) (header : Front) (b d : Body) → first_end b ≡ first_end d
      → map seen (header_spots c l (edited_entry e entry) header b) ≡ map seen (header_spots c l entry header d)
  heads c l (ByBranch values) header b d ends = ap (λ (stop : End). (header.label, c, stop) ∷ []) ends
  heads c l InPlace header b d ends = refl

  mutual
    others-kept : (b : Body) (c : Context) (l : ℕ) → IsFormed all b → map seen (others c l (edited e b)) ≡ map seen (others c l b)
    others-kept (Leaves exit) c l h = refl
    others-kept (Finishes words) c l h = refl
    others-kept (Step words body) c l h = ap (map seen) (others-before (e.steps words) c l (edited e body)) ∙ others-kept body c l h.1
    others-kept (Enters label body) c l h = λ i. (label, c, end-kept e all body h i) ∷ others-kept body c label h i
    others-kept (Splits condition on exit body) c l h = others-kept body c l h.1
    others-kept (Selects control condition first second merge rest) c l h =
        both (others (InSelection merge.label ∷ c) l (edited e first))
        (others (InSelection merge.label ∷ c) l (edited e second) ++ part_spots c l merge (edited e rest) (others c merge.label (edited e rest)))
        (others (InSelection merge.label ∷ c) l first)
        (others (InSelection merge.label ∷ c) l second ++ part_spots c l merge rest (others c merge.label rest))
        (others-kept first (InSelection merge.label ∷ c) l h.3)
        (both (others (InSelection merge.label ∷ c) l (edited e second)) (part_spots c l merge (edited e rest) (others c merge.label (edited e rest)))
        (others (InSelection merge.label ∷ c) l second) (part_spots c l merge rest (others c merge.label rest))
        (others-kept second (InSelection merge.label ∷ c) l h.4)
        (part c l merge (edited e rest) rest (others c merge.label (edited e rest)) (others c merge.label rest) (end-kept e all rest h.5)
        (others-kept rest c merge.label h.5)))
    others-kept (Switches control selector cases arms merge rest) c l h =
        both (others_of_arms c l merge.label (edited_arms e arms)) (part_spots c l merge (edited e rest) (others c merge.label (edited e rest)))
        (others_of_arms c l merge.label arms) (part_spots c l merge rest (others c merge.label rest))
        (others-of-arms-kept arms c l merge.label h.2)
        (part c l merge (edited e rest) rest (others c merge.label (edited e rest)) (others c merge.label rest) (end-kept e all rest h.3)
        (others-kept rest c merge.label h.3))
    others-kept (Loops entry header control inner next continuing merge rest) c l h =
        let inside = InBody header.label merge.label next.label ∷ c in
        let going = InNext header.label merge.label ∷ c in
        let merged = part_spots c header.label merge rest (others c merge.label rest) in
        let merged-edited = part_spots c header.label merge (edited e rest) (others c merge.label (edited e rest)) in
        let continued = part_spots going header.label next continuing (others going next.label continuing ++ merged) in
        let continued-edited = part_spots going header.label next (edited e continuing) (others going next.label (edited e continuing) ++ merged-edited) in
        both (header_spots c l (edited_entry e entry) header (Loops InPlace header control (edited e inner) next (edited e continuing) merge (edited e rest)))
        (others inside header.label (edited e inner) ++ continued-edited)
        (header_spots c l entry header (Loops InPlace header control inner next continuing merge rest))
        (others inside header.label inner ++ continued)
        (heads c l entry header (Loops InPlace header control (edited e inner) next (edited e continuing) merge (edited e rest))
        (Loops InPlace header control inner next continuing merge rest) (end-kept e all inner h.4))
        (both (others inside header.label (edited e inner)) continued-edited (others inside header.label inner) continued
        (others-kept inner inside header.label h.4)
        (part going header.label next (edited e continuing) continuing (others going next.label (edited e continuing) ++ merged-edited)
        (others going next.label continuing ++ merged) (end-kept e all continuing h.5)
        (both (others going next.label (edited e continuing)) merged-edited (others going next.label continuing) merged
        (others-kept continuing going next.label h.5)
        (part c header.label merge (edited e rest) rest (others c merge.label (edited e rest)) (others c merge.label rest) (end-kept e all rest h.6)
        (others-kept rest c merge.label h.6)))))

    others-of-arms-kept : (arms : Arms) (c : Context) (l m : ℕ) → AreFormed all arms
        → map seen (others_of_arms c l m (edited_arms e arms)) ≡ map seen (others_of_arms c l m arms)
    others-of-arms-kept (Last arm) c l m h =
        ap (λ (t : ℕ). map seen (others (InArm l m t ∷ c) l (edited e arm))) (target-kept e arm h.0) ∙ others-kept arm (InArm l m (target arm) ∷ c) l h.1
    others-of-arms-kept (Also arm arms) c l m h =
        both (others (InArm l m (target (edited e arm)) ∷ c) l (edited e arm)) (others_of_arms c l m (edited_arms e arms))
        (others (InArm l m (target arm) ∷ c) l arm) (others_of_arms c l m arms)
        (ap (λ (t : ℕ). map seen (others (InArm l m t ∷ c) l (edited e arm))) (target-kept e arm h.0) ∙ others-kept arm (InArm l m (target arm) ∷ c) l h.1)
        (others-of-arms-kept arms c l m h.2)

-- each block of a function
pub spots-kept : (e : Edit) (f : Function) → IsSound f → map seen (spots_in (edited_function e f)) ≡ map seen (spots_in f)
spots-kept e f sound =
    λ i. (f.label, [], end-kept e (branches_in f) f.body sound.formed i) ∷ others-kept e (branches_in f) f.body [] f.label sound.formed i
