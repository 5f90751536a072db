-- Functions whose blocks have the same labels and terminators and are walked in the same contexts have the same exits.
use Rattle.std.proofs.Common.{◌≡◌, ℕ, ◌+◌, Bool, true, false, not, ◌&&◌, nat_lt, cond, List, [], ◌∷◌, ◌++◌, map, Option, refl, sym, ap, ◌∙◌}
use Rattle.std.specs.Prelude.{count_by}
use Rattle.std.proofs.lemmas.List.Sums.{sum_by-cons}
use Rattle.spv_module.specs.First.{here, unless}
use Rattle.spv_blocks.specs.Blocks.{Block, Code, End, end_targets, has, stops}
use Rattle.spv_blocks.specs.Cutting.{blocks_of}
use Rattle.spv_walk.specs.Contexts.{Context}
use Rattle.spv_walk.specs.Walk.{Walk}
use Rattle.spv_exits.specs.Exits.{AreNestedReturns, branching, crowded, crowded_among, exits_fit, is_inside, is_return, nested_by}
use Rattle.spv_editing.specs.Editing.{edited_function}
use Rattle.spv_editing.proofs.Soundness.{sound-kept}
use Rattle.spv_structured_edits.specs.Laws.{outline}
use Rattle.spv_structured_edits.specs.Exits.{ExitsStay}
use Rattle.spv_structured_edits.proofs.Outlines.{outline_stays}
use Rattle.spv_structured_edits.proofs.Walks.{IsListed, walk_stays, walked-runs}
use Rattle.spv_structured_edits.proofs.Whole.{opens_stays, structured_stays}

-- ---- counting

-- what is counted over blocks by their labels and terminators
counted-outline : (test : ℕ × End → Bool) (f : Code) → count_by (λ b. test (b.label, b.end)) f ≡ count_by test (outline f)
counted-outline test [] = refl
counted-outline test (b ∷ f) =
    sum_by-cons (λ (x : Block). cond (test (x.label, x.end)) 1 0) b f
    ∙ ap (λ (n : ℕ). cond (test (b.label, b.end)) 1 0 + n) (counted-outline test f)
    ∙ sym (sum_by-cons (λ (z : ℕ × End). cond (test z) 1 0) (b.label, b.end) (outline f))

labels-outline : (f : Code) → map (λ (b : Block). b.label) f ≡ map (λ (z : ℕ × End). z.0) (outline f)
labels-outline [] = refl
labels-outline (b ∷ f) = ap (λ (z : List ℕ). b.label ∷ z) (labels-outline f)

module _ (f g : Code) (alike : outline f ≡ outline g) where
  same-count : (test : ℕ × End → Bool) → count_by (λ b. test (b.label, b.end)) f ≡ count_by (λ b. test (b.label, b.end)) g
  same-count test = counted-outline test f ∙ ap (count_by test) alike ∙ sym (counted-outline test g)

  same-labels : map (λ (b : Block). b.label) f ≡ map (λ (b : Block). b.label) g
  same-labels = labels-outline f ∙ ap (map (λ (z : ℕ × End). z.0)) alike ∙ sym (labels-outline g)

  same-branching : (l : ℕ) → branching f l ≡ branching g l
  same-branching l = same-count (λ z. has (end_targets z.1) l)

  same-nested : (place : ℕ → Option Context) → nested_by place f ≡ nested_by place g
  same-nested place = same-count (λ z. is_return z.1 && is_inside (place z.0))

  -- ---- nested returns

  -- a table that is exact for the one is for the other
  nested-again : ((l : ℕ) (c : Context) → Walk f l c → Walk g l c) → ((l : ℕ) (c : Context) → Walk g l c → Walk f l c)
      → ((l : ℕ) (c : Context) → Walk f l c → stops f l ≡ false) → (n : ℕ) → AreNestedReturns f n → AreNestedReturns g n
  nested-again to back runs n h = record {
    place = h.place;
    walk = record {
      sound = λ l c placed. to l c (h.walk.sound l c placed);
      whole = λ l c walk goes. h.walk.whole l c (back l c walk) (runs l c (back l c walk));
      some = λ l c walk. h.walk.some l c (back l c walk);
    };
    same = h.same ∙ same-nested h.place;
  }

  -- ---- crowded blocks

  same-fit : (n l m : ℕ) → l ≡ m → exits_fit f n l ≡ exits_fit g n m
  same-fit n l m same = ap (λ (k : ℕ). not (nat_lt 16383 (k + n))) (ap (branching f) same ∙ same-branching m)

  -- none of some blocks of the one, so none of blocks with the same labels of the other: by induction on both lists
  none-among : (n : ℕ) (bs ds : List Block) → map (λ (b : Block). b.label) bs ≡ map (λ (b : Block). b.label) ds → crowded_among f n bs ≡ []
      → crowded_among g n ds ≡ []
  none-among n [] [] same none = refl
  none-among n [] (d ∷ ds) same none = absurd (cc same)
  none-among n (b ∷ bs) [] same none = absurd (cc same)
  none-among n (b ∷ bs) (d ∷ ds) same none = by (exits_fit f n b.label) refl none (λ rest. none-among n bs ds (cc same) rest)
    where
      by : (fits : Bool) → exits_fit f n b.label ≡ fits → here b.at (unless fits 607) ++ crowded_among f n bs ≡ []
          → (crowded_among f n bs ≡ [] → crowded_among g n ds ≡ []) → crowded_among g n (d ∷ ds) ≡ []
      by true fits rest more =
          ap (λ (t : Bool). here d.at (unless t 607) ++ crowded_among g n ds) (sym (same-fit n b.label d.label (cc same)) ∙ fits) ∙ more rest
      by false fits rest more = absurd (cc rest)

  none-crowded : (n : ℕ) → crowded f n ≡ [] → crowded g n ≡ []
  none-crowded n none = none-among n f g same-labels none

-- ---- edited functions

pub exits_stay : ExitsStay
exits_stay e is_pointer f insts again keeps sound opens structured listing edited_listing =
    let old : IsListed is_pointer f insts = record { sound = sound; structured = structured; opens = opens; listing = listing } in
    let new : IsListed is_pointer (edited_function e f) again = record {
      sound = sound-kept e f keeps sound;
      structured = structured_stays e is_pointer f sound structured;
      opens = opens_stays e f opens;
      listing = edited_listing;
    } in
    let alike : outline (blocks_of again) ≡ outline (blocks_of insts) = outline_stays e f insts again keeps sound opens listing edited_listing in
    let to : (l : ℕ) (c : Context) → Walk (blocks_of again) l c → Walk (blocks_of insts) l c =
    λ l c. (walk_stays e is_pointer f insts again keeps sound opens structured listing edited_listing l c).0 in
    let back : (l : ℕ) (c : Context) → Walk (blocks_of insts) l c → Walk (blocks_of again) l c =
    λ l c. (walk_stays e is_pointer f insts again keeps sound opens structured listing edited_listing l c).1 in
    record {
      labels = same-labels (blocks_of again) (blocks_of insts) alike;
      branches = same-branching (blocks_of again) (blocks_of insts) alike;
      nested = λ n. (
        nested-again (blocks_of again) (blocks_of insts) alike to back (walked-runs is_pointer (edited_function e f) again new) n,
        nested-again (blocks_of insts) (blocks_of again) (sym alike) back to (walked-runs is_pointer f insts old) n,
      );
      uncrowded = λ n. (none-crowded (blocks_of again) (blocks_of insts) alike n, none-crowded (blocks_of insts) (blocks_of again) (sym alike) n);
    }
