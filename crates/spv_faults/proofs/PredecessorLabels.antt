-- The labels of the blocks that branch to a block, from the numbers of these blocks.
use Rattle.std.proofs.Common.{◌≡◌, inl, inr, ℕ, zero, suc, ◌+◌, ◌<◌, ◌≤◌, Bool, true, false, cond, ◌==◌, ◌||◌, List, [], ◌∷◌, ◌++◌, length, filter, get_or, map, take, Option, Some, None, refl, sym, ap, subst, ◌∙◌, arith, add-one}
use Rattle.std.proofs.Math.Seq.{take-suc}
use Rattle.std.proofs.lemmas.List.{length-map, map-append, take_all}
use Rattle.std.specs.BTreeSet.{BTreeSet, Updates}
use Rattle.std.specs.List.{Contains, slice_get}
use Rattle.std.specs.Option.{is_some, option_map, unwrap_or}
use Rattle.std.specs.Ordering.{nat_cmp}
use Rattle.graph.specs.Rows.{row, HasEdge}
use Rattle.graph.proofs.Edges.{reversed-edge}
use Rattle.graph.proofs.Elements.{contains_first, contains_later, contains_cases, contains_none}
use Rattle.spv_blocks.specs.Blocks.{Block, Code, block, branches, has, is_some_block, of_block, end_targets}
use Rattle.spv_blocks.specs.Edges.{rows_of, predecessors_of}
use Rattle.spv_blocks.specs.Places.{place, row_of}
use Rattle.spv_blocks.proofs.EdgeLaws.{are_branches}
use Rattle.spv_blocks.proofs.FoundLaws.{block-label}
use Rattle.spv_blocks.proofs.PlaceSteps.{block-at, label-place}
use Rattle.spv_walk.specs.Numbering.{HasOwnLabels}
use Rattle.spv_walk.specs.Phis.{predecessors}
use Rattle.spv_walk.proofs.Unique.{equal_true, true_equal, left_holds, right_holds, either_holds}
use Rattle.spv_faults.specs.Once.{IsSetOf}
use Rattle.spv_faults.proofs.Repetition.{set-push}

-- the label of the i-th block
abbrev pub label_at : Code → ℕ → ℕ
label_at f i = of_block (λ b. b.label) 0 (slice_get f i)

abbrev pub labels_at : Code → List ℕ → List ℕ
labels_at f is = map (label_at f) is

-- ---- elements

pub element-at : (xs : List ℕ) (k : ℕ) → k < length xs → Contains xs (get_or xs k 0)
element-at [] k h = absurd (omega arith)
element-at (x ∷ xs) zero h = contains_first xs x
element-at (x ∷ xs) (suc k) h = contains_later xs x (get_or xs k 0) (element-at xs k (omega arith))

-- a label among those of some blocks
labelled : (f : Code) (is : List ℕ) (x : ℕ) → has (labels_at f is) x ≡ true → (i : ℕ) × Contains is i × (label_at f i ≡ x)
labelled f [] x h = absurd (cc (h))
labelled f (i ∷ is) x h = elim (either_holds (label_at f i == x) (has (labels_at f is) x) h) [
  | inl e ↦ (i, contains_first is i, equal_true (label_at f i) x e)
  | inr e ↦ let later = labelled f is x e in (later.0, contains_later is i later.0 later.1, later.2)
]

labels-have : (f : Code) (is : List ℕ) (i x : ℕ) → Contains is i → label_at f i ≡ x → has (labels_at f is) x ≡ true
labels-have f [] i x h e = absurd (contains_none i h)
labels-have f (j ∷ is) i x h e = elim (contains_cases is j i h) [
  | inl same ↦ left_holds (label_at f j == x) (has (labels_at f is) x) (true_equal (label_at f j) x (sym (ap (label_at f) same) ∙ e))
  | inr later ↦ right_holds (label_at f j == x) (has (labels_at f is) x) (labels-have f is i x later e)
]

-- ---- blocks with labels of their own

some_step : (t : Bool) (b : Block) (later : Option Block) (rest : Bool) → rest ≡ is_some_block later → (t || rest) ≡ is_some_block (cond t (Some b) later)
some_step true b later rest h = refl
some_step false b later rest h = h

labels-block : (f : Code) (x : ℕ) → has (map (λ b. b.label) f) x ≡ is_some_block (block f x)
labels-block [] x = refl
labels-block (b ∷ f) x = some_step (b.label == x) b (block f x) (has (map (λ c. c.label) f) x) (labels-block f x)

block_there : (f : Code) (i : ℕ) → i < length f → (b : Block) × (slice_get f i ≡ Some b)
block_there [] i h = absurd (omega arith)
block_there (b ∷ f) zero h = (b, refl)
block_there (b ∷ f) (suc i) h = block_there f i (omega arith)

label_there : (f : Code) (i : ℕ) (b : Block) → slice_get f i ≡ Some b → has (map (λ c. c.label) f) b.label ≡ true
label_there [] i b h = absurd (cc (h))
label_there (c ∷ f) zero b h = left_holds (c.label == b.label) (has (map (λ d. d.label) f) b.label) (true_equal c.label b.label (ap (λ o. of_block (λ d. d.label) 0 o) h))
label_there (c ∷ f) (suc i) b h = right_holds (c.label == b.label) (has (map (λ d. d.label) f) b.label) (label_there f i b h)

place_there : (o : Option ℕ) → is_some o ≡ true → (j : ℕ) × (o ≡ Some j)
place_there None h = absurd (cc (h))
place_there (Some j) h = (j, refl)

some_there : (o : Option Block) → is_some_block o ≡ true → (b : Block) × (o ≡ Some b)
some_there None h = absurd (cc (h))
some_there (Some b) h = (b, refl)

-- the place of the label of the i-th block is i
pub own-place : (f : Code) → HasOwnLabels f → (i : ℕ) (b : Block) → slice_get f i ≡ Some b → place f b.label ≡ Some i
own-place f own i b at =
    let there : is_some_block (block f b.label) ≡ true = sym (labels-block f b.label) ∙ label_there f i b at in
    let found = place_there (place f b.label) (label-place f b.label ∙ there) in
    let other = some_there (block f b.label) there in
    let same : found.0 ≡ i = own found.0 i other.0 b (block-at f b.label found.0 found.1 ∙ other.1) at (block-label f b.label other.0 other.1) in
    found.1 ∙ ap (λ k. Some k) same

pub own-block : (f : Code) → HasOwnLabels f → (i : ℕ) (b : Block) → slice_get f i ≡ Some b → block f b.label ≡ Some b
own-block f own i b at = sym (block-at f b.label i (own-place f own i b at)) ∙ at

-- ---- the blocks that branch to one

has-filter : (test : ℕ → Bool) (xs : List ℕ) (x : ℕ) → has xs x ≡ true → test x ≡ true → has (filter test xs) x ≡ true
has-filter test [] x h e = h
has-filter test (y ∷ xs) x h e = elim (either_holds (y == x) (has xs x) h) [
  | inl is ↦ kept_here (test y) (filter test xs) y (subst (λ z. test z ≡ true) (sym (equal_true y x is)) e) is
  | inr later ↦ kept_later (test y) (filter test xs) y (has-filter test xs x later e)
]
  where
    kept_here : (t : Bool) (ys : List ℕ) (y : ℕ) → t ≡ true → (y == x) ≡ true → has (cond t (y ∷ ys) ys) x ≡ true
    kept_here true ys y h e = left_holds (y == x) (has ys x) e
    kept_here false ys y h e = absurd (cc)

    kept_later : (t : Bool) (ys : List ℕ) (y : ℕ) → has ys x ≡ true → has (cond t (y ∷ ys) ys) x ≡ true
    kept_later true ys y h = right_holds (y == x) (has ys x) h
    kept_later false ys y h = h

filter-passes : (test : ℕ → Bool) (xs : List ℕ) (x : ℕ) → has (filter test xs) x ≡ true → test x ≡ true
filter-passes test [] x h = absurd (cc (h))
filter-passes test (y ∷ xs) x h = kept_cases (test y) refl h (filter-passes test xs x)
  where
    kept_cases : (t : Bool) → test y ≡ t → has (cond t (y ∷ filter test xs) (filter test xs)) x ≡ true → (has (filter test xs) x ≡ true → test x ≡ true) → test x ≡ true
    kept_cases true e g passes = elim (either_holds (y == x) (has (filter test xs) x) g) [
      | inl is ↦ subst (λ z. test z ≡ true) (equal_true y x is) e
      | inr later ↦ passes later
    ]
    kept_cases false e g passes = passes g

branch_block : (o : Option Block) (t : ℕ) → has (of_block (λ b. end_targets b.end) [] o) t ≡ true → is_some_block o ≡ true
branch_block None t h = absurd (cc (h))
branch_block (Some b) t h = refl

module _ (f : Code) (own : HasOwnLabels f) (l j : ℕ) (at : place f l ≡ Some j) where
  edge_within : (i : ℕ) → HasEdge (predecessors_of f) j i → i < length f
  edge_within i e = let less = (reversed-edge (rows_of f) i j e).1 in let long = length-map f (row_of f) in omega arith

  labels-sound : (x : ℕ) → has (labels_at f (row (predecessors_of f) j)) x ≡ true → has (predecessors f l) x ≡ true
  labels-sound x h =
      let found = labelled f (row (predecessors_of f) j) x h in
      let b = block_there f found.0 (edge_within found.0 found.1) in
      let is : b.0.label ≡ x = sym (ap (of_block (λ c. c.label) 0) b.1) ∙ found.2 in
      let placed : place f x ≡ Some found.0 = subst (λ y. place f y ≡ Some found.0) is (own-place f own found.0 b.0 b.1) in
      let branch : branches f x l ≡ true = (are_branches f).branched x l found.0 j placed at found.1 in
      let named : has (map (λ c. c.label) f) x ≡ true = subst (λ y. has (map (λ c. c.label) f) y ≡ true) is (label_there f found.0 b.0 b.1) in
      has-filter (λ p. branches f p l) (map (λ c. c.label) f) x named branch

  labels-whole : (x : ℕ) → has (predecessors f l) x ≡ true → has (labels_at f (row (predecessors_of f) j)) x ≡ true
  labels-whole x h =
      let branch : branches f x l ≡ true = filter-passes (λ p. branches f p l) (map (λ c. c.label) f) x h in
      let there : is_some_block (block f x) ≡ true = branch_block (block f x) l branch in
      let found = place_there (place f x) (label-place f x ∙ there) in
      let b = some_there (block f x) there in
      let edge : HasEdge (predecessors_of f) j found.0 = (are_branches f).predecessor x l found.0 j found.1 at branch in
      labels-have f (row (predecessors_of f) j) found.0 x edge
      (ap (of_block (λ c. c.label) 0) (block-at f x found.0 found.1 ∙ b.1) ∙ block-label f x b.0 b.1)

  pub labels-same : (x : ℕ) → has (labels_at f (row (predecessors_of f) j)) x ≡ has (predecessors f l) x
  labels-same x =
      same_test (has (labels_at f (row (predecessors_of f) j)) x) (has (predecessors f l) x) (labels-sound x) (labels-whole x)
    where
      same_test : (a b : Bool) → (a ≡ true → b ≡ true) → (b ≡ true → a ≡ true) → a ≡ b
      same_test true b h k = sym (h refl)
      same_test false true h k = k refl
      same_test false false h k = refl

-- ---- one after the other

pub number-within : (f : Code) (preds : List (List ℕ)) (j k : ℕ) (is : List ℕ) → preds ≡ predecessors_of f → is ≡ row preds j → k < length is → get_or is k 0 < length f
number-within f preds j k is same told within =
    let edge : HasEdge (predecessors_of f) j (get_or is k 0) = subst (λ xs. Contains xs (get_or is k 0)) (told ∙ ap (λ p. row p j) same) (element-at is k within) in
    let less = (reversed-edge (rows_of f) (get_or is k 0) j edge).1 in let long = length-map f (row_of f) in omega arith

label_is : (o : Option Block) (n : ℕ) → Some n ≡ option_map (λ b. b.label) o → n ≡ of_block (λ b. b.label) 0 o
label_is None n h = absurd (cc (h))
label_is (Some b) n h = ap (λ o. unwrap_or o n) h

pub labels-more : (f : Code) (is : List ℕ) (k n : ℕ) (old new : BTreeSet ℕ) → k < length is → Some n ≡ option_map (λ b. b.label) (slice_get f (get_or is k 0)) →
    IsSetOf (labels_at f (take k is)) old → Updates nat_cmp old new n true → IsSetOf (labels_at f (take (k + 1) is)) new
labels-more f is k n old new within told all updates =
    subst (λ xs. IsSetOf xs new)
    (ap (λ m. labels_at f (take k is) ++ m ∷ []) (label_is (slice_get f (get_or is k 0)) n told)
    ∙ sym (map-append (label_at f) (take k is) (get_or is k 0 ∷ []))
    ∙ ap (labels_at f) (sym (rw add-one (take-suc is k 0 within))))
    (set-push (labels_at f (take k is)) n old new all updates)

pub labels-all : (f : Code) (j k : ℕ) (set : BTreeSet ℕ) → length (row (predecessors_of f) j) ≤ k → IsSetOf (labels_at f (take k (row (predecessors_of f) j))) set →
    (l : ℕ) → HasOwnLabels f → place f l ≡ Some j → IsSetOf (predecessors f l) set
labels-all f j k set past all l own at = record {
  at = λ x. all.at x ∙ ap (λ xs. has (labels_at f xs) x) (take_all k (row (predecessors_of f) j) past) ∙ labels-same f own l j at x;
}
