-- The labels at places, and which of them stand before a label.
use Rattle.std.proofs.Common.{◌≡◌, ℕ, ◌+◌, ◌<◌, ◌==◌, ◌||◌, Bool, true, false, List, [], ◌∷◌, ◌++◌, length, Option, Some, None, refl, sym, ap, ◌∙◌, inl, inr, subst, arith}
use Rattle.std.specs.List.{slice_get}
use Rattle.std.proofs.lemmas.Bool.{cases_lt}
use Rattle.std.proofs.lemmas.List.{get_or_append_left, get_or_push, length_push}
use Rattle.std.specs.Option.{is_some, option_map}
use Rattle.std.proofs.lemmas.Bool.Decides.{Decides-eqb, same_from_decides}
use Rattle.graph.specs.Rows.{row, HasEdge}
use Rattle.graph.proofs.Edges.{element-named, named-element}
use Rattle.spv_blocks.specs.Blocks.{Block, Code, block, branches, has, is_it, is_label, is_some_block, end_targets, of_block}
use Rattle.spv_blocks.specs.Places.{place}
use Rattle.spv_blocks.specs.Edges.{predecessors_of}
use Rattle.spv_blocks.proofs.EdgeLaws.{are_branches, has-named}
use Rattle.spv_blocks.proofs.FoundLaws.{block-label}
use Rattle.spv_blocks.proofs.PlaceSteps.{block-at, block-none, label-place, place-within}
use Rattle.spv_walk.proofs.Unique.{tells, true_equal, equal_true}
use Rattle.spv_entering.specs.Steps.{label_of}
use Rattle.spv_entering.specs.Flow.{Flow, IsFlow, AreLabelsAt, has_place, row_at, before}

-- ---- the label at a place

pub is_it_some : (i : ℕ) (o : Option ℕ) → is_it i o ≡ true → o ≡ Some i
is_it_some i None e = cc
is_it_some i (Some j) e = ap (λ k. Some k) (equal_true j i e)

pub some_is_it : (i : ℕ) (o : Option ℕ) → o ≡ Some i → is_it i o ≡ true
some_is_it i None e = cc
some_is_it i (Some j) e = true_equal j i (cc)

label_in : (o : Option Block) (q : ℕ) → is_some_block o ≡ true → ((b : Block) → o ≡ Some b → b.label ≡ q) → option_map (λ (b : Block). b.label) o ≡ Some q
label_in None q some label = cc
label_in (Some b) q some label = ap (λ k. Some k) (label b refl)

-- the block at the place of a label has it
pub label-there : (f : Code) (q i : ℕ) → place f q ≡ Some i → label_of f i ≡ Some q
label-there f q i at =
    ap (option_map (λ (b : Block). b.label)) (block-at f q i at)
    ∙ label_in (block f q) q (sym (label-place f q) ∙ ap is_some at) (block-label f q)

pub first-at : (f : Code) (i l q : ℕ) → label_of f i ≡ Some l → place f l ≡ Some i → is_it q (Some l) ≡ is_it i (place f q)
first-at f i l q at first =
    same_from_decides {P = l ≡ q} (l == q) (is_it i (place f q)) (Decides-eqb l q)
    ((λ e. some_equal (sym at ∙ label-there f q i (is_it_some i (place f q) e))), (λ e. some_is_it i (place f q) (ap (place f) (sym e) ∙ first)))
  where
    some_equal : Some l ≡ Some q → l ≡ q
    some_equal e = cc

not_there : (t : Bool) → (t ≡ true → ⊥) → false ≡ t
not_there true no_true = absurd (no_true refl)
not_there false no_true = refl

pub other-at : (f : Code) (i q : ℕ) → ((l : ℕ) → label_of f i ≡ Some l → place f l ≡ Some i → ⊥) → false ≡ is_it i (place f q)
other-at f i q other = not_there (is_it i (place f q)) (λ e. let at = is_it_some i (place f q) e in other q (label-there f q i at) at)

some_one : (l m : ℕ) → Some l ≡ Some m → l ≡ m
some_one l m e = cc

pub other-some : (f : Code) (i l first q : ℕ) → Some l ≡ label_of f i → Some first ≡ place f l → (first ≡ i → ⊥) → false ≡ is_it i (place f q)
other-some f i l first q label at other =
    other-at f i q
    (λ m e g.
    let same : m ≡ l = sym (some_one l m (label ∙ e)) in
    other (some_one first i (at ∙ sym (ap (place f) same) ∙ g)))

pub other-none : (f : Code) (i l q : ℕ) → Some l ≡ label_of f i → None ≡ place f l → false ≡ is_it i (place f q)
other-none f i l q label at =
    other-at f i q
    (λ m e g.
    let same : m ≡ l = sym (some_one l m (label ∙ e)) in
    let there : place f l ≡ Some i = sym (ap (place f) same) ∙ g in
    cc (at, there))

-- ---- the labels at places

has-push : (xs : List ℕ) (x q : ℕ) → has (xs ++ x ∷ []) q ≡ (has xs q || is_it q (Some x))
has-push [] x q = or_none (x == q)
  where
    or_none : (t : Bool) → (t || false) ≡ t
    or_none true = refl
    or_none false = refl
has-push (y ∷ xs) x q = ap (λ t. (y == q) || t) (has-push xs x q) ∙ or_assoc (y == q) (has xs q) (x == q)
  where
    or_assoc : (a b c : Bool) → (a || (b || c)) ≡ ((a || b) || c)
    or_assoc true b c = refl
    or_assoc false b c = refl

-- one place more
place-push : (places : List ℕ) (i : ℕ) (o : Option ℕ) → has_place (places ++ i ∷ []) o ≡ (has_place places o || is_it i o)
place-push places i None = refl
place-push places i (Some j) = has-push places i j ∙ ap (λ t. has places j || t) (same_from_decides {P = i ≡ j} (i == j) (j == i) (Decides-eqb i j) ((λ e. sym ((Decides-eqb j i).0 e)), (λ e. (Decides-eqb j i).1 (sym e))))

pub labels-none : (f : Code) → AreLabelsAt f [] []
labels-none f = record { named = λ q. none (place f q) }
  where
    none : (o : Option ℕ) → false ≡ has_place [] o
    none None = refl
    none (Some i) = refl

pub labels-more : (f : Code) (places labels : List ℕ) (i l : ℕ) → AreLabelsAt f places labels → ((q : ℕ) → is_it q (Some l) ≡ is_it i (place f q)) → AreLabelsAt f (places ++ i ∷ []) (labels ++ l ∷ [])
labels-more f places labels i l are at = record { named = λ q. has-push labels l q ∙ ap (λ t. t || is_it q (Some l)) (are.named q) ∙ ap (λ t. has_place places (place f q) || t) (at q) ∙ sym (place-push places i (place f q)) }

pub labels-same : (f : Code) (places labels : List ℕ) (i : ℕ) → AreLabelsAt f places labels → ((q : ℕ) → false ≡ is_it i (place f q)) → AreLabelsAt f (places ++ i ∷ []) labels
labels-same f places labels i are at = record { named = λ q. are.named q ∙ or_false (has_place places (place f q)) ∙ ap (λ t. has_place places (place f q) || t) (at q) ∙ sym (place-push places i (place f q)) }
  where
    or_false : (t : Bool) → t ≡ (t || false)
    or_false true = refl
    or_false false = refl

-- ---- what stands before a label

both_true : (a b : Bool) → (a ≡ true → b ≡ true) → (b ≡ true → a ≡ true) → a ≡ b
both_true true b to from = sym (to refl)
both_true false true to from = from refl
both_true false false to from = refl

no_branch : (o : Option Block) (t : ℕ) → None ≡ o → false ≡ has (of_block (λ (b : Block). end_targets b.end) [] o) t
no_branch None t e = refl
no_branch (Some b) t e = cc

from_place : (f : Code) (t q j : ℕ) (o : Option ℕ) → place f t ≡ Some j → place f q ≡ o → has_place (row (predecessors_of f) j) o ≡ branches f q t
from_place f t q j None at from = no_branch (block f q) t (block-none f q (sym from))
from_place f t q j (Some i) at from =
    both_true (has (row (predecessors_of f) j) i) (branches f q t)
    (λ e. (are_branches f).branched q t i j from at (named-element (row (predecessors_of f) j) i (sym (has-named (row (predecessors_of f) j) i) ∙ e)))
    (λ e. has-named (row (predecessors_of f) j) i ∙ element-named (row (predecessors_of f) j) i ((are_branches f).predecessor q t i j from at e))

-- rows that were filled for the first places
pub record AreRows (f : Code) (k : ℕ) (rows : List (List ℕ)) : Type 0 where
  pub count : length rows ≡ k
  pub each : (j : ℕ) → j < k → AreLabelsAt f (row (predecessors_of f) j) (row rows j)

pub rows-none : (f : Code) → AreRows f 0 []
rows-none f = record { count = refl; each = λ j less. absurd (omega arith) }

pub rows-more : (f : Code) (k : ℕ) (rows : List (List ℕ)) (r : List ℕ) → AreRows f k rows → AreLabelsAt f (row (predecessors_of f) k) r → AreRows f (k + 1) (rows ++ r ∷ [])
rows-more f k rows r are at = record {
  count = let long = length_push rows r in let was = are.count in omega arith;
  each = λ j less. elim (cases_lt j k) [
    | inl before ↦
        let within : j < length rows = let was = are.count in omega arith in
        subst (λ (x : List ℕ). AreLabelsAt f (row (predecessors_of f) j) x) (sym (get_or_append_left rows (r ∷ []) [] j within)) (are.each j before)
    | inr past ↦
        let same : k ≡ j = omega arith in
        let last : length rows ≡ j = are.count ∙ same in
        subst (λ (x : List ℕ). AreLabelsAt f (row (predecessors_of f) j) x) (sym (get_or_push rows r [] j last))
        (subst (λ (i : ℕ). AreLabelsAt f (row (predecessors_of f) i) r) same at)
  ];
}

before_at : (f : Code) (rows : List (List ℕ)) (t q : ℕ) (o : Option ℕ) → AreRows f (length f) rows → is_label f t ≡ true → place f t ≡ o → has (row_at rows o) q ≡ branches f q t
before_at f rows t q None are label at = let none : is_some (place f t) ≡ false = ap is_some at in let some = label-place f t in cc
before_at f rows t q (Some j) are label at = (are.each j (place-within f t j at)).named q ∙ from_place f t q j (place f q) at refl

pub rows-flow : (f : Code) (rows : List (List ℕ)) → AreRows f (length f) rows → IsFlow (record { code = f; rows = rows })
unfolding before
rows-flow f rows are = record { branch = λ t q label. before_at f rows t q (place f t) are label refl }
