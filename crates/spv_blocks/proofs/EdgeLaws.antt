-- The edges of a function are its branches.
use Rattle.std.proofs.Common.{◌≡◌, ℕ, zero, suc, ◌+◌, ◌<◌, ◌≤◌, ◌==◌, true, nat_eq, List, [], ◌∷◌, ◌++◌, length, take, map, Option, Some, None, refl, sym, ap, ◌∙◌, arith}
use Rattle.std.specs.List.{slice_get}
use Rattle.std.specs.Option.{option_map, unwrap_or}
use Rattle.std.proofs.lemmas.Bool.Decides.{Decides-eqb, same_from_decides}
use Rattle.std.proofs.lemmas.List.{map-append, length-map}
use Rattle.std.proofs.lemmas.Option.{get_or_from_slice_get, slice_get-map}
use Rattle.graph.specs.Rows.{row, HasEdge}
use Rattle.graph.specs.Reversing.{names as named_in}
use Rattle.graph.proofs.Edges.{element-named, named-element, edge-distinct, distinct-edge, edge-reversed, reversed-edge}
use Rattle.spv_blocks.specs.Blocks.{Block, Code, branches, has}
use Rattle.spv_blocks.specs.Places.{place, row_of}
use Rattle.spv_blocks.specs.Edges.{rows_of, AreBranches}
use Rattle.spv_blocks.proofs.FoundLaws.{row-branches}
use Rattle.spv_blocks.proofs.PlaceSteps.{place-within}
use Rattle.spv_blocks.proofs.Slices.{take-at}

-- one row more
rows-more : (f : Code) (k : ℕ) (b : Block) (rows rows2 : List (List ℕ)) (r : List ℕ) → slice_get f k ≡ Some b → r ≡ row_of f b →
    rows ≡ map (row_of f) (take k f) → rows2 ≡ rows ++ r ∷ [] → rows2 ≡ map (row_of f) (take (k + 1) f)
rows-more f k b rows rows2 r at same told more =
    more
    ∙ ap (λ front. front ++ r ∷ []) told
    ∙ ap (λ x. map (row_of f) (take k f) ++ x ∷ []) same
    ∙ sym (ap (map (row_of f)) (take-at f k b at) ∙ map-append (row_of f) (take k f) (b ∷ []))

rows-found : (f : Code) (k : ℕ) (found : Option Block) (rows rows2 : List (List ℕ)) (r : List ℕ) → slice_get f k ≡ found → Some r ≡ option_map (row_of f) found →
    rows ≡ map (row_of f) (take k f) → rows2 ≡ rows ++ r ∷ [] → rows2 ≡ map (row_of f) (take (k + 1) f)
rows-found f k None rows rows2 r at same told more = cc
rows-found f k (Some b) rows rows2 r at same told more = rows-more f k b rows rows2 r at (ap (λ o. unwrap_or o r) same) told more

pub rows-next : (f : Code) (k : ℕ) (rows rows2 : List (List ℕ)) (r : List ℕ) → Some r ≡ option_map (row_of f) (slice_get f k) →
    rows ≡ map (row_of f) (take k f) → rows2 ≡ rows ++ r ∷ [] → rows2 ≡ map (row_of f) (take (k + 1) f)
rows-next f k rows rows2 r same told more = rows-found f k (slice_get f k) rows rows2 r refl same told more

same_test : (x y : ℕ) → (y == x) ≡ nat_eq x y
same_test x y = same_from_decides {P = x ≡ y} (y == x) (nat_eq x y) ((λ e. sym ((Decides-eqb y x).0 e)), (λ e. (Decides-eqb y x).1 (sym e))) (Decides-eqb x y)

-- two ways to ask whether a list names a number
pub has-named : (xs : List ℕ) (x : ℕ) → has xs x ≡ named_in xs x
has-named [] x = refl
has-named (y ∷ xs) x = cc (same_test x y, has-named xs x)

-- the row of a block
row-at : (f : Code) (i : ℕ) (b : Block) → slice_get f i ≡ Some b → row (rows_of f) i ≡ row_of f b
row-at f i b at = get_or_from_slice_get (rows_of f) i (row_of f b) [] (slice_get-map (row_of f) f i ∙ ap (option_map (row_of f)) at)

none-past : (f : Code) (i : ℕ) → slice_get f i ≡ None → length f ≤ i
none-past [] i at = omega arith
none-past (b ∷ f) zero at = cc
none-past (b ∷ f) (suc i) at = let later = none-past f i at in omega arith

edge_at : (f : Code) (l t i j : ℕ) (found : Option Block) → slice_get f i ≡ found → i < length f → place f l ≡ Some i → place f t ≡ Some j → named_in (row (rows_of f) i) j ≡ branches f l t
edge_at f l t i j None at within first second = let past = none-past f i at in absurd (omega arith)
edge_at f l t i j (Some b) at within first second =
    ap (λ r. named_in r j) (row-at f i b at) ∙ sym (has-named (row_of f b) j) ∙ row-branches f l t i j b first at second

edge-branches : (f : Code) (l t i j : ℕ) → place f l ≡ Some i → place f t ≡ Some j → named_in (row (rows_of f) i) j ≡ branches f l t
edge-branches f l t i j first second = edge_at f l t i j (slice_get f i) refl (place-within f l i first) first second

long : (f : Code) → length (rows_of f) ≡ length f
long f = length-map f (row_of f)

branch-edge : (f : Code) (l t i j : ℕ) → place f l ≡ Some i → place f t ≡ Some j → branches f l t ≡ true → HasEdge (rows_of f) i j
branch-edge f l t i j first second branch = named-element (row (rows_of f) i) j (edge-branches f l t i j first second ∙ branch)

edge-branch : (f : Code) (l t i j : ℕ) → place f l ≡ Some i → place f t ≡ Some j → HasEdge (rows_of f) i j → branches f l t ≡ true
edge-branch f l t i j first second edge = sym (edge-branches f l t i j first second) ∙ element-named (row (rows_of f) i) j edge

below : (f : Code) (t j : ℕ) → place f t ≡ Some j → j < length (rows_of f)
below f t j second = let within = place-within f t j second in let same = long f in omega arith

pub are_branches : (f : Code) → AreBranches f
are_branches f = record {
  target = λ l t i j first second branch. edge-distinct (rows_of f) i j (below f t j second) (branch-edge f l t i j first second branch);
  branch = λ l t i j first second edge. edge-branch f l t i j first second ((distinct-edge (rows_of f) i j edge).0);
  predecessor = λ l t i j first second branch. edge-reversed (rows_of f) i j (below f t j second) (branch-edge f l t i j first second branch);
  branched = λ l t i j first second edge. edge-branch f l t i j first second ((reversed-edge (rows_of f) i j edge).0);
}
