-- How many blocks branch to a label, by the edges of the function turned round.
use Rattle.std.proofs.Common.{◌≡◌, ℕ, zero, suc, ◌+◌, ◌<◌, ◌≤◌, Bool, true, false, cond, List, [], ◌∷◌, ◌++◌, length, map, take, Option, Some, refl, sym, ap, subst, ◌∙◌, arith}
use Rattle.std.specs.List.{count_by}
use Rattle.std.proofs.lemmas.List.{length-map, length_push, take_all}
use Rattle.std.proofs.lemmas.List.Sums.{count_by_more_no, count_by_more_yes, sum_by-cons}
use Rattle.graph.specs.Rows.{row}
use Rattle.graph.specs.Reversing.{names, predecessors_below, reversed}
use Rattle.graph.proofs.Edges.{row-reversed}
use Rattle.graph.proofs.Predecessors.{predecessors-more}
use Rattle.spv_blocks.specs.Blocks.{Block, Code, end_targets, has}
use Rattle.spv_blocks.specs.Edges.{rows_of, predecessors_of}
use Rattle.spv_blocks.specs.Places.{place, row_of}
use Rattle.spv_blocks.proofs.EdgeLaws.{has-named}
use Rattle.spv_blocks.proofs.FoundLaws.{row-has}
use Rattle.spv_blocks.proofs.PlaceSteps.{place-within}
use Rattle.spv_exits.specs.Exits.{branching}

none_taken : (test : List ℕ → Bool) (rows : List (List ℕ)) → 0 ≡ count_by test (take 0 rows)
none_taken test [] = refl
none_taken test (r ∷ rows) = refl

more_taken : (b : Bool) (xs : List ℕ) (n m m2 : ℕ) → length xs ≡ m → (b ≡ true → m2 ≡ m + 1) → (b ≡ false → m2 ≡ m) → length (cond b (xs ++ n ∷ []) xs) ≡ m2
more_taken true xs n m m2 e one none = length_push xs n ∙ ap (λ k. k + 1) e ∙ sym (one refl)
more_taken false xs n m m2 e one none = e ∙ sym (none refl)

-- induction on the number of rows
below-counted : (rows : List (List ℕ)) (j n : ℕ) → n ≤ length rows → length (predecessors_below n rows j) ≡ count_by (λ r. names r j) (take n rows)
below-counted rows j zero h = none_taken (λ r. names r j) rows
below-counted rows j (suc n) h =
    let one : suc n ≡ n + 1 = omega arith in
    let within : n < length rows = omega arith in
    subst (λ k. length (predecessors_below k rows j) ≡ count_by (λ r. names r j) (take k rows)) (sym one)
    (ap length (predecessors-more n rows j)
    ∙ more_taken (names (row rows n) j) (predecessors_below n rows j) n (count_by (λ r. names r j) (take n rows))
    (count_by (λ r. names r j) (take (n + 1) rows))
    (below-counted rows j n (omega arith))
    (λ e. count_by_more_yes (λ r. names r j) rows n [] within e)
    (λ e. count_by_more_no (λ r. names r j) rows n [] within e))

row-counted : (rows : List (List ℕ)) (j : ℕ) → j < length rows → length (row (reversed rows) j) ≡ count_by (λ r. names r j) rows
row-counted rows j h =
    ap length (row-reversed rows j h)
    ∙ below-counted rows j (length rows) (omega arith)
    ∙ ap (λ rs. count_by (λ r. names r j) rs) (take_all (length rows) rows (omega arith))

-- induction on the blocks
rows-counted : (f g : Code) (l j : ℕ) → place f l ≡ Some j → count_by (λ r. names r j) (map (row_of f) g) ≡ count_by (λ b. has (end_targets b.end) l) g
rows-counted f [] l j at = refl
rows-counted f (b ∷ g) l j at =
    sum_by-cons (λ r. cond (names r j) 1 0) (row_of f b) (map (row_of f) g)
    ∙ ap (λ t. cond t 1 0 + count_by (λ r. names r j) (map (row_of f) g)) (sym (has-named (row_of f b) j) ∙ row-has f (end_targets b.end) l j at)
    ∙ ap (λ n. cond (has (end_targets b.end) l) 1 0 + n) (rows-counted f g l j at)
    ∙ sym (sum_by-cons (λ (c : Block). cond (has (end_targets c.end) l) 1 0) b g)

-- a block has as many predecessors as branch to its label
pub predecessors-counted : (f : Code) (l j : ℕ) → place f l ≡ Some j → length (row (predecessors_of f) j) ≡ branching f l
predecessors-counted f l j at =
    let within = place-within f l j at in let long = length-map f (row_of f) in
    row-counted (rows_of f) j (omega arith) ∙ rows-counted f f l j at

pub row-branching : (f : Code) (l : ℕ) (found : Option ℕ) (j : ℕ) (preds : List (List ℕ)) (r : List ℕ) → found ≡ place f l → found ≡ Some j
    → preds ≡ predecessors_of f → r ≡ row preds j →
    (k : ℕ) → place f l ≡ Some k → length r ≡ branching f l
row-branching f l found j preds r told is same here k at =
    ap length (here ∙ ap (λ p. row p j) same) ∙ predecessors-counted f l j (sym told ∙ is)
