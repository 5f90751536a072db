-- Labels, the places where they stand, and the blocks there.
use Rattle.std.proofs.Common.{◌≡◌, ℕ, ◌+◌, ◌==◌, ◌&&◌, not, Bool, true, false, cond, List, [], ◌∷◌, length, map, Option, Some, None, refl, sym, ap, ◌∙◌, arith}
use Rattle.std.specs.List.{count_by, slice_get}
use Rattle.std.specs.Option.{is_some, unwrap_or}
use Rattle.std.proofs.lemmas.Bool.Decides.{Decides-eqb, same_from_decides}
use Rattle.std.proofs.lemmas.List.Sums.{sum_by-cons}
use Rattle.spv_module.specs.Code.{is_function}
use Rattle.spv_module.specs.Instruction.{Instruction}
use Rattle.spv_blocks.specs.Blocks.{Block, Code, block, branches, end_targets, has, is_first, is_label, is_some_block, names, of_block}
use Rattle.spv_blocks.specs.Cutting.{starts_from}
use Rattle.spv_blocks.specs.Places.{place, number_of, row_of}
use Rattle.spv_blocks.specs.Laws.{AreFound, AreCounted}
use Rattle.spv_blocks.proofs.PlaceSteps.{block-at, label-place, place-within}

label_here : (t : Bool) (c b : Block) (l : ℕ) (later : Option Block) → (c.label == l) ≡ t → (later ≡ Some b → b.label ≡ l) → cond t (Some c) later ≡ Some b → b.label ≡ l
label_here true c b l later here behind found =
    let same : c ≡ b = ap (λ o. unwrap_or o c) found in
    ap (λ (x : Block). x.label) (sym same) ∙ (Decides-eqb c.label l).0 here
label_here false c b l later here behind found = behind found

-- the block of a label has it; induction on the blocks
pub block-label : (f : Code) (l : ℕ) (b : Block) → block f l ≡ Some b → b.label ≡ l
block-label [] l b found = cc
block-label (c ∷ f) l b found = label_here (c.label == l) c b l (block f l) refl (block-label f l b) found

pub place-label : (f : Code) (l k : ℕ) (b : Block) → place f l ≡ Some k → slice_get f k ≡ Some b → b.label ≡ l
place-label f l k b found at = block-label f l b (sym (block-at f l k found) ∙ at)

same_block : (x t : ℕ) (o : Option Block) → true ≡ is_some_block o → ((b : Block) → o ≡ Some b → b.label ≡ x) → ((b : Block) → o ≡ Some b → b.label ≡ t) → x ≡ t
same_block x t None some one other = cc
same_block x t (Some b) some one other = sym (one b refl) ∙ other b refl

-- labels at one place are the same
place-one : (f : Code) (x t j : ℕ) → place f x ≡ Some j → place f t ≡ Some j → x ≡ t
place-one f x t j first second =
    same_block x t (block f t) (sym (ap is_some second) ∙ label-place f t)
    (λ b here. place-label f x j b first (block-at f t j second ∙ here))
    (λ b here. block-label f t b here)

numbered : (f : Code) (x t j : ℕ) (at : Option ℕ) → place f x ≡ at → place f t ≡ Some j → unwrap_or at (length f + x) ≡ j → x ≡ t
numbered f x t j None there second same = let below = place-within f t j second in absurd (omega arith)
numbered f x t j (Some i) there second same = place-one f x t j (there ∙ ap (λ n. Some n) same) second

number-is : (f : Code) (x t j : ℕ) → place f t ≡ Some j → (number_of f x == j) ≡ (x == t)
number-is f x t j second =
    let there = Decides-eqb (number_of f x) j in
    same_from_decides {P = x ≡ t} (number_of f x == j) (x == t)
    ((λ e. numbered f x t j (place f x) refl second (there.0 e)), (λ e. there.1 (ap (number_of f) e ∙ ap (λ o. unwrap_or o (length f + t)) second)))
    (Decides-eqb x t)

-- a row has the number of a block where the labels have its label; induction on the labels
pub row-has : (f : Code) (xs : List ℕ) (t j : ℕ) → place f t ≡ Some j → has (map (number_of f) xs) j ≡ has xs t
row-has f [] t j second = refl
row-has f (x ∷ xs) t j second = cc (number-is f x t j second, row-has f xs t j second)

pub row-branches : (f : Code) (l t i j : ℕ) (b : Block) → place f l ≡ Some i → slice_get f i ≡ Some b → place f t ≡ Some j → has (row_of f b) j ≡ branches f l t
row-branches f l t i j b first at second =
    row-has f (end_targets b.end) t j second
    ∙ ap (λ o. has (of_block (λ c. end_targets c.end) [] o) t) (sym at ∙ block-at f l i first)

and_assoc : (a b c d : Bool) → (((a && b) && c) && d) ≡ (a && ((b && c) && d))
and_assoc true b c d = refl
and_assoc false b c d = refl

pub are_found : (f : Code) → AreFound f
are_found f = record {
  within = place-within f;
  found = block-at f;
  none = λ l e. sym (label-place f l) ∙ ap is_some e;
  label = place-label f;
  row = row-branches f;
  goes_on = λ l t. and_assoc (branches f l t) (is_label f t) (not (is_first f t)) (names f t == 0);
}

counted_here : (t : Bool) (n m : ℕ) (later : List ℕ) → length later ≡ m → length (cond t (n ∷ later) later) ≡ cond t 1 0 + m
counted_here true n m later e = omega arith
counted_here false n m later e = omega arith

-- induction on the instructions
starts-counted : (n : ℕ) (insts : List Instruction) → length (starts_from n insts) ≡ count_by is_function insts
starts-counted n [] = refl
starts-counted n (i ∷ insts) = counted_here (is_function i) n (count_by is_function insts) (starts_from (n + 1) insts) (starts-counted (n + 1) insts)
    ∙ sym (sum_by-cons (λ (j : Instruction). cond (is_function j) 1 0) i insts)

pub are_counted : (insts : List Instruction) → AreCounted insts
are_counted insts = starts-counted 0 insts
