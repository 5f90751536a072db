-- Lists of instructions in which one is put in, taken out or replaced, and how many words they have.
use Rattle.std.proofs.Common.{◌≡◌, ℕ, zero, suc, ◌+◌, ◌-◌, ◌<◌, ◌≤◌, List, [], ◌∷◌, ◌++◌, length, get_or, take, drop, map, Some, refl, sym, ap, ◌∙◌, arith}
use Rattle.std.specs.List.{slice_get, flat_map, insert, remove, slice_set}
use Rattle.std.proofs.lemmas.List.{length-append}
use Rattle.std.proofs.lemmas.List.Concat.{flat_map-append}
use Rattle.spv_module.specs.Instruction.{Instruction}
use Rattle.spv_placing.specs.Placing.{size_in}

-- what is replaced stands between what is before and what is behind it
pub set-split : {X : Type 0} (xs : List X) (k : ℕ) (x : X) → k < length xs → slice_set xs k x ≡ take k xs ++ x ∷ drop (suc k) xs
set-split [] k x h = absurd (omega (arith, h))
set-split (y ∷ ys) zero x h = refl
set-split (y ∷ ys) (suc k) x h = ap (λ zs. y ∷ zs) (set-split ys k x (omega (arith, h)))

pub get-split : {X : Type 0} (xs : List X) (k : ℕ) (x : X) → slice_get xs k ≡ Some x → xs ≡ take k xs ++ x ∷ drop (suc k) xs
get-split [] k x e = absurd (cc e)
get-split (y ∷ ys) zero x e = let same : y ≡ x = cc e in ap (λ z. z ∷ ys) same
get-split (y ∷ ys) (suc k) x e = ap (λ zs. y ∷ zs) (get-split ys k x e)

pub length-inserted : {X : Type 0} (xs : List X) (k : ℕ) (x : X) → length (insert xs k x) ≡ length xs + 1
length-inserted [] zero x = refl
length-inserted [] (suc k) x = refl
length-inserted (y ∷ ys) zero x = omega arith
length-inserted (y ∷ ys) (suc k) x = omega (arith, length-inserted ys k x)

abbrev pub words_of : List Instruction → ℕ
words_of insts = length (flat_map (λ (i : Instruction). i.words) insts)

pub words-append : (is js : List Instruction) → words_of (is ++ js) ≡ words_of is + words_of js
words-append is js =
    ap length (flat_map-append (λ (i : Instruction). i.words) is js)
    ∙ length-append (flat_map (λ (i : Instruction). i.words) is) (flat_map (λ (i : Instruction). i.words) js)

pub words-cons : (i : Instruction) (is : List Instruction) → words_of (i ∷ is) ≡ length i.words + words_of is
words-cons i is = length-append i.words (flat_map (λ (i : Instruction). i.words) is)

-- one instruction in the middle
pub words-middle : (is js : List Instruction) (i : Instruction) → words_of (is ++ i ∷ js) ≡ words_of is + length i.words + words_of js
words-middle is js i = omega (arith, words-append is (i ∷ js), words-cons i js)

-- the number of words of a draft
pub size-inserted : (insts : List Instruction) (i : Instruction) (k size size2 : ℕ) → size ≡ size_in insts → size2 ≡ size + length i.words
    → size2 ≡ size_in (insert insts k i)
size-inserted insts i k size size2 is more =
    let whole : words_of (take k insts ++ drop k insts) ≡ words_of insts = ap words_of (take_drop insts k) in
    omega (arith, is, more, words-middle (take k insts) (drop k insts) i, words-append (take k insts) (drop k insts), whole)
  where
    take_drop : (is : List Instruction) (k : ℕ) → take k is ++ drop k is ≡ is
    take_drop is zero = refl
    take_drop [] (suc k) = refl
    take_drop (i ∷ is) (suc k) = ap (λ js. i ∷ js) (take_drop is k)

size-split : (insts : List Instruction) (i : Instruction) (k : ℕ) → slice_get insts k ≡ Some i
    → size_in insts ≡ 5 + words_of (take k insts) + length i.words + words_of (drop (suc k) insts)
size-split insts i k at = omega (arith, ap words_of (get-split insts k i at), words-middle (take k insts) (drop (suc k) insts) i)

pub no_more : (insts : List Instruction) (i : Instruction) (k n size : ℕ) → slice_get insts k ≡ Some i → n ≡ length i.words → size ≡ size_in insts → n ≤ size
no_more insts i k n size at count is = omega (arith, size-split insts i k at, count, is)

pub size-removed : (insts : List Instruction) (i : Instruction) (k n size : ℕ) → slice_get insts k ≡ Some i → n ≡ length i.words → size ≡ size_in insts
    → size - n ≡ size_in (remove insts k)
size-removed insts i k n size at count is =
    omega (arith, size-split insts i k at, count, is, words-append (take k insts) (drop (suc k) insts))

pub size-replaced : (insts : List Instruction) (i new : Instruction) (k n size size2 : ℕ) → k < length insts → slice_get insts k ≡ Some i
    → n ≡ length i.words → size ≡ size_in insts → size2 ≡ (size - n) + length new.words → size2 ≡ size_in (slice_set insts k new)
size-replaced insts i new k n size size2 h at count is more =
    omega (
      arith,
      size-split insts i k at,
      count,
      is,
      more,
      ap words_of (set-split insts k new h),
      words-middle (take k insts) (drop (suc k) insts) new,
    )

pub size-front : (insts : List Instruction) (i : Instruction) (k : ℕ) → slice_get insts k ≡ Some i → size_in (take k insts) + length i.words ≤ size_in insts
size-front insts i k at = omega (arith, size-split insts i k at)
