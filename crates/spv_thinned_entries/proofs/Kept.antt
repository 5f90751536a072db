-- Tests that some of a list pass, of what is kept of it.
use Rattle.std.proofs.Common.{◌≡◌, ℕ, zero, suc, ◌+◌, Bool, true, false, cond, ◌||◌, List, [], ◌∷◌, filter, take, refl, sym, ap, ap₂, ◌∙◌, arith}
use Rattle.std.specs.Prelude.{count_by}
use Rattle.std.specs.List.{AllByRecursion, list_any}
use Rattle.std.proofs.lemmas.List.Sums.{sum_by-cons}
use Rattle.spv_module.specs.Instruction.{Instruction}
use Rattle.spv_meaning.specs.Statements.{words_of}
use Rattle.spv_norm_entries.proofs.Lists.{any_words}

pub all_take : {X : Type 0} (P : X → Type 0) (k : ℕ) (xs : List X) → AllByRecursion P xs → AllByRecursion P (take k xs)
all_take P zero xs h = tt
all_take P (suc k) [] h = tt
all_take P (suc k) (x ∷ xs) h = (h.0, all_take P k xs h.1)

-- where two tests are the same on each
pub any_on : {X : Type 0} (P : X → Type 0) (p q : X → Bool) → ((x : X) → P x → p x ≡ q x) → (xs : List X) → AllByRecursion P xs → list_any p xs ≡ list_any q xs
any_on P p q h [] all = refl
any_on P p q h (x ∷ xs) all = ap₂ (λ (a b : Bool). a || b) (h x all.0) (any_on P p q h xs all.1)

-- a test of words is the same where the words are
pub any_same_words : (p : List ℕ → Bool) (xs ys : List Instruction) → words_of xs ≡ words_of ys
    → list_any (λ (i : Instruction). p i.words) xs ≡ list_any (λ (i : Instruction). p i.words) ys
any_same_words p xs ys e = any_words p xs ∙ ap (list_any p) e ∙ sym (any_words p ys)

module _ (keep : Instruction → Bool) where
  -- what is kept is so, too
  pub all_kept : (P : Instruction → Type 0) (is : List Instruction) → AllByRecursion P is → AllByRecursion (λ i. P i × (keep i ≡ true)) (filter keep is)
  all_kept P [] all = tt
  all_kept P (i ∷ is) all = by (keep i) refl (all_kept P is all.1)
    where
      by : (b : Bool) → keep i ≡ b → AllByRecursion (λ i. P i × (keep i ≡ true)) (filter keep is)
          → AllByRecursion (λ i. P i × (keep i ≡ true)) (cond b (i ∷ filter keep is) (filter keep is))
      by true e more = ((all.0, e), more)
      by false e more = more

  -- what is not kept does not pass
  abbrev pub Misses : (Instruction → Bool) → Instruction → Type 0
  Misses p i = keep i ≡ false → p i ≡ false

  pub any_kept : (p : Instruction → Bool) (is : List Instruction) → AllByRecursion (Misses p) is → list_any p (filter keep is) ≡ list_any p is
  any_kept p [] all = refl
  any_kept p (i ∷ is) all = by (keep i) refl (any_kept p is all.1)
    where
      by : (b : Bool) → keep i ≡ b → list_any p (filter keep is) ≡ list_any p is → list_any p (cond b (i ∷ filter keep is) (filter keep is)) ≡ (p i || list_any p is)
      by true e more = ap (λ b. p i || b) more
      by false e more = more ∙ sym (ap (λ (b : Bool). b || list_any p is) (all.0 e))

  pub count_kept : (p : Instruction → Bool) (is : List Instruction) → AllByRecursion (Misses p) is → count_by p (filter keep is) ≡ count_by p is
  count_kept p [] all = refl
  count_kept p (i ∷ is) all = by (keep i) refl (count_kept p is all.1)
    where
      none_more : (n : ℕ) → n ≡ 0 + n
      none_more n = omega arith

      more_by : (n : ℕ) → n ≡ count_by p is → cond (p i) 1 0 + n ≡ count_by p (i ∷ is)
      more_by n e = ap (λ m. cond (p i) 1 0 + m) e ∙ sym (sum_by-cons (λ (j : Instruction). cond (p j) 1 0) i is)

      by : (b : Bool) → keep i ≡ b → count_by p (filter keep is) ≡ count_by p is → count_by p (cond b (i ∷ filter keep is) (filter keep is)) ≡ count_by p (i ∷ is)
      by true e more = sum_by-cons (λ (j : Instruction). cond (p j) 1 0) i (filter keep is) ∙ more_by (count_by p (filter keep is)) more
      by false e more =
          more ∙ none_more (count_by p is) ∙ ap (λ (b : Bool). cond b 1 0 + count_by p is) (sym (all.0 e))
          ∙ sym (sum_by-cons (λ (j : Instruction). cond (p j) 1 0) i is)

-- a test of words is passed as often where the words are the same
abbrev times : (List ℕ → Bool) → List (List ℕ) → ℕ
times p [] = 0
times p (w ∷ ws) = cond (p w) 1 0 + times p ws

count_words : (p : List ℕ → Bool) (is : List Instruction) → count_by (λ (i : Instruction). p i.words) is ≡ times p (words_of is)
count_words p [] = refl
count_words p (i ∷ is) = sum_by-cons (λ (j : Instruction). cond (p j.words) 1 0) i is ∙ ap (λ n. cond (p i.words) 1 0 + n) (count_words p is)

pub count_same_words : (p : List ℕ → Bool) (xs ys : List Instruction) → words_of xs ≡ words_of ys
    → count_by (λ (i : Instruction). p i.words) xs ≡ count_by (λ (i : Instruction). p i.words) ys
count_same_words p xs ys e = count_words p xs ∙ ap (times p) e ∙ sym (count_words p ys)
