-- The ids that an instruction uses, by its opcode, and what is asked of all of some.
use Rattle.std.proofs.Common.{◌≡◌, ℕ, suc, Bool, true, ◌==◌, ◌&&◌, List, [], ◌∷◌, drop, refl, ap, ap₂, ◌∙◌, eqb-true}
use Rattle.std.specs.List.{AllByRecursion, list_all, slice_index, zip}
use Rattle.spv_meaning.specs.Statements.{pairs}
use Rattle.spv_module.specs.Instruction.{Instruction, opcode}
use Rattle.spv_typing.specs.Kinds.{is_one_of}
use Rattle.spv_alike_uses.specs.Laws.{UsesWhatStays}
use Rattle.spv_alike_uses.proofs.Used.{word_uses, end_uses, used_word, used_words}
use Rattle.spv_alike_uses.proofs.Lookups.{Case, In, each}

module _ (c : Case) (i : Instruction) (uses : UsesWhatStays c.gone i) where
  pub word : (k o : ℕ) → word_uses k o ≡ true → (opcode i == o) ≡ true → In c (slice_index i.words (suc k))
  word k o h is = used_word (In c) i uses.whole uses.used k (ap (word_uses k) (eqb-true (opcode i) o is) ∙ h)

  pub words : (k o : ℕ) → end_uses k o ≡ true → (opcode i == o) ≡ true → AllByRecursion (In c) (drop (suc k) i.words)
  words k o h is = used_words (In c) i uses.whole uses.used k (ap (end_uses k) (eqb-true (opcode i) o is) ∙ h)

  pub one_word : (k : ℕ) (os : List ℕ) → list_all (word_uses k) os ≡ true → is_one_of os (opcode i) ≡ true → In c (slice_index i.words (suc k))
  one_word k os h is = used_word (In c) i uses.whole uses.used k (each (word_uses k) os h (opcode i) is)

  pub one_words : (k : ℕ) (os : List ℕ) → list_all (end_uses k) os ≡ true → is_one_of os (opcode i) ≡ true → AllByRecursion (In c) (drop (suc k) i.words)
  one_words k os h is = used_words (In c) i uses.whole uses.used k (each (end_uses k) os h (opcode i) is)

-- behind others; induction on both
pub zip_on : {X : Type 0} (P : ℕ → Type 0) (Q : X → Type 0) (f g : X → ℕ → Bool) → ((x : X) (id : ℕ) → Q x → P id → f x id ≡ g x id) → (xs : List X) (ids : List ℕ)
    → AllByRecursion Q xs → AllByRecursion P ids → list_all (λ pair. f pair.0 pair.1) (zip xs ids) ≡ list_all (λ pair. g pair.0 pair.1) (zip xs ids)
zip_on P Q f g h [] ids q p = refl
zip_on P Q f g h (x ∷ xs) [] q p = refl
zip_on P Q f g h (x ∷ xs) (id ∷ ids) q p = ap₂ (λ (a b : Bool). a && b) (h x id q.0 p.0) (zip_on P Q f g h xs ids q.1 p.1)

pub any_all : (ids : List ℕ) → AllByRecursion (λ id. Unit {0}) ids
any_all [] = tt
any_all (id ∷ ids) = (tt, any_all ids)

-- the first of each two
pub pairs_on : (P : ℕ → Type 0) (f g : ℕ → Bool) → ((id : ℕ) → P id → f id ≡ g id) → (ids : List ℕ) → AllByRecursion P ids
    → list_all (λ pair. f pair.0) (pairs ids) ≡ list_all (λ pair. g pair.0) (pairs ids)
pairs_on P f g h [] p = refl
pairs_on P f g h (a ∷ []) p = refl
pairs_on P f g h (a ∷ b ∷ ids) p = ap₂ (λ (x y : Bool). x && y) (h a p.0) (pairs_on P f g h ids p.1.1)
