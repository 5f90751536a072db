-- Variables in front, and none behind: what stands in the first block, and the same among lines.
use Rattle.std.proofs.Common.{◌≡◌, ◌⊎◌, inl, inr, ℕ, true, false, ◌==◌, List, [], ◌∷◌, ◌++◌}
use Rattle.std.specs.List.{AllByRecursion}
use Rattle.spv_opcodes.specs.declared.op.TheConstants as op
use Rattle.spv_module.specs.Instruction.{Instruction, opcode}
use Rattle.spv_tree.specs.Sound.{opcode_in}
use Rattle.spv_tree.specs.Tree.{words_of}

-- what stands in blocks: no OpFunction, no parameter and no line mark
pub record IsInner (o : ℕ) : Type 0 where
  pub function : (o == op.FUNCTION) ≡ false
  pub parameter : (o == op.FUNCTION_PARAMETER) ≡ false
  pub mark : (o == op.LINE) ≡ false
  pub end_mark : (o == op.NO_LINE) ≡ false

-- and no variable
pub record IsStill (o : ℕ) : Type 0 where
  pub inner : IsInner o
  pub variable : (o == op.VARIABLE) ≡ false

-- things of opcodes, as instructions and lines
abbrev pub Still : {A : Type 0} → (A → ℕ) → List A → Type 0
Still o xs = AllByRecursion (λ x. IsStill (o x)) xs

-- variables, and then none
abbrev pub Opens : {A : Type 0} → (A → ℕ) → List A → Type 0
Opens o [] = Unit {0}
Opens o (x ∷ xs) = IsInner (o x) × ((((o x == op.VARIABLE) ≡ true) × Opens o xs) ⊎ (((o x == op.VARIABLE) ≡ false) × Still o xs))

module _ {A : Type 0} (o : A → ℕ) where
  pub still_both : (xs ys : List A) → Still o xs → Still o ys → Still o (xs ++ ys)
  still_both [] ys h g = g
  still_both (x ∷ xs) ys h g = (h.0, still_both xs ys h.1 g)

  pub still_opens : (xs : List A) → Still o xs → Opens o xs
  still_opens [] h = tt
  still_opens (x ∷ xs) h = (h.0.inner, inr (h.0.variable, h.1))

  pub opens_tail : (x : A) (xs : List A) → Opens o (x ∷ xs) → Opens o xs
  opens_tail x xs h = elim h.1 [ inl v ↦ v.1 | inr n ↦ still_opens xs n.1 ]

  pub opens_both : (xs ys : List A) → Opens o xs → Still o ys → Opens o (xs ++ ys)
  opens_both [] ys h g = still_opens ys g
  opens_both (x ∷ xs) ys h g = (h.0, elim h.1 [ inl v ↦ inl (v.0, opens_both xs ys v.1 g) | inr n ↦ inr (n.0, still_both xs ys n.1 g) ])

  only : (x : A) (xs : List A) → Opens o (x ∷ xs) → Opens o (x ∷ [])
  only x xs h = (h.0, elim h.1 [ inl v ↦ inl (v.0, tt) | inr n ↦ inr (n.0, tt) ])

-- ---- by the words

pub still_words : (xs : List Instruction) → Still opcode_in (words_of xs) → Still opcode xs
still_words [] h = tt
still_words (x ∷ xs) h = (h.0, still_words xs h.1)

pub opens_words : (xs : List Instruction) → Opens opcode_in (words_of xs) → Opens opcode xs
opens_words [] h = tt
opens_words (x ∷ xs) h = (h.0, elim h.1 [ inl v ↦ inl (v.0, opens_words xs v.1) | inr n ↦ inr (n.0, still_words xs n.1) ])
