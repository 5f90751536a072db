-- Variables in front, and none behind: what stands in the first block, and the same among lines.
use Rattle.std.proofs.Common.{◌≡◌, ◌⊎◌, inl, inr, ℕ, Bool, true, false, cond, ◌==◌, List, [], ◌∷◌, ◌++◌, map, refl, sym, ap, subst, ◌∙◌}
use Rattle.std.specs.List.{AllByRecursion}
use Rattle.spv_opcodes.specs.declared.op.TheConstants as op
use Rattle.spv_module.specs.Instruction.{Instruction, opcode}
use Rattle.spv_module.specs.Layout.{is_terminator}
use Rattle.spv_blocks.specs.Cutting.{is_label_mark, word}
use Rattle.spv_walk.proofs.Unique.{equal_true, truth_apart}
use Rattle.spv_normal.specs.Lines.{behind_label, up_to_terminator}
use Rattle.spv_normal.specs.Normal.{kept}
use Rattle.spv_tree.specs.Sound.{opcode_in}
use Rattle.spv_tree.specs.Tree.{words_of}

-- what stands in blocks: no OpFunction, no parameter and no line mark
pub record IsInner (o : ℕ) : Type 0 where
  pub function : (o == op.FUNCTION) ≡ false
  pub parameter : (o == op.FUNCTION_PARAMETER) ≡ false
  pub mark : (o == op.LINE) ≡ false
  pub end_mark : (o == op.NO_LINE) ≡ false

-- and no variable
pub record IsStill (o : ℕ) : Type 0 where
  pub inner : IsInner o
  pub variable : (o == op.VARIABLE) ≡ false

-- things of opcodes, as instructions and lines
abbrev pub Still : {A : Type 0} → (A → ℕ) → List A → Type 0
Still o xs = AllByRecursion (λ x. IsStill (o x)) xs

-- variables, and then none
abbrev pub Opens : {A : Type 0} → (A → ℕ) → List A → Type 0
Opens o [] = Unit {0}
Opens o (x ∷ xs) = IsInner (o x) × ((((o x == op.VARIABLE) ≡ true) × Opens o xs) ⊎ (((o x == op.VARIABLE) ≡ false) × Still o xs))

module _ {A : Type 0} (o : A → ℕ) where
  pub still_both : (xs ys : List A) → Still o xs → Still o ys → Still o (xs ++ ys)
  still_both [] ys h g = g
  still_both (x ∷ xs) ys h g = (h.0, still_both xs ys h.1 g)

  pub still_opens : (xs : List A) → Still o xs → Opens o xs
  still_opens [] h = tt
  still_opens (x ∷ xs) h = (h.0.inner, inr (h.0.variable, h.1))

  pub opens_tail : (x : A) (xs : List A) → Opens o (x ∷ xs) → Opens o xs
  opens_tail x xs h = elim h.1 [ inl v ↦ v.1 | inr n ↦ still_opens xs n.1 ]

  pub opens_both : (xs ys : List A) → Opens o xs → Still o ys → Opens o (xs ++ ys)
  opens_both [] ys h g = still_opens ys g
  opens_both (x ∷ xs) ys h g = (h.0, elim h.1 [ inl v ↦ inl (v.0, opens_both xs ys v.1 g) | inr n ↦ inr (n.0, still_both xs ys n.1 g) ])

  only : (x : A) (xs : List A) → Opens o (x ∷ xs) → Opens o (x ∷ [])
  only x xs h = (h.0, elim h.1 [ inl v ↦ inl (v.0, tt) | inr n ↦ inr (n.0, tt) ])

-- ---- parts of a block

still_up_to : (is : List Instruction) → Still opcode is → Still opcode (up_to_terminator is)
still_up_to [] h = tt
still_up_to (i ∷ is) h = by (is_terminator i) (still_up_to is h.1)
  where
    by : (b : Bool) → Still opcode (up_to_terminator is) → Still opcode (cond b (i ∷ []) (i ∷ up_to_terminator is))
    by true later = (h.0, tt)
    by false later = (h.0, later)

pub opens_up_to : (is : List Instruction) → Opens opcode is → Opens opcode (up_to_terminator is)
opens_up_to [] h = tt
opens_up_to (i ∷ is) h = by (is_terminator i) (λ g. opens_up_to is g)
  where
    by : (b : Bool) → (Opens opcode is → Opens opcode (up_to_terminator is)) → Opens opcode (cond b (i ∷ []) (i ∷ up_to_terminator is))
    by true later = only opcode i is h
    by false later = (h.0, elim h.1 [ inl v ↦ inl (v.0, later v.1) | inr n ↦ inr (n.0, still_up_to is n.1) ])

still_kept : (joined : Bool) (is : List Instruction) → Still opcode is → Still opcode (kept joined is)
still_kept joined [] h = tt
still_kept joined (i ∷ is) h = by (cond joined (is_terminator i) false) (still_kept joined is h.1)
  where
    by : (b : Bool) → Still opcode (kept joined is) → Still opcode (cond b [] (i ∷ kept joined is))
    by true later = tt
    by false later = (h.0, later)

pub opens_kept : (joined : Bool) (is : List Instruction) → Opens opcode is → Opens opcode (kept joined is)
opens_kept joined [] h = tt
opens_kept joined (i ∷ is) h = by (cond joined (is_terminator i) false) (λ g. opens_kept joined is g)
  where
    by : (b : Bool) → (Opens opcode is → Opens opcode (kept joined is)) → Opens opcode (cond b [] (i ∷ kept joined is))
    by true later = tt
    by false later = (h.0, elim h.1 [ inl v ↦ inl (v.0, later v.1) | inr n ↦ inr (n.0, still_kept joined is n.1) ])

-- a block behind another label has none
pub still_behind : (is : List Instruction) (l : ℕ) → Opens opcode is → Still opcode (behind_label is l)
still_behind [] l h = tt
still_behind (i ∷ is) l h = by (is_label_mark i) (word i 1 == l) refl (still_behind is l (opens_tail opcode i is h))
  where
    label_still : is_label_mark i ≡ true → Still opcode is
    label_still m = elim h.1 [
      | inl v ↦ truth_apart (opcode i == op.VARIABLE) v.0 (ap (λ o. o == op.VARIABLE) (equal_true (opcode i) op.LABEL m))
      | inr n ↦ n.1
    ]

    by : (mark here : Bool) → is_label_mark i ≡ mark → Still opcode (behind_label is l) → Still opcode (cond (cond mark here false) is (behind_label is l))
    by true true m later = label_still m
    by true false m later = later
    by false here m later = later

pub still_block : (is : List Instruction) → Still opcode is → (joined : Bool) → Still opcode (kept joined (up_to_terminator is))
still_block is h joined = still_kept joined (up_to_terminator is) (still_up_to is h)

-- ---- by the words

pub still_words : (xs : List Instruction) → Still opcode_in (words_of xs) → Still opcode xs
still_words [] h = tt
still_words (x ∷ xs) h = (h.0, still_words xs h.1)

pub opens_words : (xs : List Instruction) → Opens opcode_in (words_of xs) → Opens opcode xs
opens_words [] h = tt
opens_words (x ∷ xs) h = (h.0, elim h.1 [ inl v ↦ inl (v.0, opens_words xs v.1) | inr n ↦ inr (n.0, still_words xs n.1) ])

-- ---- lines that are made one for one

module _ (g : Instruction → List ℕ) (to : (i : Instruction) → IsStill (opcode i) → IsStill (opcode_in (g i))) where
  pub still_mapped : (is : List Instruction) → Still opcode is → Still opcode_in (map g is)
  still_mapped [] h = tt
  still_mapped (i ∷ is) h = (to i h.0, still_mapped is h.1)

  -- where a variable stays as it is
  pub opens_mapped : ((i : Instruction) → (opcode i == op.VARIABLE) ≡ true → opcode_in (g i) ≡ opcode i) → (is : List Instruction) → Opens opcode is
      → Opens opcode_in (map g is)
  opens_mapped keeps [] h = tt
  opens_mapped keeps (i ∷ is) h = elim h.1 [
    | inl v ↦ (
      subst IsInner (sym (keeps i v.0)) h.0,
      inl (ap (λ k. k == op.VARIABLE) (keeps i v.0) ∙ v.0, opens_mapped keeps is v.1),
    )
    | inr n ↦ let s = to i (record { inner = h.0; variable = n.0 }) in (s.inner, inr (s.variable, still_mapped is n.1))
  ]
