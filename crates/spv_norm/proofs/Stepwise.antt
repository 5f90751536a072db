-- Lists of instructions, one instruction after the other.
use Rattle.std.proofs.Common.{◌≡◌, ℕ, zero, suc, ◌+◌, ◌<◌, ◌≤◌, Bool, true, false, cond, ◌||◌, ◌==◌, List, [], ◌∷◌, ◌++◌, filter, take, drop, length, slice_get, Some, refl, sym, ap, ◌∙◌, arith, append_assoc, append-nil}
use Rattle.std.specs.List.{list_any}
use Rattle.std.proofs.lemmas.Bool.{ne_eqb}
use Rattle.std.proofs.lemmas.List.{drop_at, take_at}
use Rattle.std.proofs.lemmas.List.Elements.{filter-append}
use Rattle.spv_opcodes.specs.declared.op.TheConstants as op
use Rattle.spv_module.specs.Code.{is_function}
use Rattle.spv_module.specs.Instruction.{Instruction, opcode}
use Rattle.spv_tree.specs.Tree.{words_of}
use Rattle.spv_norm.specs.Norm.{is_label_line, outside}

-- one more of the first elements
pub take_one_more : {X : Type 0} (xs : List X) (k : ℕ) (x : X) → slice_get xs k ≡ Some x → take (suc k) xs ≡ take k xs ++ x ∷ []
take_one_more [] k x e = absurd (cc (e))
take_one_more (y ∷ ys) zero x e = ap (λ z. z ∷ []) (cc (e))
take_one_more (y ∷ ys) (suc k) x e = ap (λ zs. y ∷ zs) (take_one_more ys k x e)

suc_more : (k : ℕ) → k + 1 ≡ suc k
suc_more k = omega arith

pub take_next : {X : Type 0} (xs : List X) (k : ℕ) (x : X) → slice_get xs k ≡ Some x → take (k + 1) xs ≡ take k xs ++ x ∷ []
take_next xs k x e = ap (λ n. take n xs) (suc_more k) ∙ take_one_more xs k x e

-- instructions that pass a test are added one by one
pub filtered_next : (test : Instruction → Bool) (old now after more : List Instruction) (k : ℕ) (x : Instruction) → now ≡ old ++ filter test (take k more)
    → after ≡ now ++ cond (test x) (x ∷ []) [] → slice_get more k ≡ Some x → after ≡ old ++ filter test (take (k + 1) more)
filtered_next test old now after more k x e d at =
    d ∙ ap (λ xs. xs ++ cond (test x) (x ∷ []) []) e ∙ append_assoc old (filter test (take k more)) (cond (test x) (x ∷ []) [])
    ∙ ap (λ xs. old ++ (filter test (take k more) ++ xs)) (one (test x) refl) ∙ ap (λ xs. old ++ xs) (sym (filter-append test (take k more) (x ∷ [])))
    ∙ ap (λ xs. old ++ filter test xs) (sym (take_next more k x at))
  where
    one : (z : Bool) → test x ≡ z → cond z (x ∷ []) [] ≡ filter test (x ∷ [])
    one true h = rw h refl
    one false h = rw h refl

-- the instructions that were added last come first, where those before them are moved behind them
pub last_first : (first last both turned : List Instruction) (n : ℕ) → n ≡ length first → both ≡ first ++ last → turned ≡ drop n both ++ take n both → turned ≡ last ++ first
last_first first last both turned n e d is = is ∙ rw (e, d) (cc (drop_at first last (length first) refl, take_at first last (length first) refl))

-- labels are added one by one
pub labelled_next : (before after : ℕ → Bool) (insts : List Instruction) (k : ℕ) (x : Instruction)
    → ((l : ℕ) → before l ≡ list_any (is_label_line l) (words_of (take k insts))) → ((l : ℕ) → after l ≡ (before l || is_label_line l x.words)) → slice_get insts k ≡ Some x
    → (l : ℕ) → after l ≡ list_any (is_label_line l) (words_of (take (k + 1) insts))
labelled_next before after insts k x e d at l =
    d l ∙ ap (λ z. z || is_label_line l x.words) (e l) ∙ sym (any_next l (take k insts))
    ∙ ap (λ is. list_any (is_label_line l) (words_of is)) (sym (take_next insts k x at))
  where
    any_next : (l : ℕ) (is : List Instruction) → list_any (is_label_line l) (words_of (is ++ x ∷ [])) ≡ (list_any (is_label_line l) (words_of is) || is_label_line l x.words)
    any_next l [] = last (is_label_line l x.words)
      where
        last : (z : Bool) → (z || false) ≡ z
        last true = refl
        last false = refl
    any_next l (i ∷ is) = ap (λ z. is_label_line l i.words || z) (any_next l is) ∙ around (is_label_line l i.words) (list_any (is_label_line l) (words_of is)) (is_label_line l x.words)
      where
        around : (a b c : Bool) → (a || (b || c)) ≡ ((a || b) || c)
        around true b c = refl
        around false b c = refl

-- ---- what stands before the first function

-- an instruction that begins no function stands outside, and what is behind it
pub outside_next : (insts : List Instruction) (k : ℕ) (x : Instruction) → take k insts ++ outside (drop k insts) ≡ outside insts → slice_get insts k ≡ Some x
    → is_function x ≡ false → take (k + 1) insts ++ outside (drop (k + 1) insts) ≡ outside insts
outside_next insts k x e at no_function =
    ap (λ n. take n insts ++ outside (drop n insts)) (suc_more k) ∙ ap (λ xs. xs ++ outside (drop (suc k) insts)) (take_one_more insts k x at)
    ∙ append_assoc (take k insts) (x ∷ []) (outside (drop (suc k) insts)) ∙ ap (λ xs. take k insts ++ xs) (sym (behind insts k at)) ∙ e
  where
    behind : (insts : List Instruction) (k : ℕ) → slice_get insts k ≡ Some x → outside (drop k insts) ≡ x ∷ outside (drop (suc k) insts)
    behind [] k h = absurd (cc (h))
    behind (i ∷ is) zero h =
        let same : i ≡ x = cc (h) in ap (λ z. outside (z ∷ is)) same ∙ ap (λ b. cond b [] (x ∷ outside is)) no_function
    behind (i ∷ is) (suc k) h = behind is k h

pub outside_ends : (insts : List Instruction) (k : ℕ) (x : Instruction) → take k insts ++ outside (drop k insts) ≡ outside insts → slice_get insts k ≡ Some x
    → is_function x ≡ true → take k insts ≡ outside insts
outside_ends insts k x e at begins = sym (append-nil (take k insts)) ∙ ap (λ xs. take k insts ++ xs) (sym (none insts k at)) ∙ e
  where
    none : (insts : List Instruction) (k : ℕ) → slice_get insts k ≡ Some x → outside (drop k insts) ≡ []
    none [] k h = absurd (cc (h))
    none (i ∷ is) zero h = let same : i ≡ x = cc (h) in ap (λ z. outside (z ∷ is)) same ∙ ap (λ b. cond b [] (x ∷ outside is)) begins
    none (i ∷ is) (suc k) h = none is k h

-- as much, where the opcode is told
pub outside_more : (insts : List Instruction) (k at : ℕ) (x : Instruction) → (take k insts ++ outside (drop k insts) ≡ outside insts) × (k ≤ length insts) → k < length insts
    → slice_get insts k ≡ Some x → at ≡ opcode x → (at ≡ op.FUNCTION → ⊥) → (take (k + 1) insts ++ outside (drop (k + 1) insts) ≡ outside insts) × (k + 1 ≤ length insts)
outside_more insts k at x (e, _) within is same other =
    (outside_next insts k x e is (ne_eqb (opcode x) op.FUNCTION (λ h. other (same ∙ h))), omega arith)

pub outside_over : (insts : List Instruction) (k at : ℕ) (x : Instruction) → (take k insts ++ outside (drop k insts) ≡ outside insts) × (k ≤ length insts) → slice_get insts k ≡ Some x
    → at ≡ opcode x → at ≡ op.FUNCTION → take k insts ≡ outside insts
outside_over insts k at x (e, _) is same begins = outside_ends insts k x e is (ap (λ n. n == op.FUNCTION) (sym same ∙ begins))
