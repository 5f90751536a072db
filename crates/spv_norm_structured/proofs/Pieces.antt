-- A module is instructions among which no function begins, and then functions, one after another: these are its functions.
use Rattle.std.proofs.Common.{◌≡◌, inl, inr, ℕ, zero, suc, ◌+◌, ◌<◌, Bool, true, false, cond, ◌==◌, ◌||◌, List, [], ◌∷◌, ◌++◌, map, length, slice_get, Some, refl, sym, ap, ◌∙◌, subst, arith}
use Rattle.std.specs.Prelude.{All, count_by}
use Rattle.std.specs.List.{AllByRecursion, flat_map, range_with_len}
use Rattle.std.proofs.lemmas.List.Elements.{All-head, All-tail}
use Rattle.spv_opcodes.specs.declared.op.TheConstants as op
use Rattle.spv_grammar.specs.Table.{row_of}
use Rattle.spv_module.specs.Code.{is_function}
use Rattle.spv_module.specs.Instruction.{Instruction, opcode}
use Rattle.spv_blocks.specs.Cutting.{function_insts, is_function_end, is_label_mark, rest_of_function}
use Rattle.spv_walk.proofs.Unique.{equal_true, tells, truth_apart}
use Rattle.spv_tree.specs.Sound.{is_one_of, is_step}
use Rattle.spv_spelling.specs.Whole.{IsText, block_marks, is_in_block}
use Rattle.spv_norm.specs.Norm.{outside}
use Rattle.spv_norm_means.proofs.InOrder.{functions_in, functions_are, joined}

-- ---- the instructions of a function

-- one that begins no function and ends none, and is no type of pointers
pub record IsPlain (i : Instruction) : Type 0 where
  pub begins : is_function i ≡ false
  pub ends : is_function_end i ≡ false
  pub pointer : (opcode i == op.TYPE_POINTER) ≡ false

-- OpFunction, plain instructions, OpFunctionEnd
pub record IsPiece (t : List Instruction) : Type 0 where
  pub function : Instruction
  pub inner : List Instruction
  pub last : Instruction
  pub same : t ≡ function ∷ (inner ++ last ∷ [])
  pub begins : opcode function ≡ op.FUNCTION
  pub plain : AllByRecursion IsPlain inner
  pub ends : opcode last ≡ op.FUNCTION_END

abbrev in_block : ℕ → Bool
in_block o =
    o == op.LABEL
    || (o == op.BRANCH || o == op.BRANCH_CONDITIONAL || o == op.SWITCH || o == op.RETURN || o == op.RETURN_VALUE || o == op.UNREACHABLE) || is_step o
    || is_one_of block_marks o

apart_from : (test : ℕ → Bool) (o p : ℕ) → test o ≡ true → test p ≡ false → (o == p) ≡ false
apart_from test o p is other = elim (tells (o == p)) [
  | inl e ↦ truth_apart (test o) is (ap test (equal_true o p e) ∙ other)
  | inr e ↦ e
]

block_plain : (i : Instruction) → is_in_block i ≡ true → IsPlain i
unfolding row_of
block_plain i h = record {
  begins = apart_from in_block (opcode i) op.FUNCTION h refl;
  ends = apart_from in_block (opcode i) op.FUNCTION_END h refl;
  pointer = apart_from in_block (opcode i) op.TYPE_POINTER h refl;
}

parameter_plain : (i : Instruction) → opcode i ≡ op.FUNCTION_PARAMETER → IsPlain i
parameter_plain i h = record {
  begins = ap (λ o. o == op.FUNCTION) h;
  ends = ap (λ o. o == op.FUNCTION_END) h;
  pointer = ap (λ o. o == op.TYPE_POINTER) h;
}

label_plain : (i : Instruction) → is_label_mark i ≡ true → IsPlain i
label_plain i h =
    let e = equal_true (opcode i) op.LABEL h in
    record { begins = ap (λ o. o == op.FUNCTION) e; ends = ap (λ o. o == op.FUNCTION_END) e; pointer = ap (λ o. o == op.TYPE_POINTER) e }

all_plain : (P : Instruction → Type 0) (is : List Instruction) → ((i : Instruction) → P i → IsPlain i) → All P is → AllByRecursion IsPlain is
all_plain P [] h a = tt
all_plain P (i ∷ is) h a = (h i (All-head P i is a), all_plain P is h (All-tail P i is a))

pub all_both : {A : Type 0} (P : A → Type 0) (xs ys : List A) → AllByRecursion P xs → AllByRecursion P ys → AllByRecursion P (xs ++ ys)
all_both P [] ys h g = g
all_both P (x ∷ xs) ys h g = (h.0, all_both P xs ys h.1 g)

pub piece_of_text : (t : List Instruction) → IsText t → IsPiece t
piece_of_text t s = record {
  function = s.function;
  inner = s.parameters ++ s.label ∷ s.blocks;
  last = s.last;
  same = s.same;
  begins = s.begins;
  plain =
      all_both IsPlain s.parameters (s.label ∷ s.blocks) (all_plain (λ i. opcode i ≡ op.FUNCTION_PARAMETER) s.parameters parameter_plain s.takes)
      (label_plain s.label s.first, all_plain (λ i. is_in_block i ≡ true) s.blocks block_plain s.inside);
  ends = s.ends;
}

-- ---- one function, and what stands behind it

rest_step : (i : Instruction) (is : List Instruction) (b c : Bool) → is_function i ≡ b → is_function_end i ≡ c
    → rest_of_function (i ∷ is) ≡ cond b [] (cond c (i ∷ []) (i ∷ rest_of_function is))
rest_step i is b c f e =
    ap (λ (z : Bool). cond z [] (cond (is_function_end i) (i ∷ []) (i ∷ rest_of_function is))) f
    ∙ ap (λ (z : Bool). cond b [] (cond z (i ∷ []) (i ∷ rest_of_function is))) e

end_no_function : (i : Instruction) → opcode i ≡ op.FUNCTION_END → is_function i ≡ false
end_no_function i h = ap (λ o. o == op.FUNCTION) h

end_ends : (i : Instruction) → opcode i ≡ op.FUNCTION_END → is_function_end i ≡ true
end_ends i h = ap (λ o. o == op.FUNCTION_END) h

-- by induction on the plain instructions
rest_is : (inner : List Instruction) (last : Instruction) (more : List Instruction) → AllByRecursion IsPlain inner → opcode last ≡ op.FUNCTION_END
    → rest_of_function ((inner ++ last ∷ []) ++ more) ≡ inner ++ last ∷ []
rest_is [] last more h e = rest_step last more false true (end_no_function last e) (end_ends last e)
rest_is (i ∷ is) last more h e =
    rest_step i ((is ++ last ∷ []) ++ more) false false h.0.begins h.0.ends ∙ ap (λ z. i ∷ z) (rest_is is last more h.1 e)

functions_step : (i : Instruction) (is : List Instruction) (b : Bool) → is_function i ≡ b
    → functions_in (i ∷ is) ≡ cond b ((i ∷ rest_of_function is) ∷ functions_in is) (functions_in is)
functions_step i is b h = ap (λ (z : Bool). cond z ((i ∷ rest_of_function is) ∷ functions_in is) (functions_in is)) h

inner_none : (inner : List Instruction) (last : Instruction) (more : List Instruction) → AllByRecursion IsPlain inner → opcode last ≡ op.FUNCTION_END
    → functions_in ((inner ++ last ∷ []) ++ more) ≡ functions_in more
inner_none [] last more h e = functions_step last more false (end_no_function last e)
inner_none (i ∷ is) last more h e = functions_step i ((is ++ last ∷ []) ++ more) false h.0.begins ∙ inner_none is last more h.1 e

piece_first : (t more : List Instruction) → IsPiece t → functions_in (t ++ more) ≡ t ∷ functions_in more
piece_first t more p =
    let tail = p.inner ++ p.last ∷ [] in
    ap (λ z. functions_in (z ++ more)) p.same
    ∙ functions_step p.function (tail ++ more) true (ap (λ o. o == op.FUNCTION) p.begins)
    ∙ ap (λ z. (p.function ∷ z) ∷ functions_in (tail ++ more)) (rest_is p.inner p.last more p.plain p.ends)
    ∙ ap (λ z. (p.function ∷ tail) ∷ z) (inner_none p.inner p.last more p.plain p.ends)
    ∙ ap (λ z. z ∷ functions_in more) (sym p.same)

-- ---- functions, one after another

functions_of_pieces : (ts : List (List Instruction)) → AllByRecursion IsPiece ts → functions_in (joined ts) ≡ ts
functions_of_pieces [] h = refl
functions_of_pieces (t ∷ ts) h = piece_first t (joined ts) h.0 ∙ ap (λ z. t ∷ z) (functions_of_pieces ts h.1)

outside_step : (i : Instruction) (is : List Instruction) (b : Bool) → is_function i ≡ b → outside (i ∷ is) ≡ cond b [] (i ∷ outside is)
outside_step i is b h = ap (λ (z : Bool). cond z [] (i ∷ outside is)) h

outside_none : (ts : List (List Instruction)) → AllByRecursion IsPiece ts → outside (joined ts) ≡ []
outside_none [] h = refl
outside_none (t ∷ ts) h =
    ap (λ z. outside (z ++ joined ts)) h.0.same
    ∙ outside_step h.0.function ((h.0.inner ++ h.0.last ∷ []) ++ joined ts) true (ap (λ o. o == op.FUNCTION) h.0.begins)

abbrev pub BeginsNone : Instruction → Type 0
BeginsNone i = is_function i ≡ false

-- behind instructions among which none begins
pub functions_behind : (xs : List Instruction) (ts : List (List Instruction)) → AllByRecursion BeginsNone xs → AllByRecursion IsPiece ts
    → functions_in (xs ++ joined ts) ≡ ts
functions_behind [] ts h p = functions_of_pieces ts p
functions_behind (x ∷ xs) ts h p = functions_step x (xs ++ joined ts) false h.0 ∙ functions_behind xs ts h.1 p

pub outside_front : (xs : List Instruction) (ts : List (List Instruction)) → AllByRecursion BeginsNone xs → AllByRecursion IsPiece ts
    → outside (xs ++ joined ts) ≡ xs
outside_front [] ts h p = outside_none ts p
outside_front (x ∷ xs) ts h p = outside_step x (xs ++ joined ts) false h.0 ∙ ap (λ z. x ∷ z) (outside_front xs ts h.1 p)

-- ---- by their numbers

mapped_at : {A : Type 0} (F : ℕ → A) (a n k : ℕ) (t : A) → slice_get (map F (range_with_len a n)) k ≡ Some t → F (a + k) ≡ t
mapped_at F a zero k t e = absurd (cc e)
mapped_at F a (suc n) zero t e = ap F (none_more a) ∙ (let h : F a ≡ t = cc e in h) where
  none_more : (m : ℕ) → m + 0 ≡ m
  none_more m = omega arith
mapped_at F a (suc n) (suc k) t e = ap F (one_more a k) ∙ mapped_at F (a + 1) n k t e where
  one_more : (m j : ℕ) → m + suc j ≡ (m + 1) + j
  one_more m j = omega arith

mapped_count : {A : Type 0} (F : ℕ → A) (a n : ℕ) → length (map F (range_with_len a n)) ≡ n
mapped_count F a zero = refl
mapped_count F a (suc n) = ap suc (mapped_count F (a + 1) n)

flat_joined : (F : ℕ → List Instruction) (a n : ℕ) → flat_map F (range_with_len a n) ≡ joined (map F (range_with_len a n))
flat_joined F a zero = refl
flat_joined F a (suc n) = ap (λ z. F a ++ z) (flat_joined F (a + 1) n)

pub function_at_place : (is : List Instruction) (ts : List (List Instruction)) → functions_in is ≡ ts → (k : ℕ) (t : List Instruction) → slice_get ts k ≡ Some t
    → function_insts k is ≡ t
function_at_place is ts e k t at =
    ap (λ m. function_insts m is) (none_more k)
    ∙ mapped_at (λ j. function_insts j is) 0 (count_by is_function is) k t (ap (λ z. slice_get z k) (sym (functions_are is) ∙ e) ∙ at)
  where
    none_more : (m : ℕ) → m ≡ 0 + m
    none_more m = omega arith

pub functions_count : (is : List Instruction) (ts : List (List Instruction)) → functions_in is ≡ ts → count_by is_function is ≡ length ts
functions_count is ts e =
    sym (mapped_count (λ j. function_insts j is) 0 (count_by is_function is)) ∙ ap length (sym (functions_are is) ∙ e)

pub functions_joined : (is : List Instruction) (ts : List (List Instruction)) → functions_in is ≡ ts
    → flat_map (λ k. function_insts k is) (range_with_len 0 (count_by is_function is)) ≡ joined ts
functions_joined is ts e =
    flat_joined (λ j. function_insts j is) 0 (count_by is_function is) ∙ ap joined (sym (functions_are is) ∙ e)

pub one_at : {A : Type 0} (xs : List A) (k : ℕ) → k < length xs → (x : A) × (slice_get xs k ≡ Some x)
one_at [] k h = absurd (omega (arith, h))
one_at (x ∷ xs) zero h = (x, refl)
one_at (x ∷ xs) (suc k) h = one_at xs k (omega arith)

pub all_at : {A : Type 0} (P : A → Type 0) (xs : List A) → ((k : ℕ) (x : A) → slice_get xs k ≡ Some x → P x) → AllByRecursion P xs
all_at P [] h = tt
all_at P (x ∷ xs) h = (h 0 x refl, all_at P xs (λ k y e. h (suc k) y e))

pub at_all : {A : Type 0} (P : A → Type 0) (xs : List A) → AllByRecursion P xs → (k : ℕ) (x : A) → slice_get xs k ≡ Some x → P x
at_all P [] h k x e = absurd (cc e)
at_all P (y ∷ ys) h zero x e = subst P (let s : y ≡ x = cc e in s) h.0
at_all P (y ∷ ys) h (suc k) x e = at_all P ys h.1 k x e
