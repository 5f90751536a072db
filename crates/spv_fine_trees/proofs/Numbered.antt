-- The k-th OpFunction of a module begins its k-th function, and which of the module's instructions stand in that.
use Rattle.std.proofs.Common.{◌≡◌, ◌⊎◌, inl, inr, ℕ, zero, suc, ◌+◌, ◌<◌, Bool, true, false, cond, List, [], ◌∷◌, ◌++◌, Option, Some, None, refl, sym, ap, subst, ◌∙◌, length, take, arith}
use Rattle.std.specs.Prelude.{slice_get, count_by}
use Rattle.std.specs.List.{AllByRecursion}
use Rattle.std.specs.Option.{option_map}
use Rattle.std.proofs.lemmas.List.Sums.{sum_by-append, sum_by-cons}
use Rattle.std.proofs.lemmas.Option.{slice_get_within}
use Rattle.spv_module.specs.Code.{is_function, is_line}
use Rattle.spv_module.specs.Instruction.{Instruction}
use Rattle.spv_blocks.specs.Cutting.{function_from, function_insts, rest_of_function, starts_from}
use Rattle.spv_walk.proofs.Unique.{truth_apart}
use Rattle.spv_texts.proofs.Marks.{line_is_no_function}
use Rattle.spv_availability.specs.Places.{function_of}
use Rattle.spv_fine.proofs.Places.{get_behind, get_front, take_behind, take_front}
use Rattle.spv_fine_trees.proofs.Tidy.{IsIdle}

-- ---- counting

pub count_here : (i : Instruction) (is : List Instruction) → is_function i ≡ true → count_by is_function (i ∷ is) ≡ suc (count_by is_function is)
count_here i is h =
    sum_by-cons (λ j. cond (is_function j) 1 0) i is ∙ ap (λ (b : Bool). cond b 1 0 + count_by is_function is) h ∙ one_more (count_by is_function is)
  where
    one_more : (n : ℕ) → 1 + n ≡ suc n
    one_more n = omega arith

pub count_on : (i : Instruction) (is : List Instruction) → is_function i ≡ false → count_by is_function (i ∷ is) ≡ count_by is_function is
count_on i is h =
    sum_by-cons (λ j. cond (is_function j) 1 0) i is ∙ ap (λ (b : Bool). cond b 1 0 + count_by is_function is) h ∙ none_more (count_by is_function is)
  where
    none_more : (n : ℕ) → 0 + n ≡ n
    none_more n = omega arith

-- ---- functions by their numbers

starts_shift : (n k : ℕ) (is : List Instruction) → slice_get (starts_from (n + 1) is) k ≡ option_map suc (slice_get (starts_from n is) k)
starts_shift n k [] = refl
starts_shift n k (i ∷ is) = by (is_function i) k (λ j. starts_shift (n + 1) j is) where
  by : (b : Bool) (k : ℕ) → ((j : ℕ) → slice_get (starts_from (n + 1 + 1) is) j ≡ option_map suc (slice_get (starts_from (n + 1) is) j))
      → slice_get (cond b ((n + 1) ∷ starts_from (n + 1 + 1) is) (starts_from (n + 1 + 1) is)) k
      ≡ option_map suc (slice_get (cond b (n ∷ starts_from (n + 1) is) (starts_from (n + 1) is)) k)
  by true zero more = ap Some (omega arith)
  by true (suc k) more = more k
  by false k more = more k

from_shift : (i : Instruction) (is : List Instruction) (o : Option ℕ) → function_from (i ∷ is) (option_map suc o) ≡ function_from is o
from_shift i is None = refl
from_shift i is (Some n) = refl

function_first : (i : Instruction) (is : List Instruction) → is_function i ≡ true → function_insts 0 (i ∷ is) ≡ i ∷ rest_of_function is
function_first i is h = ap (λ (b : Bool). function_from (i ∷ is) (slice_get (cond b (0 ∷ starts_from (0 + 1) is) (starts_from (0 + 1) is)) 0)) h

function_later : (i : Instruction) (is : List Instruction) (k : ℕ) → is_function i ≡ true → function_insts (suc k) (i ∷ is) ≡ function_insts k is
function_later i is k h =
    ap (λ (b : Bool). function_from (i ∷ is) (slice_get (cond b (0 ∷ starts_from (0 + 1) is) (starts_from (0 + 1) is)) (suc k))) h
    ∙ ap (function_from (i ∷ is)) (starts_shift 0 k is) ∙ from_shift i is (slice_get (starts_from 0 is) k)

function_on : (i : Instruction) (is : List Instruction) (k : ℕ) → is_function i ≡ false → function_insts k (i ∷ is) ≡ function_insts k is
function_on i is k h =
    ap (λ (b : Bool). function_from (i ∷ is) (slice_get (cond b (0 ∷ starts_from (0 + 1) is) (starts_from (0 + 1) is)) k)) h
    ∙ ap (function_from (i ∷ is)) (starts_shift 0 k is) ∙ from_shift i is (slice_get (starts_from 0 is) k)

-- what stands before the k-th function, its OpFunction, and what stands behind that
pub record FunctionAt (insts : List Instruction) (k : ℕ) : Type 0 where
  pub before : List Instruction
  pub function : Instruction
  pub rest : List Instruction
  pub whole : insts ≡ before ++ function ∷ rest
  pub begins : is_function function ≡ true
  pub count : count_by is_function before ≡ k
  pub same : function_insts k insts ≡ function ∷ rest_of_function rest

function_behind : (i : Instruction) (is : List Instruction) (k : ℕ) → is_function i ≡ true → FunctionAt is k → FunctionAt (i ∷ is) (suc k)
function_behind i is k h f = record {
  before = i ∷ f.before;
  function = f.function;
  rest = f.rest;
  whole = ap (λ x. i ∷ x) f.whole;
  begins = f.begins;
  count = count_here i f.before h ∙ ap suc f.count;
  same = function_later i is k h ∙ f.same;
}

function_past : (i : Instruction) (is : List Instruction) (k : ℕ) → is_function i ≡ false → FunctionAt is k → FunctionAt (i ∷ is) k
function_past i is k h f = record {
  before = i ∷ f.before;
  function = f.function;
  rest = f.rest;
  whole = ap (λ x. i ∷ x) f.whole;
  begins = f.begins;
  count = count_on i f.before h ∙ f.count;
  same = function_on i is k h ∙ f.same;
}

-- by induction on the instructions
pub function_at : (insts : List Instruction) (k : ℕ) → k < count_by is_function insts → FunctionAt insts k
function_at [] k h = absurd (omega (arith, h))
function_at (i ∷ is) k h = by (is_function i) refl k h (function_at is) where
  by : (b : Bool) → is_function i ≡ b → (k : ℕ) → k < count_by is_function (i ∷ is) → ((j : ℕ) → j < count_by is_function is → FunctionAt is j)
      → FunctionAt (i ∷ is) k
  by true e zero l more = record { before = []; function = i; rest = is; whole = refl; begins = e; count = refl; same = function_first i is e }
  by true e (suc k) l more = function_behind i is k e (more k (omega (arith, l, count_here i is e)))
  by false e k l more = function_past i is k e (more k (subst (λ n. k < n) (count_on i is e) l))

-- ---- which instructions stand there

pub get_either : {X : Type 0} (xs ys : List X) (n : ℕ) (x : X) → slice_get (xs ++ ys) n ≡ Some x
    → (slice_get xs n ≡ Some x) ⊎ ((j : ℕ) × (n ≡ length xs + j) × (slice_get ys j ≡ Some x))
get_either [] ys n x e = inr (n, omega arith, e)
get_either (z ∷ xs) ys zero x e = inl e
get_either (z ∷ xs) ys (suc n) x e = elim (get_either xs ys n x e) [
  | inl h ↦ inl h
  | inr h ↦ inr (h.0, (let m = h.1 in omega (arith, m)), h.2)
]

count_both : (xs ys : List Instruction) → count_by is_function (xs ++ ys) ≡ count_by is_function xs + count_by is_function ys
count_both xs ys = sum_by-append (λ j. cond (is_function j) 1 0) xs ys

count_none : (is : List Instruction) (j : ℕ) → AllByRecursion (λ i. is_function i ≡ false) is → count_by is_function (take j is) ≡ 0
count_none is zero h = refl
count_none [] (suc j) h = refl
count_none (i ∷ is) (suc j) h = count_on i (take j is) h.0 ∙ count_none is j h.1

-- no more begin in front of a list than in the list
count_less : (is : List Instruction) (j n : ℕ) → count_by is_function is ≡ n → n < count_by is_function (take j is) → ⊥
count_less is zero n e h = absurd (omega (arith, h))
count_less [] (suc j) n e h = absurd (omega (arith, h))
count_less (i ∷ is) (suc j) n e h = by (is_function i) refl (λ m d l. count_less is j m d l) where
  by : (b : Bool) → is_function i ≡ b → ((m : ℕ) → count_by is_function is ≡ m → m < count_by is_function (take j is) → ⊥) → ⊥
  by true f more =
      let a = count_here i is f in
      let c = count_here i (take j is) f in
      more (count_by is_function is) refl (omega (arith, a, c, e, h))
  by false f more =
      let a = count_on i is f in
      let c = count_on i (take j is) f in
      more (count_by is_function is) refl (omega (arith, a, c, e, h))

-- where line marks alone stand up to the next OpFunction, any other instruction stands behind one
idle_count : (is : List Instruction) (q : ℕ) (i : Instruction) → IsIdle is → slice_get is q ≡ Some i → is_line i ≡ false
    → 0 < count_by is_function (take (suc q) is)
idle_count [] q i idle e plain = absurd (cc (e))
idle_count (x ∷ is) q i (inl f) e plain = let n = count_here x (take q is) f in omega (arith, n)
idle_count (x ∷ is) zero i (inr h) e plain =
    let same : x ≡ i = cc (e) in truth_apart (is_line i) (ap is_line (sym same) ∙ h.0) plain
idle_count (x ∷ is) (suc q) i (inr h) e plain =
    let n = count_on x (take (suc q) is) (line_is_no_function x h.0) in
    let m = idle_count is q i h.1 e plain in omega (arith, n, m)

module _ (insts before : List Instruction) (function : Instruction) (inner behind : List Instruction) (k : ℕ)
    (whole : insts ≡ before ++ ((function ∷ inner) ++ behind)) (begins : is_function function ≡ true) (count : count_by is_function before ≡ k)
    (none : AllByRecursion (λ i. is_function i ≡ false) inner) (idle : IsIdle behind) where
  abbrev pub those : List Instruction
  those = function ∷ inner

  number_at : (n : ℕ) → function_of insts n ≡ count_by is_function (take (n + 1) (before ++ (those ++ behind)))
  number_at n = ap (λ z. count_by is_function (take (n + 1) z)) whole

  counted_behind : (j : ℕ) → function_of insts (length before + j) ≡ k + count_by is_function (take (suc j) (those ++ behind))
  counted_behind j =
      let e : length before + j + 1 ≡ length before + suc j = omega arith in
      number_at (length before + j) ∙ ap (λ m. count_by is_function (take m (before ++ (those ++ behind)))) e
      ∙ ap (count_by is_function) (take_behind before (those ++ behind) (suc j)) ∙ count_both before (take (suc j) (those ++ behind))
      ∙ ap (λ m. m + count_by is_function (take (suc j) (those ++ behind))) count

  count_those : (j : ℕ) → count_by is_function (take (suc j) those) ≡ 1
  count_those j =
      let a = count_here function (take j inner) begins in
      let b = count_none inner j none in omega (arith, a, b)

  -- each instruction of the function stands in it
  pub stands_inside : (m : ℕ) (i : Instruction) → slice_get those m ≡ Some i
      → (slice_get insts (length before + m) ≡ Some i) × (function_of insts (length before + m) ≡ k + 1)
  stands_inside m i e = (
    ap (λ z. slice_get z (length before + m)) whole ∙ get_behind before (those ++ behind) m ∙ get_front those behind m i e,
    counted_behind m ∙ ap (λ z. k + count_by is_function z) (take_front those behind (suc m) (let l = slice_get_within those m i e in omega (arith, l)))
        ∙ ap (λ n. k + n) (count_those m),
  )

  -- and no other one that is no line mark
  pub located : (n : ℕ) (i : Instruction) → slice_get insts n ≡ Some i → is_line i ≡ false → function_of insts n ≡ k + 1
      → (m : ℕ) × (n ≡ length before + m) × (slice_get those m ≡ Some i)
  located n i e plain inside =
      elim (get_either before (those ++ behind) n i (ap (λ z. slice_get z n) (sym whole) ∙ e)) [
        | inl h ↦
            let l = slice_get_within before n i h in
            let c : count_by is_function (take (n + 1) before) ≡ k + 1 =
            ap (count_by is_function) (sym (take_front before (those ++ behind) (n + 1) (omega (arith, l)))) ∙ sym (number_at n) ∙ inside in
            absurd (count_less before (n + 1) k count (omega (arith, c)))
        | inr h ↦ elim (get_either those behind h.0 i h.2) [
          | inl g ↦ (h.0, h.1, g)
          | inr g ↦
              let c : function_of insts n ≡ k + count_by is_function (take (suc h.0) (those ++ behind)) = ap (function_of insts) h.1 ∙ counted_behind h.0 in
              let e2 : suc h.0 ≡ length those + suc g.0 = (let q = g.1 in omega (arith, q)) in
              let d : count_by is_function (take (suc h.0) (those ++ behind)) ≡ count_by is_function those + count_by is_function (take (suc g.0) behind) =
              ap (λ m. count_by is_function (take m (those ++ behind))) e2 ∙ ap (count_by is_function) (take_behind those behind (suc g.0))
              ∙ count_both those (take (suc g.0) behind) in
              let more = idle_count behind g.0 i idle g.2 plain in
              let one = count_here function inner begins in
              absurd (omega (arith, c, d, more, one, inside))
        ]
      ]
