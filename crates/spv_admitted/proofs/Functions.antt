-- The k-th OpFunction of a module begins its k-th function.
use Rattle.std.proofs.Common.{◌≡◌, ℕ, zero, suc, ◌+◌, ◌<◌, Bool, true, false, cond, ◌==◌, ◌||◌, List, [], ◌∷◌, ◌++◌, Option, Some, None, refl}
use Rattle.std.proofs.Common.{ap, subst, ◌∙◌, arith}
use Rattle.std.specs.Prelude.{slice_get, count_by}
use Rattle.std.specs.List.{AllByRecursion, list_any}
use Rattle.std.specs.Option.{option_map}
use Rattle.std.proofs.lemmas.List.Sums.{sum_by-append, sum_by-cons}
use Rattle.spv_opcodes.specs.declared.op.TheConstants as op
use Rattle.spv_module.specs.Code.{is_function, is_line}
use Rattle.spv_module.specs.Instruction.{Instruction, opcode}
use Rattle.spv_blocks.specs.Cutting.{function_from, function_insts, is_function_end, is_label_mark, rest_of_function, starts_from}
use Rattle.spv_walk.proofs.Unique.{equal_true}

-- ---- counting

pub count_here : (i : Instruction) (is : List Instruction) → is_function i ≡ true → count_by is_function (i ∷ is) ≡ suc (count_by is_function is)
count_here i is h =
    sum_by-cons (λ j. cond (is_function j) 1 0) i is ∙ ap (λ (b : Bool). cond b 1 0 + count_by is_function is) h ∙ one_more (count_by is_function is)
  where
    one_more : (n : ℕ) → 1 + n ≡ suc n
    one_more n = omega arith

pub count_on : (i : Instruction) (is : List Instruction) → is_function i ≡ false → count_by is_function (i ∷ is) ≡ count_by is_function is
count_on i is h =
    sum_by-cons (λ j. cond (is_function j) 1 0) i is ∙ ap (λ (b : Bool). cond b 1 0 + count_by is_function is) h ∙ none_more (count_by is_function is)
  where
    none_more : (n : ℕ) → 0 + n ≡ n
    none_more n = omega arith

pub count_pushed : (is : List Instruction) (i : Instruction) → is_function i ≡ false → count_by is_function (is ++ i ∷ []) ≡ count_by is_function is
count_pushed is i h =
    sum_by-append (λ j. cond (is_function j) 1 0) is (i ∷ []) ∙ ap (λ n. count_by is_function is + n) (count_on i [] h) ∙ none_more (count_by is_function is)
  where
    none_more : (n : ℕ) → n + 0 ≡ n
    none_more n = omega arith

pub count_begun : (is : List Instruction) (i : Instruction) → is_function i ≡ true → count_by is_function (is ++ i ∷ []) ≡ count_by is_function is + 1
count_begun is i h =
    sum_by-append (λ j. cond (is_function j) 1 0) is (i ∷ []) ∙ ap (λ n. count_by is_function is + n) (count_here i [] h) ∙ one_more (count_by is_function is)
  where
    one_more : (n : ℕ) → n + suc 0 ≡ n + 1
    one_more n = omega arith

pub some_counted : (is : List Instruction) → 0 < count_by is_function is → list_any is_function is ≡ true
some_counted [] h = absurd (omega (arith, h))
some_counted (i ∷ is) h = by (is_function i) refl (some_counted is) where
  by : (b : Bool) → is_function i ≡ b → (0 < count_by is_function is → list_any is_function is ≡ true) → (b || list_any is_function is) ≡ true
  by true e more = refl
  by false e more = more (subst (λ n. 0 < n) (count_on i is e) h)

-- ---- functions by their numbers

starts_shift : (n k : ℕ) (is : List Instruction) → slice_get (starts_from (n + 1) is) k ≡ option_map suc (slice_get (starts_from n is) k)
starts_shift n k [] = refl
starts_shift n k (i ∷ is) = by (is_function i) k (λ j. starts_shift (n + 1) j is) where
  by : (b : Bool) (k : ℕ) → ((j : ℕ) → slice_get (starts_from (n + 1 + 1) is) j ≡ option_map suc (slice_get (starts_from (n + 1) is) j))
      → slice_get (cond b ((n + 1) ∷ starts_from (n + 1 + 1) is) (starts_from (n + 1 + 1) is)) k
      ≡ option_map suc (slice_get (cond b (n ∷ starts_from (n + 1) is) (starts_from (n + 1) is)) k)
  by true zero more = ap Some (omega arith)
  by true (suc k) more = more k
  by false k more = more k

from_shift : (i : Instruction) (is : List Instruction) (o : Option ℕ) → function_from (i ∷ is) (option_map suc o) ≡ function_from is o
from_shift i is None = refl
from_shift i is (Some n) = refl

function_first : (i : Instruction) (is : List Instruction) → is_function i ≡ true → function_insts 0 (i ∷ is) ≡ i ∷ rest_of_function is
function_first i is h = ap (λ (b : Bool). function_from (i ∷ is) (slice_get (cond b (0 ∷ starts_from (0 + 1) is) (starts_from (0 + 1) is)) 0)) h

function_later : (i : Instruction) (is : List Instruction) (k : ℕ) → is_function i ≡ true → function_insts (suc k) (i ∷ is) ≡ function_insts k is
function_later i is k h =
    ap (λ (b : Bool). function_from (i ∷ is) (slice_get (cond b (0 ∷ starts_from (0 + 1) is) (starts_from (0 + 1) is)) (suc k))) h
    ∙ ap (function_from (i ∷ is)) (starts_shift 0 k is) ∙ from_shift i is (slice_get (starts_from 0 is) k)

function_on : (i : Instruction) (is : List Instruction) (k : ℕ) → is_function i ≡ false → function_insts k (i ∷ is) ≡ function_insts k is
function_on i is k h =
    ap (λ (b : Bool). function_from (i ∷ is) (slice_get (cond b (0 ∷ starts_from (0 + 1) is) (starts_from (0 + 1) is)) k)) h
    ∙ ap (function_from (i ∷ is)) (starts_shift 0 k is) ∙ from_shift i is (slice_get (starts_from 0 is) k)

-- what stands before the k-th function, its OpFunction, and what stands behind that
pub record FunctionAt (insts : List Instruction) (k : ℕ) : Type 0 where
  pub before : List Instruction
  pub function : Instruction
  pub rest : List Instruction
  pub whole : insts ≡ before ++ function ∷ rest
  pub begins : is_function function ≡ true
  pub count : count_by is_function before ≡ k
  pub same : function_insts k insts ≡ function ∷ rest_of_function rest

function_behind : (i : Instruction) (is : List Instruction) (k : ℕ) → is_function i ≡ true → FunctionAt is k → FunctionAt (i ∷ is) (suc k)
function_behind i is k h f = record {
  before = i ∷ f.before;
  function = f.function;
  rest = f.rest;
  whole = ap (λ x. i ∷ x) f.whole;
  begins = f.begins;
  count = count_here i f.before h ∙ ap suc f.count;
  same = function_later i is k h ∙ f.same;
}

function_past : (i : Instruction) (is : List Instruction) (k : ℕ) → is_function i ≡ false → FunctionAt is k → FunctionAt (i ∷ is) k
function_past i is k h f = record {
  before = i ∷ f.before;
  function = f.function;
  rest = f.rest;
  whole = ap (λ x. i ∷ x) f.whole;
  begins = f.begins;
  count = count_on i f.before h ∙ f.count;
  same = function_on i is k h ∙ f.same;
}

-- by induction on the instructions
pub function_at : (insts : List Instruction) (k : ℕ) → k < count_by is_function insts → FunctionAt insts k
function_at [] k h = absurd (omega (arith, h))
function_at (i ∷ is) k h = by (is_function i) refl k h (function_at is) where
  by : (b : Bool) → is_function i ≡ b → (k : ℕ) → k < count_by is_function (i ∷ is) → ((j : ℕ) → j < count_by is_function is → FunctionAt is j)
      → FunctionAt (i ∷ is) k
  by true e zero l more = record { before = []; function = i; rest = is; whole = refl; begins = e; count = refl; same = function_first i is e }
  by true e (suc k) l more = function_behind i is k e (more k (omega (arith, l, count_here i is e)))
  by false e k l more = function_past i is k e (more k (subst (λ n. k < n) (count_on i is e) l))

-- an OpFunction begins some function
pub record Begins (insts : List Instruction) (function : Instruction) : Type 0 where
  pub number : ℕ
  pub rest : List Instruction
  pub within : number < count_by is_function insts
  pub same : function_insts number insts ≡ function ∷ rest

pub begins_one : (insts : List Instruction) (at : ℕ) (d : Instruction) → slice_get insts at ≡ Some d → is_function d ≡ true → Begins insts d
begins_one [] at d e h = absurd (cc e)
begins_one (i ∷ is) zero d e h =
    let same : i ≡ d = cc e in
    let it : is_function i ≡ true = ap is_function same ∙ h in
    record {
      number = 0;
      rest = rest_of_function is;
      within = omega (arith, count_here i is it);
      same = function_first i is it ∙ ap (λ x. x ∷ rest_of_function is) same;
    }
begins_one (i ∷ is) (suc at) d e h = by (is_function i) refl (begins_one is at d e h) where
  by : (b : Bool) → is_function i ≡ b → Begins is d → Begins (i ∷ is) d
  by true f b = record {
    number = suc b.number;
    rest = b.rest;
    within = let less = b.within in omega (arith, less, count_here i is f);
    same = function_later i is b.number f ∙ b.same;
  }
  by false f b = record {
    number = b.number;
    rest = b.rest;
    within = let less = b.within in omega (arith, less, count_on i is f);
    same = function_on i is b.number f ∙ b.same;
  }

-- ---- the rest of a function

pub behind_function : List Instruction → List Instruction
behind_function [] = []
behind_function (i ∷ is) = cond (is_function i) (i ∷ is) (cond (is_function_end i) is (behind_function is))

pub rest_again : (is : List Instruction) → rest_of_function is ++ behind_function is ≡ is
unfolding behind_function
rest_again [] = refl
rest_again (i ∷ is) = by (is_function i) (is_function_end i) (rest_again is) where
  by : (a b : Bool) → rest_of_function is ++ behind_function is ≡ is
      → cond a [] (cond b (i ∷ []) (i ∷ rest_of_function is)) ++ cond a (i ∷ is) (cond b is (behind_function is)) ≡ i ∷ is
  by true b more = refl
  by false true more = refl
  by false false more = ap (λ x. i ∷ x) more

pub none_begins : (is : List Instruction) → AllByRecursion (λ i. is_function i ≡ false) (rest_of_function is)
none_begins [] = tt
none_begins (i ∷ is) = by (is_function i) (is_function_end i) refl (none_begins is) where
  by : (a b : Bool) → is_function i ≡ a → AllByRecursion (λ j. is_function j ≡ false) (rest_of_function is)
      → AllByRecursion (λ j. is_function j ≡ false) (cond a [] (cond b (i ∷ []) (i ∷ rest_of_function is)))
  by true b e more = tt
  by false true e more = (e, tt)
  by false false e more = (e, more)

-- an OpFunction is no line mark and no label
pub function_is_no_line : (i : Instruction) → is_function i ≡ true → is_line i ≡ false
function_is_no_line i h = ap (λ o. o == op.LINE || o == op.NO_LINE) (equal_true (opcode i) op.FUNCTION h)

pub function_is_no_label : (i : Instruction) → is_function i ≡ true → is_label_mark i ≡ false
function_is_no_label i h = ap (λ o. o == op.LABEL) (equal_true (opcode i) op.FUNCTION h)
