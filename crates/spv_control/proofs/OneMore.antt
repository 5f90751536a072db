-- What is told of the first n functions of a module, and of one more, is told of the first n + 1; and what is told of all is the answer.
use Rattle.std.proofs.Common.{◌≡◌, ◌⊎◌, inl, inr, ℕ, zero, suc, ◌+◌, ◌≤◌, Bool, true, false, List, [], ◌∷◌, ◌++◌, length, Option, Some, None, Result, Ok}
use Rattle.std.proofs.Common.{refl, sym, ap, ◌∙◌, subst, arith}
use Rattle.std.specs.List.{count_by, slice_get}
use Rattle.std.proofs.lemmas.Bool.{cases_lt}
use Rattle.std.proofs.lemmas.List.{length-append}
use Rattle.spv_base.specs.declared.fault.Fault.{Fault}
use Rattle.spv_base.specs.declared.fault.Fault.TheVariants as faults
use Rattle.spv_base.specs.declared.fault.Refusal.{Refusal}
use Rattle.spv_module.specs.Code.{is_function}
use Rattle.spv_module.specs.Instruction.{Instruction}
use Rattle.spv_blocks.specs.Blocks.{Code}
use Rattle.spv_blocks.specs.Cutting.{blocks_of, function_insts}
use Rattle.spv_walk.specs.Found.{earlier_of}
use Rattle.spv_walk.specs.Rules.{Broken, IsFirst}
use Rattle.spv_walk.proofs.Least.{first_both, first_same}
use Rattle.spv_faults.proofs.EarlierLemmas.{earlier_of-none}
use Rattle.spv_tree.specs.declared.body.Body.{Body}
use Rattle.spv_parse.specs.Functions.{IsTooDeep}
use Rattle.spv_functions.specs.Functions.{Answers, AreShapesBelow, IsTree, Refuses, is_pointer}
use Rattle.spv_control.specs.Control.{AreParsed, BrokenInSome, NestsTooDeep}
use Rattle.spv_control.specs.Reading.{AreParsedBelow, BrokenBelow, HasShapesBelow, IsReadBelow, NestsBelow}

-- ---- one function more

module _ (insts : List Instruction) (n : ℕ) where
  -- a rule is broken in the function numbered n
  abbrev BrokenNext : (rule at : ℕ) → Type 0
  BrokenNext rule at = Broken (is_pointer insts) (blocks_of (function_insts n insts)) rule at

  broken_parts : (rule at : ℕ) → BrokenBelow insts (n + 1) rule at → BrokenBelow insts n rule at ⊎ BrokenNext rule at
  broken_parts rule at h = elim (cases_lt h.function n) [
    | inl below ↦ inl (record { function = h.function; is = below; broken = h.broken })
    | inr above ↦
        let same : h.function ≡ n = omega arith in
        inr (subst (λ f. Broken (is_pointer insts) (blocks_of (function_insts f insts)) rule at) same h.broken)
  ]

  broken_whole : (rule at : ℕ) → BrokenBelow insts n rule at ⊎ BrokenNext rule at → BrokenBelow insts (n + 1) rule at
  broken_whole rule at (inl h) = record { function = h.function; is = omega arith; broken = h.broken }
  broken_whole rule at (inr h) = record { function = n; is = omega arith; broken = h }

  first_more : (refusal next : Option Refusal) → IsFirst (BrokenBelow insts n) refusal → IsFirst BrokenNext next
      → IsFirst (BrokenBelow insts (n + 1)) (earlier_of refusal next)
  first_more refusal next x y =
      first_same (λ rule at. BrokenBelow insts n rule at ⊎ BrokenNext rule at) (BrokenBelow insts (n + 1)) (earlier_of refusal next) broken_whole broken_parts
      (first_both (BrokenBelow insts n) BrokenNext refusal next x y)

  -- where none is broken in the next
  first_stays : (refusal : Option Refusal) → IsFirst (BrokenBelow insts n) refusal → IsFirst BrokenNext None → IsFirst (BrokenBelow insts (n + 1)) refusal
  first_stays refusal x y = subst (IsFirst (BrokenBelow insts (n + 1))) (earlier_of-none refusal) (first_more refusal None x y)

  nests_more : NestsBelow insts n → NestsBelow insts (n + 1)
  nests_more h = record { function = h.function; is = omega arith; deep = h.deep }

-- what holds of each element and of one more holds of each; induction on the elements
each_pushed : {X : Type 0} (P : ℕ → X → Type 0) (xs : List X) (x : X) → ((k : ℕ) (y : X) → slice_get xs k ≡ Some y → P k y) → P (length xs) x
    → (k : ℕ) (y : X) → slice_get (xs ++ x ∷ []) k ≡ Some y → P k y
each_pushed P [] x each last zero y e = let same : x ≡ y = cc (e) in subst (P zero) same last
each_pushed P [] x each last (suc k) y e = absurd (cc (e))
each_pushed P (z ∷ zs) x each last zero y e = each zero y e
each_pushed P (z ∷ zs) x each last (suc k) y e = each_pushed (λ n. P (suc n)) zs x (λ n w. each (suc n) w) last k y e

abbrev IsTreeAt : (insts : List Instruction) (k : ℕ) → Body → Type 0
IsTreeAt insts k body = IsTree (is_pointer insts) (function_insts k insts) body

parsed_more : (insts : List Instruction) (n : ℕ) (bodies after : List Body) (body : Body) → AreParsedBelow insts n bodies → IsTreeAt insts n body
    → after ≡ bodies ++ body ∷ [] → AreParsedBelow insts (n + 1) after
parsed_more insts n bodies after body h tree is = record {
  count = ap length is ∙ length-append bodies (body ∷ []) ∙ ap (λ m. m + 1) h.count;
  each = subst (λ bs. (k : ℕ) (b : Body) → slice_get bs k ≡ Some b → IsTreeAt insts k b) (sym is)
      (each_pushed (IsTreeAt insts) bodies body h.each (subst (λ m. IsTreeAt insts m body) (sym h.count) tree));
}

-- a refusal that is joined to others leaves one
some_earlier : (next : Refusal) (o : Option Refusal) → earlier_of o (Some next) ≡ None → ⊥
some_earlier next None e = cc
some_earlier next (Some r) e = cc

module _ (insts : List Instruction) (n : ℕ) (refusal : Option Refusal) (nests : Bool) (bodies : List Body) (h : IsReadBelow insts n refusal nests bodies) where
  read_tree : (body : Body) (after : List Body) → IsTreeAt insts n body → after ≡ bodies ++ body ∷ [] → IsReadBelow insts (n + 1) refusal nests after
  read_tree body after tree pushed = record {
    first = first_stays insts n refusal h.first tree.parsed.nested.unbroken;
    deep = λ e. nests_more insts n (h.deep e);
    trees = λ e f. parsed_more insts n bodies after body (h.trees e f) tree pushed;
  }

  read_refused : (next : Refusal) (after : Option Refusal) → IsFirst (BrokenNext insts n) (Some next) → after ≡ earlier_of refusal (Some next)
      → IsReadBelow insts (n + 1) after nests bodies
  read_refused next after broken joined = record {
    first = subst (IsFirst (BrokenBelow insts (n + 1))) (sym joined) (first_more insts n refusal (Some next) h.first broken);
    deep = λ e. nests_more insts n (h.deep e);
    trees = λ e f. absurd (some_earlier next refusal (sym joined ∙ e));
  }

  read_nested : IsTooDeep (is_pointer insts) (function_insts n insts) → IsReadBelow insts (n + 1) refusal true bodies
  read_nested too_deep = record {
    first = first_stays insts n refusal h.first too_deep.nested.unbroken;
    deep = λ e. record { function = n; is = omega arith; deep = too_deep };
    trees = λ e f. absurd (cc (f));
  }

  -- what is told of the next function is one of these
  pub add_tree : (function : Result Body Fault) (body : Body) (after : List Body) → Answers (is_pointer insts) (function_insts n insts) function
      → function ≡ Ok body → after ≡ bodies ++ body ∷ [] → IsReadBelow insts (n + 1) refusal nests after
  add_tree function body after told is pushed = read_tree body after (subst (Answers (is_pointer insts) (function_insts n insts)) is told) pushed

  pub add_refusal : (fault : Fault) (next : Refusal) (after : Option Refusal) → Refuses (is_pointer insts) (function_insts n insts) fault
      → fault ≡ faults.Refused next → after ≡ earlier_of refusal (Some next) → IsReadBelow insts (n + 1) after nests bodies
  add_refusal fault next after told is joined = read_refused next after (subst (Refuses (is_pointer insts) (function_insts n insts)) is told) joined

  pub add_nesting : (fault : Fault) → Refuses (is_pointer insts) (function_insts n insts) fault → fault ≡ faults.Nesting
      → IsReadBelow insts (n + 1) refusal true bodies
  add_nesting fault told is = read_nested (subst (Refuses (is_pointer insts) (function_insts n insts)) is told)

-- ---- the blocks of functions

-- those of the next function are added
pub add_shape : (insts : List Instruction) (n : ℕ) (refusal : Option Refusal) (nests : Bool) (shapes after : List Code) (shape : Code)
    → HasShapesBelow insts n refusal nests shapes → shape ≡ blocks_of (function_insts n insts) → after ≡ shapes ++ shape ∷ []
    → HasShapesBelow insts (n + 1) refusal nests after
add_shape insts n refusal nests shapes after shape h here is = λ e f.
    let old = h e f in
    let Here : ℕ → Code → Type 0 = λ k g. g ≡ blocks_of (function_insts k insts) in
    record {
      count = ap length is ∙ length-append shapes (shape ∷ []) ∙ ap (λ m. m + 1) old.count;
      each = subst (λ gs. (k : ℕ) (g : Code) → slice_get gs k ≡ Some g → g ≡ blocks_of (function_insts k insts)) (sym is)
          (each_pushed Here shapes shape old.each (subst (λ m. Here m shape) (sym old.count) here));
    }

-- nothing is said of them once one function is refused, or nests too deep
pub no_shapes_refused : (insts : List Instruction) (n : ℕ) (before after : Option Refusal) (nests : Bool) (shapes : List Code) (next : Refusal)
    → after ≡ earlier_of before (Some next) → HasShapesBelow insts n after nests shapes
no_shapes_refused insts n before after nests shapes next joined = λ e f. absurd (some_earlier next before (sym joined ∙ e))

pub no_shapes_nested : (insts : List Instruction) (n : ℕ) (refusal : Option Refusal) (shapes : List Code) → HasShapesBelow insts n refusal true shapes
no_shapes_nested insts n refusal shapes = λ e f. absurd (cc (f))

pub shapes_of_none : (insts : List Instruction) (refusal : Option Refusal) (nests : Bool) (shapes : List Code) → shapes ≡ []
    → HasShapesBelow insts 0 refusal nests shapes
shapes_of_none insts refusal nests shapes is = λ e f. subst (AreShapesBelow insts 0) (sym is) (record { count = refl; each = λ k g h. absurd (cc (h)) })

-- ---- none, and all

pub read_none : (insts : List Instruction) → IsReadBelow insts 0 None false []
read_none insts = record {
  first = λ rule at h. absurd (let below = h.is in omega arith);
  deep = λ e. absurd (cc (e));
  trees = λ e f. record { count = refl; each = λ k body g. absurd (cc (g)) };
}

-- the loop has come to the end
pub read_to_end : (insts : List Instruction) (k end : ℕ) (refusal : Option Refusal) (nests : Bool) (bodies : List Body)
    → IsReadBelow insts k refusal nests bodies → end ≤ k → k ≤ end → end ≡ count_by is_function insts → IsReadBelow insts (count_by is_function insts) refusal nests bodies
read_to_end insts k end refusal nests bodies h over within is =
    let same : k ≡ count_by is_function insts = omega arith in
    subst (λ n. IsReadBelow insts n refusal nests bodies) same h

pub shapes_to_end : (insts : List Instruction) (k end : ℕ) (refusal : Option Refusal) (nests : Bool) (shapes : List Code)
    → HasShapesBelow insts k refusal nests shapes → end ≤ k → k ≤ end → end ≡ count_by is_function insts
    → HasShapesBelow insts (count_by is_function insts) refusal nests shapes
shapes_to_end insts k end refusal nests shapes h over within is =
    let same : k ≡ count_by is_function insts = omega arith in
    subst (λ n. HasShapesBelow insts n refusal nests shapes) same h

module _ (insts : List Instruction) (refusal : Option Refusal) (nests : Bool) (bodies : List Body)
    (h : IsReadBelow insts (count_by is_function insts) refusal nests bodies) where
  all_first : IsFirst (BrokenInSome insts) refusal
  all_first =
      first_same (BrokenBelow insts (count_by is_function insts)) (BrokenInSome insts) refusal
      (λ rule at b. record { function = b.function; is = b.is; broken = b.broken })
      (λ rule at b. record { function = b.function; is = b.is; broken = b.broken }) h.first

  pub all_refused : (r : Refusal) → refusal ≡ Some r → IsFirst (BrokenInSome insts) (Some r)
  all_refused r e = subst (IsFirst (BrokenInSome insts)) e all_first

  pub all_nested : refusal ≡ None → nests ≡ true → IsFirst (BrokenInSome insts) None × NestsTooDeep insts
  all_nested e f = (subst (IsFirst (BrokenInSome insts)) e all_first, let d = h.deep f in record { function = d.function; is = d.is; deep = d.deep })

  pub all_parsed : refusal ≡ None → nests ≡ false → AreParsed insts bodies
  all_parsed e f = let t = h.trees e f in record { count = t.count; each = t.each }
