-- Instructions one behind the other, each with where it stands as far as the rules on bodies ask.
use Rattle.std.proofs.Common.{◌≡◌, ℕ, zero, suc, Bool, true, false, cond, ◌==◌, ◌||◌, not, List, [], ◌∷◌, ◌++◌, drop, take, Option, Some, None, refl, sym, ap, ap₂, subst, ◌∙◌, inl, inr}
use Rattle.std.specs.Prelude.{slice_get}
use Rattle.std.specs.List.{fold, list_any}
use Rattle.spv_opcodes.specs.declared.op.TheConstants as op
use Rattle.spv_module.specs.Code.{is_function, is_line}
use Rattle.spv_module.specs.Instruction.{Instruction, opcode}
use Rattle.spv_blocks.specs.Cutting.{function_from, function_insts, is_function_end, rest_of_function, starts}
use Rattle.spv_walk.proofs.Unique.{both_hold, both_left, both_right, equal_true, not_false, not_true, tells}
use Rattle.spv_normal.specs.Lines.{without_marks}
use Rattle.spv_usage.specs.declared.stages.Stage.{Stage}
use Rattle.spv_usage.specs.declared.stages.Stage.TheVariants.{Further, Head, Opening, Outside}
use Rattle.spv_usage.specs.Stages.{behind_label, behind_other, stage_behind}
use Rattle.spv_signatures.specs.Contexts.{counted, latest, result_type_in, types_in}
use Rattle.spv_body_rules.specs.Broken.{body_rules, is_of_functions, rules_in_functions}
use Rattle.spv_norm_typed.specs.Laws.{FitAll}
use Rattle.spv_norm_typed.proofs.Shape.{IsInner}
use Rattle.spv_norm_typed.proofs.Fits.{Fits, fits_of_rules, fits_same, none_in, nothing_left, rules_of_fits}

-- whether a function has begun, the stage, the OpFunction and how many parameters there were behind it
pub record Where : Type 0 where
  pub inside : Bool
  pub stage : Stage
  pub function : Option Instruction
  pub count : ℕ

abbrev pub start : Where
start = record { inside = false; stage = Outside; function = None; count = 0 }

abbrev pub behind : Where → Instruction → Where
behind w i = record {
  inside = cond (is_function i) true w.inside;
  stage = stage_behind w.stage i;
  function = latest w.function i;
  count = counted w.count i;
}

-- an instruction that stands there breaks no rule
abbrev pub FitsAt : List Instruction → Where → Instruction → Type 0
FitsAt m w i =
    (w.inside || is_function i) ≡ true → is_line i ≡ false → Fits m w.stage (result_type_in w.function) (slice_get (types_in m w.function) w.count) i

abbrev pub Walked : List Instruction → Where → List Instruction → Type 0
Walked m w [] = Unit {0}
Walked m w (i ∷ is) = FitsAt m w i × Walked m (behind w i) is

-- ---- all instructions of a module

walked_at : (m : List Instruction) (w : Where) (is : List Instruction)
    → ((k : ℕ) (i : Instruction) → slice_get is k ≡ Some i → FitsAt m (fold behind w (take k is)) i) → Walked m w is
walked_at m w [] h = tt
walked_at m w (i ∷ is) h = (h 0 i refl, walked_at m (behind w i) is (λ k j e. h (suc k) j e))

at_walked : (m : List Instruction) (w : Where) (is : List Instruction) → Walked m w is → (k : ℕ) (i : Instruction) → slice_get is k ≡ Some i
    → FitsAt m (fold behind w (take k is)) i
at_walked m w [] h k i e = absurd (cc e)
at_walked m w (x ∷ is) h zero i e = subst (FitsAt m w) (let same : x ≡ i = cc e in same) h.0
at_walked m w (x ∷ is) h (suc k) i e = at_walked m (behind w x) is h.1 k i e

stage_is : (w : Where) (is : List Instruction) → (fold behind w is).stage ≡ fold stage_behind w.stage is
stage_is w [] = refl
stage_is w (i ∷ is) = stage_is (behind w i) is

function_is : (w : Where) (is : List Instruction) → (fold behind w is).function ≡ fold latest w.function is
function_is w [] = refl
function_is w (i ∷ is) = function_is (behind w i) is

count_is : (w : Where) (is : List Instruction) → (fold behind w is).count ≡ fold counted w.count is
count_is w [] = refl
count_is w (i ∷ is) = count_is (behind w i) is

inside_is : (w : Where) (is : List Instruction) → (fold behind w is).inside ≡ (w.inside || list_any is_function is)
inside_is w [] = none w.inside
  where
    none : (b : Bool) → b ≡ (b || false)
    none true = refl
    none false = refl
inside_is w (i ∷ is) = inside_is (behind w i) is ∙ by (is_function i) w.inside
  where
    by : (f b : Bool) → (cond f true b || list_any is_function is) ≡ (b || (f || list_any is_function is))
    by true true = refl
    by true false = refl
    by false b = refl

module _ (m : List Instruction) (k : ℕ) (i : Instruction) where
  abbrev here : Where
  here = fold behind start (take k m)

  inside_at : (here.inside || is_function i) ≡ (list_any is_function (take k m) || is_function i)
  inside_at = ap (λ (b : Bool). b || is_function i) (inside_is start (take k m))

  rules_in : is_of_functions m k i ≡ true → body_rules m k i ≡ rules_in_functions m k i
  unfolding body_rules
  rules_in h = ap (λ (b : Bool). cond b (rules_in_functions m k i) []) h

  rules_out : is_of_functions m k i ≡ false → body_rules m k i ≡ []
  unfolding body_rules
  rules_out h = ap (λ (b : Bool). cond b (rules_in_functions m k i) []) h

  fits_here : body_rules m k i ≡ [] → FitsAt m here i
  fits_here none inside plain =
      let is : is_of_functions m k i ≡ true =
      both_hold (list_any is_function (take k m) || is_function i) (not (is_line i)) (sym inside_at ∙ inside) (not_false (is_line i) plain) in
      let all = count_is start (take k m) in
      let f = function_is start (take k m) in
      fits_same m i _ here.stage _ (result_type_in here.function) _ (slice_get (types_in m here.function) here.count)
      (sym (stage_is start (take k m)))
      (ap result_type_in (sym f))
      (ap₂ (λ g n. slice_get (types_in m g) n) (sym f) (sym all))
      (fits_of_rules m k i (sym (rules_in is) ∙ none))

  none_here : FitsAt m here i → body_rules m k i ≡ []
  none_here h = by (is_of_functions m k i) refl
    where
      fits : is_of_functions m k i ≡ true → rules_in_functions m k i ≡ []
      fits is =
          let all = count_is start (take k m) in
          let f = function_is start (take k m) in
          rules_of_fits m k i
          (fits_same m i here.stage _ (result_type_in here.function) _ (slice_get (types_in m here.function) here.count) _
          (stage_is start (take k m))
          (ap result_type_in f)
          (ap₂ (λ g n. slice_get (types_in m g) n) f all)
          (h (inside_at ∙ both_left (list_any is_function (take k m) || is_function i) (not (is_line i)) is)
          (not_true (is_line i) (both_right (list_any is_function (take k m) || is_function i) (not (is_line i)) is))))

      by : (b : Bool) → is_of_functions m k i ≡ b → body_rules m k i ≡ []
      by true is = rules_in is ∙ fits is
      by false is = rules_out is

pub walked_of_fit : (m : List Instruction) → FitAll m → Walked m start m
walked_of_fit m fit = walked_at m start m (λ k i e. fits_here m k i (nothing_left (body_rules m k i) (fit k i e)))

pub fit_of_walked : (m : List Instruction) → Walked m start m → FitAll m
fit_of_walked m h k i e rule broken = none_in (body_rules m k i) (none_here m k i (at_walked m start m h k i e)) rule broken

-- ---- parts

pub walked_front : (m : List Instruction) (w : Where) (xs ys : List Instruction) → Walked m w (xs ++ ys) → Walked m w xs
walked_front m w [] ys h = tt
walked_front m w (x ∷ xs) ys h = (h.0, walked_front m (behind w x) xs ys h.1)

pub walked_back : (m : List Instruction) (w : Where) (xs ys : List Instruction) → Walked m w (xs ++ ys) → Walked m (fold behind w xs) ys
walked_back m w [] ys h = h
walked_back m w (x ∷ xs) ys h = walked_back m (behind w x) xs ys h.1

pub walked_both : (m : List Instruction) (w : Where) (xs ys : List Instruction) → Walked m w xs → Walked m (fold behind w xs) ys → Walked m w (xs ++ ys)
walked_both m w [] ys h g = g
walked_both m w (x ∷ xs) ys h g = (h.0, walked_both m (behind w x) xs ys h.1 g)

walked_drop : (m : List Instruction) (w : Where) (n : ℕ) (is : List Instruction) → Walked m w is → Walked m (fold behind w (take n is)) (drop n is)
walked_drop m w zero is h = h
walked_drop m w (suc n) [] h = tt
walked_drop m w (suc n) (i ∷ is) h = walked_drop m (behind w i) n is h.1

walked_rest : (m : List Instruction) (w : Where) (is : List Instruction) → Walked m w is → Walked m w (rest_of_function is)
walked_rest m w [] h = tt
walked_rest m w (i ∷ is) h = by (is_function i) (is_function_end i) (walked_rest m (behind w i) is h.1)
  where
    by : (f e : Bool) → Walked m (behind w i) (rest_of_function is) → Walked m w (cond f [] (cond e (i ∷ []) (i ∷ rest_of_function is)))
    by true e later = tt
    by false true later = (h.0, tt)
    by false false later = (h.0, later)

-- the instructions of a function, wherever it stands
pub record Stands (m is : List Instruction) : Type 0 where
  pub at : Where
  pub walked : Walked m at is

begun_stands : (m : List Instruction) (w : Where) (is : List Instruction) → Walked m w is → Stands m (Rattle.spv_blocks.specs.Cutting.begun_function is)
begun_stands m w [] h = record { at = w; walked = tt }
begun_stands m w (i ∷ is) h = record { at = w; walked = (h.0, walked_rest m (behind w i) is h.1) }

pub function_stands : (m : List Instruction) → Walked m start m → (k : ℕ) → Stands m (function_insts k m)
function_stands m h k = by (slice_get (starts m) k)
  where
    by : (o : Option ℕ) → Stands m (function_from m o)
    by None = record { at = start; walked = tt }
    by (Some n) = begun_stands m (fold behind start (take n m)) (drop n m) (walked_drop m start n m h)

-- ---- where one stands behind an instruction of an opcode

abbrev stepped : Where → Instruction → (opcode : ℕ) → Where
stepped w i o = record {
  inside = cond (o == op.FUNCTION) true w.inside;
  stage =
      cond ((o == op.LINE || o == op.NO_LINE) || o == op.VARIABLE) w.stage
      (cond (o == op.FUNCTION) Head (cond (o == op.LABEL) (behind_label w.stage) (behind_other w.stage)));
  function = cond (o == op.FUNCTION) (Some i) w.function;
  count = cond (o == op.FUNCTION) 0 (cond (o == op.FUNCTION_PARAMETER) (suc w.count) w.count);
}

behind_by : (w : Where) (i : Instruction) (o : ℕ) → opcode i ≡ o → behind w i ≡ stepped w i o
behind_by w i o e = ap (stepped w i) e

-- in a function, at a stage, behind some parameters
abbrev pub within : Stage → Instruction → (count : ℕ) → Where
within s f n = record { inside = true; stage = s; function = Some f; count = n }

pub behind_mark : (w : Where) (i : Instruction) → is_line i ≡ true → behind w i ≡ w
behind_mark w i h = elim (tells (opcode i == op.LINE)) [
  | inl e ↦ behind_by w i op.LINE (equal_true (opcode i) op.LINE e)
  | inr e ↦ behind_by w i op.NO_LINE (equal_true (opcode i) op.NO_LINE (sym (ap (λ (b : Bool). b || opcode i == op.NO_LINE) e) ∙ h))
]

pub behind_function : (w : Where) (i : Instruction) → opcode i ≡ op.FUNCTION → behind w i ≡ within Head i 0
behind_function w i e = behind_by w i op.FUNCTION e

pub behind_parameter : (f : Instruction) (n : ℕ) (i : Instruction) → opcode i ≡ op.FUNCTION_PARAMETER → behind (within Head f n) i ≡ within Head f (suc n)
behind_parameter f n i e = behind_by (within Head f n) i op.FUNCTION_PARAMETER e

pub behind_first : (f : Instruction) (n : ℕ) (i : Instruction) → opcode i ≡ op.LABEL → behind (within Head f n) i ≡ within Opening f n
behind_first f n i e = behind_by (within Head f n) i op.LABEL e

pub behind_inner : (s : Stage) (f : Instruction) (n : ℕ) (i : Instruction) → IsInner (opcode i) → behind (within s f n) i ≡ within (stage_behind s i) f n
behind_inner s f n i h = ap (λ b. with b (opcode i == op.FUNCTION_PARAMETER)) h.function ∙ ap (with false) h.parameter
  where
    with : Bool → Bool → Where
    with b p = record { inside = cond b true true; stage = stage_behind s i; function = cond b (Some i) (Some f); count = cond b 0 (cond p (suc n) n) }

pub stage_variable : (s : Stage) (i : Instruction) → (opcode i == op.VARIABLE) ≡ true → stage_behind s i ≡ s
stage_variable s i v =
    ap (λ o. cond ((o == op.LINE || o == op.NO_LINE) || o == op.VARIABLE) s
    (cond (o == op.FUNCTION) Head (cond (o == op.LABEL) (behind_label s) (behind_other s)))) (equal_true (opcode i) op.VARIABLE v)

-- behind another one the head of the first block is over
stage_other : (s : Stage) (i : Instruction) → IsInner (opcode i) → (opcode i == op.VARIABLE) ≡ false
    → stage_behind s i ≡ cond (opcode i == op.LABEL) (behind_label s) (behind_other s)
stage_other s i h v =
    ap (λ (b : Bool). cond ((b || opcode i == op.NO_LINE) || opcode i == op.VARIABLE) s
    (cond (is_function i) Head (cond (opcode i == op.LABEL) (behind_label s) (behind_other s)))) h.mark
    ∙ ap (λ (b : Bool). cond (b || opcode i == op.VARIABLE) s
    (cond (is_function i) Head (cond (opcode i == op.LABEL) (behind_label s) (behind_other s)))) h.end_mark
    ∙ ap (λ (b : Bool). cond b s (cond (is_function i) Head (cond (opcode i == op.LABEL) (behind_label s) (behind_other s)))) v
    ∙ ap (λ (b : Bool). cond b Head (cond (opcode i == op.LABEL) (behind_label s) (behind_other s))) h.function

pub opening_over : (i : Instruction) → IsInner (opcode i) → (opcode i == op.VARIABLE) ≡ false → stage_behind Opening i ≡ Further
opening_over i h v = stage_other Opening i h v ∙ by (opcode i == op.LABEL)
  where
    by : (b : Bool) → cond b Further Further ≡ Further
    by true = refl
    by false = refl

pub further_on : (i : Instruction) → IsInner (opcode i) → (opcode i == op.VARIABLE) ≡ false → stage_behind Further i ≡ Further
further_on i h v = stage_other Further i h v ∙ by (opcode i == op.LABEL)
  where
    by : (b : Bool) → cond b Further Further ≡ Further
    by true = refl
    by false = refl

-- line marks are looked past
pub walked_plain : (m : List Instruction) (w : Where) (is : List Instruction) → Walked m w is → Walked m w (without_marks is)
walked_plain m w [] h = tt
walked_plain m w (i ∷ is) h = by (is_line i) refl (walked_plain m (behind w i) is h.1)
  where
    by : (b : Bool) → is_line i ≡ b → Walked m (behind w i) (without_marks is) → Walked m w (cond (not b) (i ∷ without_marks is) (without_marks is))
    by true e later = subst (λ v. Walked m v (without_marks is)) (behind_mark w i e) later
    by false e later = (h.0, later)
