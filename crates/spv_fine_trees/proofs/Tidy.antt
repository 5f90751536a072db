-- Where the layout of a module breaks no rule: behind a terminator comes a label or OpFunctionEnd, and behind OpFunctionEnd the next OpFunction.
use Rattle.std.proofs.Common.{◌≡◌, ◌⊎◌, inl, inr, ℕ, Bool, true, false, cond, not, ◌==◌, ◌||◌, List, [], ◌∷◌, ◌++◌, refl, sym, ap, subst, ◌∙◌}
use Rattle.std.specs.List.{AllByRecursion}
use Rattle.spv_opcodes.specs.declared.op.TheConstants as op
use Rattle.spv_module.specs.declared.layout.Place.{Place}
use Rattle.spv_module.specs.declared.layout.Place.TheVariants.{Outside, Head, Between, Inside}
use Rattle.spv_module.specs.Code.{is_function, is_line, plain_section}
use Rattle.spv_module.specs.Instruction.{Instruction, opcode}
use Rattle.spv_module.specs.Layout.{behind, is_terminator}
use Rattle.spv_blocks.specs.Cutting.{is_function_end, is_label_mark, rest_of_function}
use Rattle.spv_normal.specs.Lines.{without_marks}
use Rattle.spv_walk.proofs.Unique.{equal_true, left_holds, right_holds, tells}
use Rattle.spv_texts.proofs.Functions.{AFunction, AParameter, AnEnd, ALabel, Another, Fits, IsKind, differ, end_fits, kind_of, label_fits, no_function_inside, other_fits, parameter_fits, section_of_other}
use Rattle.spv_texts.proofs.Marks.{line_is_no_function_end}

-- what stands behind the rest of a function
pub behind_rest : List Instruction → List Instruction
behind_rest [] = []
behind_rest (i ∷ is) = cond (is_function i) (i ∷ is) (cond (is_function_end i) is (behind_rest is))

pub rest_again : (is : List Instruction) → rest_of_function is ++ behind_rest is ≡ is
unfolding behind_rest
rest_again [] = refl
rest_again (i ∷ is) = by (is_function i) (is_function_end i) (rest_again is) where
  by : (a b : Bool) → rest_of_function is ++ behind_rest is ≡ is
      → cond a [] (cond b (i ∷ []) (i ∷ rest_of_function is)) ++ cond a (i ∷ is) (cond b is (behind_rest is)) ≡ i ∷ is
  by true b more = refl
  by false true more = refl
  by false false more = ap (λ x. i ∷ x) more

pub none_begins : (is : List Instruction) → AllByRecursion (λ i. is_function i ≡ false) (rest_of_function is)
none_begins [] = tt
none_begins (i ∷ is) = by (is_function i) (is_function_end i) refl (none_begins is) where
  by : (a b : Bool) → is_function i ≡ a → AllByRecursion (λ j. is_function j ≡ false) (rest_of_function is)
      → AllByRecursion (λ j. is_function j ≡ false) (cond a [] (cond b (i ∷ []) (i ∷ rest_of_function is)))
  by true b e more = tt
  by false true e more = (e, tt)
  by false false e more = (e, more)

-- ---- between functions

-- line marks alone, up to the next OpFunction
abbrev pub IsIdle : List Instruction → Type 0
IsIdle [] = Unit {0}
IsIdle (i ∷ is) = (is_function i ≡ true) ⊎ ((is_line i ≡ true) × IsIdle is)

idle_fits : (i : Instruction) (is : List Instruction) → Fits Outside true (i ∷ is) → IsKind i → is_function i ≡ true
idle_fits i is fits (AFunction f) = f
idle_fits i is fits (AParameter f p) = absurd (differ (sym fits.0 ∙ parameter_fits Outside (plain_section true i) i f p))
idle_fits i is fits (AnEnd f p e) = absurd (differ (sym fits.0 ∙ end_fits Outside (plain_section true i) i f p e))
idle_fits i is fits (ALabel f p e l) = absurd (differ (sym fits.0 ∙ label_fits Outside (plain_section true i) i f p e l))
idle_fits i is fits (Another f p e l) = absurd (differ (sym fits.0 ∙ other_fits Outside (plain_section true i) i f p e l (section_of_other i (fits.1 refl))))

idle_outside : (is : List Instruction) → Fits Outside true (without_marks is) → IsIdle is
idle_outside [] fits = tt
idle_outside (i ∷ is) fits = by (is_line i) refl fits (idle_outside is) where
  by : (b : Bool) → is_line i ≡ b → Fits Outside true (cond (not b) (i ∷ without_marks is) (without_marks is))
      → (Fits Outside true (without_marks is) → IsIdle is) → IsIdle (i ∷ is)
  by true e f more = inr (e, more f)
  by false e f more = inl (idle_fits i (without_marks is) f (kind_of i))

ends_outside : (p : Place) (i : Instruction) → is_function i ≡ false → is_function_end i ≡ true → behind p i ≡ Outside
ends_outside p i f e =
    ap (λ b. cond b Head (cond (opcode i == op.FUNCTION_END) Outside (cond (opcode i == op.LABEL) Inside (cond (is_terminator i) Between p)))) f
    ∙ ap (λ b. cond b Outside (cond (opcode i == op.LABEL) Inside (cond (is_terminator i) Between p))) e

-- behind the rest of a function: by induction on the instructions
pub idle_behind : (p : Place) (is : List Instruction) → Fits p true (without_marks is) → IsIdle (behind_rest is)
unfolding behind_rest
idle_behind p [] fits = tt
idle_behind p (i ∷ is) fits = by (is_line i) refl (is_function i) (is_function_end i) refl refl fits (λ q. idle_behind q is) where
  by : (line : Bool) → is_line i ≡ line → (function end : Bool) → is_function i ≡ function → is_function_end i ≡ end
      → Fits p true (cond (not line) (i ∷ without_marks is) (without_marks is))
      → ((q : Place) → Fits q true (without_marks is) → IsIdle (behind_rest is)) → IsIdle (cond function (i ∷ is) (cond end is (behind_rest is)))
  by line l true end f e fit more = inl f
  by true l false true f e fit more = absurd (differ (sym e ∙ line_is_no_function_end i l))
  by true l false false f e fit more = more p fit
  by false l false true f e fit more =
      idle_outside is (subst (λ q. Fits q true (without_marks is)) (ends_outside p i f e) fit.2)
  by false l false false f e fit more = more (behind p i) fit.2

-- ---- behind terminators

abbrev pub BeginsAnew : List Instruction → Type 0
BeginsAnew [] = Unit {0}
BeginsAnew (i ∷ is) = (is_label_mark i || is_function_end i) ≡ true

abbrev pub IsTidy : List Instruction → Type 0
IsTidy [] = Unit {0}
IsTidy (i ∷ is) = (is_terminator i ≡ true → BeginsAnew is) × IsTidy is

anew_here : (j : Instruction) (js : List Instruction) → Fits Between true (j ∷ js) → IsKind j
    → (is_function j ≡ false) × ((is_label_mark j || is_function_end j) ≡ true)
anew_here j js fits (AFunction f) = absurd (no_function_inside Between (plain_section true j) j refl f fits.0)
anew_here j js fits (AParameter f p) = absurd (differ (sym fits.0 ∙ parameter_fits Between (plain_section true j) j f p))
anew_here j js fits (AnEnd f p e) = (f, right_holds (is_label_mark j) (is_function_end j) e)
anew_here j js fits (ALabel f p e l) = (f, left_holds (is_label_mark j) (is_function_end j) l)
anew_here j js fits (Another f p e l) = absurd (differ (sym fits.0 ∙ other_fits Between (plain_section true j) j f p e l (section_of_other j (fits.1 refl))))

anew_rest : (js : List Instruction) → Fits Between true js → BeginsAnew (rest_of_function js)
anew_rest [] fits = tt
anew_rest (j ∷ js) fits =
    let k = anew_here j js fits (kind_of j) in by (is_function j) (is_function_end j) k.0 k.1
  where
    by : (a b : Bool) → a ≡ false → (is_label_mark j || is_function_end j) ≡ true → BeginsAnew (cond a [] (cond b (j ∷ []) (j ∷ rest_of_function js)))
    by true b f h = absurd (cc (f))
    by false true f h = h
    by false false f h = h

-- a terminator leads between blocks
leads_between : (p : Place) (i : Instruction) → is_function i ≡ false → is_function_end i ≡ false → is_terminator i ≡ true → behind p i ≡ Between
leads_between p i f e t =
    ap (λ b. cond b Head (cond (opcode i == op.FUNCTION_END) Outside (cond (opcode i == op.LABEL) Inside (cond (is_terminator i) Between p)))) f
    ∙ ap (λ b. cond b Outside (cond (opcode i == op.LABEL) Inside (cond (is_terminator i) Between p))) e
    ∙ ap (λ b. cond b Inside (cond (is_terminator i) Between p)) (ends_no_label (opcode i) t)
    ∙ ap (λ b. cond b Between p) t
  where
    ends_no_label : (o : ℕ)
        → (o == op.BRANCH || o == op.BRANCH_CONDITIONAL || o == op.SWITCH || o == op.RETURN || o == op.RETURN_VALUE || o == op.UNREACHABLE) ≡ true
        → (o == op.LABEL) ≡ false
    ends_no_label o h = elim (tells (o == op.LABEL)) [
      | inr e ↦ e
      | inl e ↦ absurd (differ (sym h ∙ ap ends (equal_true o op.LABEL e)))
    ]
      where
        ends : ℕ → Bool
        ends o = o == op.BRANCH || o == op.BRANCH_CONDITIONAL || o == op.SWITCH || o == op.RETURN || o == op.RETURN_VALUE || o == op.UNREACHABLE

-- the rest of a function without line marks: by induction on the instructions
pub tidy_rest : (p : Place) (is : List Instruction) → Fits p true is → IsTidy (rest_of_function is)
tidy_rest p [] fits = tt
tidy_rest p (i ∷ is) fits = by (is_function i) (is_function_end i) refl refl (λ q f. tidy_rest q is f) where
  by : (a b : Bool) → is_function i ≡ a → is_function_end i ≡ b → ((q : Place) → Fits q true is → IsTidy (rest_of_function is))
      → IsTidy (cond a [] (cond b (i ∷ []) (i ∷ rest_of_function is)))
  by true b f e more = tt
  by false true f e more = (λ t. tt, tt)
  by false false f e more = (
    λ t. anew_rest is (subst (λ q. Fits q true is) (leads_between p i f e t) fits.2),
    more (behind p i) fits.2,
  )
