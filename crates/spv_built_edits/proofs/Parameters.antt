-- Nothing stands between OpFunction and its parameters but line marks: what goes, and is neither, stands in front of no parameter.
use Rattle.std.proofs.Common.{◌≡◌, ℕ, zero, suc, ◌≤◌, Bool, true, false, cond, not, ◌==◌, ◌||◌, List, [], ◌∷◌, drop, slice_get, Some, refl, sym, ap, subst, ◌∙◌, true≢false}
use Rattle.spv_opcodes.specs.declared.op.TheConstants as op
use Rattle.spv_module.specs.declared.layout.Place.{Place}
use Rattle.spv_module.specs.declared.layout.Place.TheVariants.{Outside, Head, Between, Inside}
use Rattle.spv_module.specs.Code.{is_function, is_line, plain_section}
use Rattle.spv_module.specs.Instruction.{Instruction, opcode}
use Rattle.spv_module.specs.Layout.{behind, is_head, is_inside, is_terminator, without_lines}
use Rattle.spv_signatures.specs.Functions.{is_parameter, leading_parameters, parameter}
use Rattle.spv_texts.proofs.Functions.{AFunction, ALabel, AParameter, AnEnd, Another, Fits, IsKind, behind_label, behind_other, behind_parameter, differ, fits_in_module, kind_of, other_fits, parameter_fits, section_of_other}
use Rattle.spv_walk.proofs.Unique.{equal_true}
use Rattle.spv_built_edits.specs.Thinned.{IsNoOpening}
use Rattle.spv_built_edits.specs.ThinnedLaws.{NoParametersBehind}

-- ---- where a place is the head of a function

no_head : (q : Place) → is_head q ≡ true → q ≡ Head
no_head Head h = refl
no_head Outside h = absurd (cc h)
no_head Between h = absurd (cc h)
no_head Inside h = absurd (cc h)

head_is_not_inside : (q : Place) → is_head q ≡ true → is_inside q ≡ false
head_is_not_inside Head h = refl
head_is_not_inside Outside h = refl
head_is_not_inside Between h = refl
head_is_not_inside Inside h = absurd (cc h)

-- what stands behind it begins with no parameter
none_lead : (q : Place) (begun : Bool) (is : List Instruction) → is_head q ≡ false → Fits q begun (without_lines is) → leading_parameters is ≡ []
none_lead q begun [] h fits = refl
none_lead q begun (i ∷ is) h fits = by (is_line i) refl fits (none_lead q begun is h)
  where
    none : Fits q begun (i ∷ without_lines is) → (b : Bool) → is_parameter i ≡ b → cond b (parameter i ∷ leading_parameters is) [] ≡ []
    none fits false e = refl
    none fits true e = absurd (differ (sym fits.0 ∙ parameter_fits q (plain_section begun i) i (other (opcode i) e) e ∙ h))
      where
        other : (o : ℕ) → (o == op.FUNCTION_PARAMETER) ≡ true → (o == op.FUNCTION) ≡ false
        other o e = ap (λ n. n == op.FUNCTION) (equal_true o op.FUNCTION_PARAMETER e)

    by : (line : Bool) → is_line i ≡ line → Fits q begun (cond (not line) (i ∷ without_lines is) (without_lines is))
        → (Fits q begun (without_lines is) → leading_parameters is ≡ [])
        → cond line (leading_parameters is) (cond (is_parameter i) (parameter i ∷ leading_parameters is) []) ≡ []
    by true m fits more = more fits
    by false m fits more = none fits (is_parameter i) refl

or_left : (a b : Bool) → a ≡ true → (a || b) ≡ true
or_left true b h = refl
or_left false b h = absurd (cc h)

or_right : (a b : Bool) → b ≡ true → (a || b) ≡ true
or_right true b h = refl
or_right false b h = h

-- where a function's head is, one has begun
begins : (q : Place) (begun : Bool) (i : Instruction) → (is_head q ≡ true → begun ≡ true) → is_head (behind q i) ≡ true → (begun || is_function i) ≡ true
begins q begun i inv h = by (kind_of i)
  where
    stays : (b : Bool) → is_head (cond b Between q) ≡ true → begun ≡ true
    stays true h = absurd (true≢false (sym h))
    stays false h = inv h

    by : IsKind i → (begun || is_function i) ≡ true
    by (AFunction f) = or_right begun (is_function i) f
    by (AParameter f p) = or_left begun (is_function i) (inv (ap is_head (sym (behind_parameter q i p)) ∙ h))
    by (AnEnd f p e) = absurd (true≢false (sym h ∙ ap is_head (ended f e)))
      where
        ended : (opcode i == op.FUNCTION) ≡ false → (opcode i == op.FUNCTION_END) ≡ true → behind q i ≡ Outside
        ended f e =
            ap (λ (b : Bool). cond b Head (cond (opcode i == op.FUNCTION_END) Outside (cond (opcode i == op.LABEL) Inside (cond (is_terminator i) Between q)))) f
            ∙ ap (λ (b : Bool). cond b Outside (cond (opcode i == op.LABEL) Inside (cond (is_terminator i) Between q))) e
    by (ALabel f p e l) = absurd (true≢false (sym h ∙ ap is_head (behind_label q i l)))
    by (Another f p e l) = or_left begun (is_function i) (stays (is_terminator i) (ap is_head (sym (behind_other q i f e l)) ∙ h))

-- by induction on the instructions, from a place on
none_behind : (q : Place) (begun : Bool) (is : List Instruction) → (is_head q ≡ true → begun ≡ true) → Fits q begun (without_lines is)
    → (k : ℕ) (i : Instruction) → slice_get is k ≡ Some i → is_line i ≡ false → IsNoOpening i → leading_parameters (drop (suc k) is) ≡ []
none_behind q begun [] inv fits k i at plain other = absurd (cc at)
none_behind q begun (x ∷ is) inv fits (suc k) i at plain other =
    by (is_line x) refl fits (λ p b more f. none_behind p b is more f k i at plain other)
  where
    by : (line : Bool) → is_line x ≡ line → Fits q begun (cond (not line) (x ∷ without_lines is) (without_lines is))
        → ((p : Place) (b : Bool) → (is_head p ≡ true → b ≡ true) → Fits p b (without_lines is) → leading_parameters (drop (suc k) is) ≡ [])
        → leading_parameters (drop (suc k) is) ≡ []
    by true m fits more = more q begun inv fits
    by false m fits more = more (behind q x) (begun || is_function x) (begins q begun x inv) fits.2
none_behind q begun (x ∷ is) inv fits zero i at plain other =
    let same : x ≡ i = cc at in
    here (subst (λ z. Fits q begun (cond (not (is_line z)) (z ∷ without_lines is) (without_lines is))) same fits)
  where
    here : Fits q begun (cond (not (is_line i)) (i ∷ without_lines is) (without_lines is)) → leading_parameters is ≡ []
    here fits =
        let at_i : Fits q begun (i ∷ without_lines is) =
        subst (λ (b : Bool). Fits q begun (cond (not b) (i ∷ without_lines is) (without_lines is))) plain fits in
        none_lead (behind q i) (begun || is_function i) is (by at_i (is_head q) refl) at_i.2
      where
        still : (b : Bool) → is_head q ≡ false → is_head (cond b Between q) ≡ false
        still true h = refl
        still false h = h

        by : Fits q begun (i ∷ without_lines is) → (b : Bool) → is_head q ≡ b → is_head (behind q i) ≡ false
        by f false h =
            ap is_head (behind_other q i other.function other.end other.label) ∙ still (is_terminator i) h
        by f true h =
            let begun_is : begun ≡ true = inv h in
            let eleven : plain_section begun i ≡ 11 =
            ap (λ (b : Bool). plain_section b i) begun_is ∙ section_of_other i (subst (λ (b : Bool). 11 ≤ plain_section b i) begun_is (f.1 begun_is)) in
            absurd (true≢false (sym f.0
            ∙ other_fits q (plain_section begun i) i other.function other.parameter other.end other.label eleven ∙ head_is_not_inside q h))

pub no_parameters_behind : NoParametersBehind
no_parameters_behind end insts laid k i at plain other =
    none_behind Outside false insts (λ h. absurd (true≢false (sym h))) (fits_in_module end insts laid) k i at plain other
