-- Where no rule on layout is broken, no type stands behind the beginning of a function.
use Rattle.std.proofs.Common.{◌≡◌, ℕ, ◌≤◌, Bool, true, false, cond, not, ◌==◌, ◌&&◌, ◌||◌, List, [], ◌∷◌, ◌++◌, None, refl, sym, ap, subst, ◌∙◌, arith, true≢false}
use Rattle.std.specs.List.{AllByRecursion, list_all, list_any}
use Rattle.std.proofs.lemmas.Bool.{or_parts}
use Rattle.std.proofs.lemmas.Bool.Decides.{nat_tests}
use Rattle.spv_grammar.specs.Table.{row_of}
use Rattle.spv_opcodes.specs.declared.op.TheConstants as op
use Rattle.spv_module.specs.declared.layout.Place.{Place}
use Rattle.spv_module.specs.declared.layout.Place.TheVariants.{Outside}
use Rattle.spv_module.specs.Code.{is_function, is_line, plain_section, row_section, stands_in_functions_too}
use Rattle.spv_module.specs.First.{first}
use Rattle.spv_module.specs.Instruction.{Instruction, opcode}
use Rattle.spv_module.specs.Layout.{behind, group_2, without_lines}
use Rattle.spv_repeats.specs.Repeats.{is_one_of, is_unique_type, unique_types}
use Rattle.spv_texts.proofs.Functions.{Fits, fits_in_module}
use Rattle.spv_alike_uses.proofs.Lookups.{each}
use Rattle.spv_added.specs.Added.{starts_function}

-- types stand in a section before that of functions, and are no line marks
abbrev is_early : ℕ → Bool
is_early o = (row_section (row_of o) == 10 && not (o == op.VARIABLE || o == op.UNDEF)) && not (o == op.LINE || o == op.NO_LINE)

types_early : list_all is_early unique_types ≡ true
unfolding row_of
types_early = refl

ten : (s : ℕ) (b : Bool) → (s == 10) ≡ true → b ≡ false → 11 ≤ cond b 11 s → ⊥
ten s true h e g = absurd (cc e)
ten s false h e g = grind (arith, nat_tests)

early_parts : (a b c : Bool) → ((a && not b) && not c) ≡ true → (a ≡ true) × (b ≡ false) × (c ≡ false)
early_parts true false false h = (refl, refl, refl)
early_parts true false true h = absurd (cc h)
early_parts true true c h = absurd (cc h)
early_parts false b c h = absurd (cc h)

no_type : (i : Instruction) → (is_line i ≡ false → 11 ≤ plain_section true i) → is_unique_type i ≡ false
no_type i h = by (is_unique_type i) refl
  where
    by : (b : Bool) → is_unique_type i ≡ b → b ≡ false
    by false e = refl
    by true e =
        let early =
        early_parts (row_section (row_of (opcode i)) == 10) (stands_in_functions_too i) (is_line i) (each is_early unique_types types_early (opcode i) e) in
        absurd (ten (row_section (row_of (opcode i))) (stands_in_functions_too i) early.0 early.1 (h early.2))

-- by induction on the instructions
types_behind : (q : Place) (is : List Instruction) → Fits q true (without_lines is) → AllByRecursion (λ i. is_unique_type i ≡ false) is
types_behind q [] fits = tt
types_behind q (i ∷ is) fits = by (is_line i) refl fits (λ p f. types_behind p is f)
  where
    by : (line : Bool) → is_line i ≡ line → Fits q true (cond (not line) (i ∷ without_lines is) (without_lines is))
        → ((p : Place) → Fits p true (without_lines is) → AllByRecursion (λ i. is_unique_type i ≡ false) is)
        → (is_unique_type i ≡ false) × AllByRecursion (λ i. is_unique_type i ≡ false) is
    by true e fits more = (no_type i (λ f. absurd (true≢false (sym e ∙ f))), more q fits)
    by false e fits more = (no_type i (λ f. fits.1 refl), more (behind q i) fits.2)

function_is_no_type : (i : Instruction) → is_function i ≡ true → is_unique_type i ≡ false
function_is_no_type i h = ap (is_one_of unique_types) (same (opcode i) op.FUNCTION h)
  where
    same : (a b : ℕ) → (a == b) ≡ true → a ≡ b
    same a b h = grind (arith, nat_tests)

-- what begins with a function
types_from : (q : Place) (is : List Instruction) → starts_function is ≡ true → Fits q false (without_lines is)
    → AllByRecursion (λ i. is_unique_type i ≡ false) is
types_from q [] s fits = tt
types_from q (i ∷ is) s fits =
    (function_is_no_type i s, types_behind (behind q i) is (subst (λ b. Fits (behind q i) b (without_lines is)) s (by (is_line i) refl fits)))
  where
    plain : (is_function i ≡ true) → is_line i ≡ false
    plain h = ap (λ (o : ℕ). o == op.LINE || o == op.NO_LINE) (same (opcode i) op.FUNCTION h)
      where
        same : (a b : ℕ) → (a == b) ≡ true → a ≡ b
        same a b h = grind (arith, nat_tests)

    by : (line : Bool) → is_line i ≡ line → Fits q false (cond (not line) (i ∷ without_lines is) (without_lines is))
        → Fits (behind q i) (is_function i) (without_lines is)
    by true e f = absurd (true≢false (sym e ∙ plain s))
    by false e f = f.2

-- behind instructions none of which begins a function
types_past : (q : Place) (front rest : List Instruction) → list_any is_function front ≡ false → starts_function rest ≡ true
    → Fits q false (without_lines (front ++ rest)) → AllByRecursion (λ i. is_unique_type i ≡ false) rest
types_past q [] rest none s fits = types_from q rest s fits
types_past q (i ∷ front) rest none s fits = by (is_line i) refl fits (λ p f. types_past p front rest parts.1 s f)
  where
    parts : (is_function i ≡ false) × (list_any is_function front ≡ false)
    parts = or_parts (is_function i) (list_any is_function front) none

    by : (line : Bool) → is_line i ≡ line → Fits q false (cond (not line) (i ∷ without_lines (front ++ rest)) (without_lines (front ++ rest)))
        → ((p : Place) → Fits p false (without_lines (front ++ rest)) → AllByRecursion (λ i. is_unique_type i ≡ false) rest)
        → AllByRecursion (λ i. is_unique_type i ≡ false) rest
    by true e fits more = more q fits
    by false e fits more =
        more (behind q i) (subst (λ b. Fits (behind q i) b (without_lines (front ++ rest))) parts.0 fits.2)

pub no_types_behind : (end : ℕ) (front rest : List Instruction) → first (group_2 end (front ++ rest)) ≡ None → list_any is_function front ≡ false
    → starts_function rest ≡ true → AllByRecursion (λ i. is_unique_type i ≡ false) rest
no_types_behind end front rest laid none s = types_past Outside front rest none s (fits_in_module end (front ++ rest) laid)
