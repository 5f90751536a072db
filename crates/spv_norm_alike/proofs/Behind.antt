-- Behind the first function stand line marks and what is of the section of functions, where the layout of the module breaks no rule.
use Rattle.std.proofs.Common.{◌≡◌, ℕ, ◌≤◌, Bool, true, false, cond, not, nat_lt, ◌==◌, ◌||◌, List, [], ◌∷◌, refl, sym, ap, ◌∙◌, subst, arith}
use Rattle.std.specs.List.{AllByRecursion}
use Rattle.std.proofs.lemmas.Bool.Decides.{nat_tests}
use Rattle.spv_opcodes.specs.declared.op.TheConstants as op
use Rattle.spv_grammar.specs.Table.{row_of}
use Rattle.spv_module.specs.declared.layout.Place.{Place}
use Rattle.spv_module.specs.Code.{is_function, is_line, plain_section, row_section}
use Rattle.spv_module.specs.Instruction.{Instruction, opcode}
use Rattle.spv_module.specs.Layout.{behind}
use Rattle.spv_typing.specs.Kinds.{is_one_of}
use Rattle.spv_declarations.proofs.Declares.{AllOf, one_of-holds}
use Rattle.spv_walk.proofs.Unique.{equal_true, left_holds}
use Rattle.spv_normal.specs.Lines.{without_marks}
use Rattle.spv_texts.proofs.Functions.{Fits}
use Rattle.spv_texts.proofs.Marks.{line_is_no_function}
use Rattle.spv_norm_declared.proofs.LaidOut.{from_first}

marks_step : (i : Instruction) (is : List Instruction) (b : Bool) → is_line i ≡ b
    → without_marks (i ∷ is) ≡ cond (not b) (i ∷ without_marks is) (without_marks is)
marks_step i is b h = ap (λ (z : Bool). cond (not z) (i ∷ without_marks is) (without_marks is)) h

-- the section of functions
abbrev pub IsLate : Instruction → Type 0
IsLate i = 11 ≤ plain_section true i

function_row : 11 ≤ cond (op.FUNCTION == op.VARIABLE || op.FUNCTION == op.UNDEF) 11 (row_section (row_of op.FUNCTION))
unfolding row_of
function_row = omega arith

function_late : (i : Instruction) → is_function i ≡ true → IsLate i
function_late i h =
    subst (λ o. 11 ≤ cond (o == op.VARIABLE || o == op.UNDEF) 11 (row_section (row_of o))) (sym (equal_true (opcode i) op.FUNCTION h)) function_row

module _ (P : Instruction → Type 0) (mark : (i : Instruction) → is_line i ≡ true → P i) (late : (i : Instruction) → IsLate i → P i) where
  -- by induction on the instructions
  all_late : (is : List Instruction) (p : Place) (begun : Bool) → begun ≡ true → Fits p begun (without_marks is) → AllByRecursion P is
  all_late [] p begun h fits = tt
  all_late (i ∷ is) p begun h fits = by (is_line i) refl (all_late is) where
    by : (b : Bool) → is_line i ≡ b → ((q : Place) (c : Bool) → c ≡ true → Fits q c (without_marks is) → AllByRecursion P is) → P i × AllByRecursion P is
    by true e more = (mark i e, more p begun h (subst (Fits p begun) (marks_step i is true e) fits))
    by false e more =
        let here = subst (Fits p begun) (marks_step i is false e) fits in
        (late i (subst (λ c. 11 ≤ plain_section c i) h (here.1 h)), more (behind p i) (begun || is_function i) (left_holds begun (is_function i) h) here.2)

  pub all_behind : (is : List Instruction) (p : Place) → Fits p false (without_marks is) → AllByRecursion P (from_first is)
  all_behind [] p fits = tt
  all_behind (i ∷ is) p fits = by (is_line i) (is_function i) refl refl (all_behind is) where
    by : (line function : Bool) → is_line i ≡ line → is_function i ≡ function
        → ((q : Place) → Fits q false (without_marks is) → AllByRecursion P (from_first is))
        → AllByRecursion P (cond function (i ∷ is) (from_first is))
    by true true e f more = absurd (cc (sym f ∙ line_is_no_function i e))
    by true false e f more = more p (subst (Fits p false) (marks_step i is true e) fits)
    by false true e f more =
        let here = subst (Fits p false) (marks_step i is false e) fits in
        (late i (function_late i f), all_late is (behind p i) (is_function i) f here.2)
    by false false e f more =
        let here = subst (Fits p false) (marks_step i is false e) fits in
        more (behind p i) (subst (λ c. Fits (behind p i) c (without_marks is)) f here.2)

-- opcodes of earlier sections, which no instruction behind the first function has
not_early : (n : ℕ) → 11 ≤ n → nat_lt n 11 ≡ true → ⊥
not_early n h e = grind (arith, nat_tests)

abbrev pub IsEarly : ℕ → Type 0
IsEarly o = nat_lt (cond (o == op.VARIABLE || o == op.UNDEF) 11 (row_section (row_of o))) 11 ≡ true

pub late_not : (opcodes : List ℕ) → AllOf IsEarly opcodes → (i : Instruction) → IsLate i → is_one_of opcodes (opcode i) ≡ false
late_not opcodes all i late = by (is_one_of opcodes (opcode i)) refl where
  by : (b : Bool) → is_one_of opcodes (opcode i) ≡ b → b ≡ false
  by true e = absurd (not_early (plain_section true i) late (one_of-holds IsEarly opcodes all (opcode i) e))
  by false e = refl
