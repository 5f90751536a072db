-- Where no rule on the layout is broken, a terminator is followed by an OpLabel or OpFunctionEnd, and OpFunctionEnd is the last of its function.
use Rattle.std.proofs.Common.{◌≡◌, ℕ, zero, suc, ◌≤◌, Bool, true, false, cond, not, ◌&&◌, ◌||◌, ◌==◌, List, [], ◌∷◌, ◌++◌, drop, get_or, Option, Some, None, All, refl, sym, ap, subst, ◌∙◌, arith}
use Rattle.std.specs.List.{slice_get}
use Rattle.std.proofs.lemmas.Bool.Decides.{nat_tests}
use Rattle.std.proofs.lemmas.List.Elements.{All-cons, All-head, All-tail}
use Rattle.spv_opcodes.specs.declared.op.TheConstants as op
use Rattle.spv_grammar.specs.Table.{row_of}
use Rattle.spv_module.specs.declared.layout.Place.{Place}
use Rattle.spv_module.specs.declared.layout.Place.TheVariants.{Outside, Head, Between, Inside}
use Rattle.spv_module.specs.Code.{is_function, is_line, plain_section, row_section, stands_in_functions_too}
use Rattle.spv_module.specs.Instruction.{Instruction, opcode}
use Rattle.spv_module.specs.Layout.{behind, fits_place, is_inside, is_outside, is_terminator}
use Rattle.spv_blocks.specs.Cutting.{begun_function, function_from, function_insts, is_function_end, is_label_mark, rest_of_function, starts}
use Rattle.spv_walk.proofs.Unique.{equal_true}
use Rattle.spv_normal.specs.Lines.{without_marks}
use Rattle.spv_tree.specs.Sound.{is_one_of, is_step}
use Rattle.spv_spelling.specs.Whole.{IsText, block_marks, is_in_block}
use Rattle.spv_texts.proofs.Functions.{Fits, IsKind, AFunction, AParameter, AnEnd, ALabel, Another, behind_function, behind_label, behind_other, behind_parameter, differ, kind_of, label_fits, other_fits, parameter_fits, section_of_other}

-- ---- behind a terminator

abbrev pub BeginsWell : List Instruction → Type 0
BeginsWell [] = Unit {0}
BeginsWell (j ∷ js) = (is_label_mark j || is_function_end j) ≡ true

abbrev pub IsTidy : List Instruction → Type 0
IsTidy [] = Unit {0}
IsTidy (i ∷ is) = (is_terminator i ≡ true → BeginsWell is) × IsTidy is

-- ---- of a whole module

either_gives : {P : Type 0} (a b : Bool) → (a ≡ true → P) → (b ≡ true → P) → (a || b) ≡ true → P
either_gives true b f g h = f refl
either_gives false b f g h = g h

terminator_row : (i : Instruction) → is_terminator i ≡ true → row_section (row_of (opcode i)) ≡ 11
unfolding row_of
terminator_row i h =
    either_gives (o == op.BRANCH || o == op.BRANCH_CONDITIONAL || o == op.SWITCH || o == op.RETURN || o == op.RETURN_VALUE) (o == op.UNREACHABLE)
    (either_gives (o == op.BRANCH || o == op.BRANCH_CONDITIONAL || o == op.SWITCH || o == op.RETURN) (o == op.RETURN_VALUE)
    (either_gives (o == op.BRANCH || o == op.BRANCH_CONDITIONAL || o == op.SWITCH) (o == op.RETURN)
    (either_gives (o == op.BRANCH || o == op.BRANCH_CONDITIONAL) (o == op.SWITCH)
    (either_gives (o == op.BRANCH) (o == op.BRANCH_CONDITIONAL) (like op.BRANCH refl) (like op.BRANCH_CONDITIONAL refl))
    (like op.SWITCH refl)) (like op.RETURN refl)) (like op.RETURN_VALUE refl)) (like op.UNREACHABLE refl) h
  where
    o : ℕ
    o = opcode i

    like : (k : ℕ) → row_section (row_of k) ≡ 11 → (o == k) ≡ true → row_section (row_of o) ≡ 11
    like k p e = ap (λ q. row_section (row_of q)) (equal_true o k e) ∙ p

terminator_section : (begun : Bool) (i : Instruction) → is_terminator i ≡ true → plain_section begun i ≡ 11
terminator_section begun i h = by (begun && stands_in_functions_too i)
  where
    by : (b : Bool) → cond b 11 (row_section (row_of (opcode i))) ≡ 11
    by true = refl
    by false = terminator_row i h

no_function_outside : (place : Place) (s : ℕ) (i : Instruction) → (opcode i == op.FUNCTION) ≡ true → fits_place place s i ≡ is_outside place
no_function_outside place s i h = grind (arith, nat_tests)

function_end_goes : (place : Place) (i : Instruction) → (opcode i == op.FUNCTION) ≡ false → (opcode i == op.FUNCTION_END) ≡ true → behind place i ≡ Outside
function_end_goes place i f e = grind (arith, nat_tests)

-- what stands between blocks
between : (i : Instruction) → fits_place Between (plain_section true i) i ≡ true → 11 ≤ plain_section true i → (is_label_mark i || is_function_end i) ≡ true
between i fits late = by (kind_of i)
  where
    second : (b : Bool) → (b || true) ≡ true
    second true = refl
    second false = refl

    by : IsKind i → (is_label_mark i || is_function_end i) ≡ true
    by (AFunction f) = absurd (differ (sym fits ∙ no_function_outside Between (plain_section true i) i f))
    by (AParameter f p) = absurd (differ (sym fits ∙ parameter_fits Between (plain_section true i) i f p))
    by (AnEnd f p e) = ap (λ (b : Bool). is_label_mark i || b) e ∙ second (is_label_mark i)
    by (ALabel f p e l) = ap (λ (b : Bool). b || is_function_end i) l
    by (Another f p e l) = absurd (differ (sym fits ∙ other_fits Between (plain_section true i) i f p e l (section_of_other i late)))

inside_not_out : (p : Place) → is_inside p ≡ true → is_outside p ≡ false
inside_not_out Outside h = absurd (cc h)
inside_not_out Head h = absurd (cc h)
inside_not_out Between h = absurd (cc h)
inside_not_out Inside h = refl

not_out : (b : Bool) → not b ≡ true → b ≡ false
not_out true h = absurd (cc h)
not_out false h = refl

begun_on : (a b : Bool) → a ≡ true → (a || b) ≡ true
begun_on true b h = refl
begun_on false b h = absurd (cc h)

begun_last : (a b : Bool) → b ≡ true → (a || b) ≡ true
begun_last true b h = refl
begun_last false b h = h

tidy_from : (p : Place) (begun : Bool) (is : List Instruction) → (is_outside p ≡ false → begun ≡ true) → Fits p begun is → IsTidy is
tidy_from p begun [] b fits = tt
tidy_from p begun (i ∷ is) b fits =
    by (kind_of i) (λ q o e. tidy_from q (begun || is_function i) is o (subst (λ r. Fits r (begun || is_function i) is) e fits.2))
  where
    no_end : (o k : ℕ) → (o == k) ≡ true
        → (k == op.BRANCH || k == op.BRANCH_CONDITIONAL || k == op.SWITCH || k == op.RETURN || k == op.RETURN_VALUE || k == op.UNREACHABLE) ≡ false
        → (o == op.BRANCH || o == op.BRANCH_CONDITIONAL || o == op.SWITCH || o == op.RETURN || o == op.RETURN_VALUE || o == op.UNREACHABLE) ≡ false
    no_end o k e h =
        ap (λ q. q == op.BRANCH || q == op.BRANCH_CONDITIONAL || q == op.SWITCH || q == op.RETURN || q == op.RETURN_VALUE || q == op.UNREACHABLE)
        (equal_true o k e) ∙ h

    plain : is_terminator i ≡ false → IsTidy is → IsTidy (i ∷ is)
    plain n more = ((λ t. absurd (differ (sym t ∙ n))), more)

    follows : (js : List Instruction) → Fits Between true js → BeginsWell js
    follows [] fits = tt
    follows (j ∷ js) fits = between j fits.0 (fits.1 refl)

    by : IsKind i → ((q : Place) → (is_outside q ≡ false → (begun || is_function i) ≡ true) → behind p i ≡ q → IsTidy is) → IsTidy (i ∷ is)
    by (AFunction f) more = plain (no_end (opcode i) op.FUNCTION f refl) (more Head (λ o. begun_last begun (is_function i) f) (behind_function p i f))
    by (AParameter f e) more =
        plain (no_end (opcode i) op.FUNCTION_PARAMETER e refl) (more p (λ o. begun_on begun (is_function i) (b o)) (behind_parameter p i e))
    by (AnEnd f q e) more = plain (no_end (opcode i) op.FUNCTION_END e refl) (more Outside (λ o. absurd (differ o)) (function_end_goes p i f e))
    by (ALabel f q e l) more =
        let out : is_outside p ≡ false = not_out (is_outside p) (sym (label_fits p (plain_section begun i) i f q e l) ∙ fits.0) in
        plain (no_end (opcode i) op.LABEL l refl) (more Inside (λ o. begun_on begun (is_function i) (b out)) (behind_label p i l))
    by (Another f q e l) more = ending (is_terminator i) refl
      where
        ending : (t : Bool) → is_terminator i ≡ t → IsTidy (i ∷ is)
        ending true t =
            let inside = sym (other_fits p (plain_section begun i) i f q e l (terminator_section begun i t)) ∙ fits.0 in
            let now : begun ≡ true = b (inside_not_out p inside) in
            let goes : behind p i ≡ Between = behind_other p i f e l ∙ ap (λ (x : Bool). cond x Between p) t in
            let started : (begun || is_function i) ≡ true = begun_on begun (is_function i) now in (
              λ h. follows is (subst (λ x. Fits Between x is) started (subst (λ r. Fits r (begun || is_function i) is) goes fits.2)),
              more Between (λ o. started) goes,
            )
        ending false t =
            plain t (more p (λ o. begun_on begun (is_function i) (b o)) (behind_other p i f e l ∙ ap (λ (x : Bool). cond x Between p) t))

pub whole_tidy : (is : List Instruction) → Fits Outside false is → IsTidy is
whole_tidy is fits = tidy_from Outside false is (λ o. absurd (differ o)) fits

-- ---- of a function

line_on : (i : Instruction) (is : List Instruction) → IsTidy (without_marks (i ∷ is)) → IsTidy (without_marks is)
line_on i is h = by (is_line i) h
  where
    by : (b : Bool) → IsTidy (cond (not b) (i ∷ without_marks is) (without_marks is)) → IsTidy (without_marks is)
    by true h = h
    by false h = h.1

drop_tidy : (n : ℕ) (is : List Instruction) → IsTidy (without_marks is) → IsTidy (without_marks (drop n is))
drop_tidy zero is h = h
drop_tidy (suc n) [] h = tt
drop_tidy (suc n) (i ∷ is) h = drop_tidy n is (line_on i is h)

-- an instruction before others, unless it is a line mark
abbrev mark : Bool → Instruction → List Instruction → List Instruction
mark line i is = cond (not line) (i ∷ is) is

-- what is tidy from some instructions on, stays so where fewer stand behind them
abbrev IsFewer : (all few : List Instruction) → Type 0
IsFewer all few = IsTidy few × (BeginsWell all → BeginsWell few)

rest_tidy : (is : List Instruction) → IsTidy (without_marks is) → IsFewer (without_marks is) (without_marks (rest_of_function is))
rest_tidy [] h = (tt, λ b. tt)
rest_tidy (i ∷ is) h = by (is_function i) (is_function_end i) (rest_tidy is (line_on i is h))
  where
    one : (line : Bool) → IsFewer (mark line i (without_marks is)) (mark line i [])
    one true = (tt, λ b. tt)
    one false = (((λ t. tt), tt), λ b. b)

    more : (line : Bool) → IsTidy (mark line i (without_marks is)) → IsFewer (without_marks is) (without_marks (rest_of_function is))
        → IsFewer (mark line i (without_marks is)) (mark line i (without_marks (rest_of_function is)))
    more true g rest = rest
    more false g rest = (((λ t. rest.1 (g.0 t)), rest.0), λ b. b)

    by : (f e : Bool) → IsFewer (without_marks is) (without_marks (rest_of_function is))
        → IsFewer (without_marks (i ∷ is)) (without_marks (cond f [] (cond e (i ∷ []) (i ∷ rest_of_function is))))
    by true e rest = (tt, λ b. tt)
    by false true rest = one (is_line i)
    by false false rest = more (is_line i) h rest

begun_tidy : (is : List Instruction) → IsTidy (without_marks is) → IsTidy (without_marks (begun_function is))
begun_tidy [] h = tt
begun_tidy (i ∷ is) h = more (is_line i) h (rest_tidy is (line_on i is h))
  where
    more : (line : Bool) → IsTidy (mark line i (without_marks is)) → IsFewer (without_marks is) (without_marks (rest_of_function is))
        → IsTidy (mark line i (without_marks (rest_of_function is)))
    more true g rest = rest.0
    more false g rest = ((λ t. rest.1 (g.0 t)), rest.0)

from_tidy : (is : List Instruction) (o : Option ℕ) → IsTidy (without_marks is) → IsTidy (without_marks (function_from is o))
from_tidy is None h = tt
from_tidy is (Some n) h = begun_tidy (drop n is) (drop_tidy n is h)

pub function_tidy : (is : List Instruction) (k : ℕ) → IsTidy (without_marks is) → IsTidy (without_marks (function_insts k is))
function_tidy is k h = from_tidy is (slice_get (starts is) k) h

-- ---- OpFunctionEnd

abbrev pub EndIsLast : List Instruction → Type 0
EndIsLast [] = Unit {0}
EndIsLast (i ∷ is) = (is_function_end i ≡ true → is ≡ []) × EndIsLast is

abbrev NoEnd : Instruction → Type 0
NoEnd i = is_function_end i ≡ false

last_alone : (xs : List Instruction) (last : Instruction) → All NoEnd xs → EndIsLast (xs ++ last ∷ [])
last_alone [] last h = ((λ e. refl), tt)
last_alone (x ∷ xs) last h =
    ((λ e. absurd (differ (sym e ∙ All-head NoEnd x xs h))), last_alone xs last (All-tail NoEnd x xs h))

-- whether an opcode stands in a block
abbrev stands_in_block : ℕ → Bool
stands_in_block o =
    o == op.LABEL || (o == op.BRANCH || o == op.BRANCH_CONDITIONAL || o == op.SWITCH || o == op.RETURN || o == op.RETURN_VALUE || o == op.UNREACHABLE)
    || is_step o || is_one_of block_marks o

no_end_in_block : (i : Instruction) → is_in_block i ≡ true → is_function_end i ≡ false
unfolding row_of
no_end_in_block i h = by (is_function_end i) refl
  where
    by : (b : Bool) → is_function_end i ≡ b → b ≡ false
    by true e =
        let none : stands_in_block op.FUNCTION_END ≡ false = refl in
        absurd (differ (sym h ∙ ap stands_in_block (equal_true (opcode i) op.FUNCTION_END e) ∙ none))
    by false e = refl

all_append : (xs ys : List Instruction) → All NoEnd xs → All NoEnd ys → All NoEnd (xs ++ ys)
all_append [] ys h g = g
all_append (x ∷ xs) ys h g = All-cons NoEnd x (xs ++ ys) (All-head NoEnd x xs h) (all_append xs ys (All-tail NoEnd x xs h) g)

pub text_ends : (is : List Instruction) → IsText is → EndIsLast is
text_ends is t =
    let front = t.function ∷ (t.parameters ++ t.label ∷ t.blocks) in
    let same : is ≡ front ++ t.last ∷ [] = t.same in
    let blocks : All NoEnd (t.label ∷ t.blocks) =
    All-cons NoEnd t.label t.blocks (ap (λ o. o == op.FUNCTION_END) (equal_true (opcode t.label) op.LABEL t.first))
    (λ k d e. no_end_in_block (get_or t.blocks k d) (t.inside k d e)) in
    let inner : All NoEnd (t.parameters ++ t.label ∷ t.blocks) =
    all_append t.parameters (t.label ∷ t.blocks) (λ k d e. ap (λ o. o == op.FUNCTION_END) (t.takes k d e)) blocks in
    subst EndIsLast (sym same)
    (last_alone front t.last (All-cons NoEnd t.function (t.parameters ++ t.label ∷ t.blocks) (ap (λ o. o == op.FUNCTION_END) t.begins) inner))
