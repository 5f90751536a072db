-- A module that breaks no rule on the layout is what stands before its first function and then its functions, but for line marks.
use Rattle.std.proofs.Common.{◌≡◌, ℕ, zero, suc, ◌+◌, ◌≤◌, Bool, true, false, cond, not, ◌==◌, ◌||◌, List, [], ◌∷◌, ◌++◌, map, Option, Some, None, refl, sym, ap, ◌∙◌, subst, arith}
use Rattle.std.specs.Prelude.{slice_get, count_by}
use Rattle.std.specs.List.{flat_map, range_with_len}
use Rattle.std.specs.Option.{option_map}
use Rattle.std.proofs.lemmas.List.Sums.{sum_by-cons}
use Rattle.spv_opcodes.specs.declared.op.TheConstants as op
use Rattle.spv_grammar.specs.Table.{row_of}
use Rattle.spv_module.specs.declared.layout.Place.{Place}
use Rattle.spv_module.specs.declared.layout.Place.TheVariants.{Outside, Head, Between, Inside}
use Rattle.spv_module.specs.Code.{is_function, is_line, plain_section, row_section}
use Rattle.spv_module.specs.Instruction.{Instruction, opcode}
use Rattle.spv_module.specs.Layout.{behind, fits_place, is_outside, is_terminator}
use Rattle.spv_blocks.specs.Cutting.{function_from, function_insts, is_function_end, rest_of_function, starts_from}
use Rattle.spv_walk.proofs.Unique.{equal_true}
use Rattle.spv_normal.specs.Lines.{without_marks}
use Rattle.spv_texts.proofs.Marks.{line_is_no_function, line_is_no_function_end}
use Rattle.spv_texts.proofs.Functions.{Fits, IsKind, AFunction, AParameter, AnEnd, ALabel, Another, kind_of, parameter_fits, end_fits, label_fits, other_fits, behind_parameter}
use Rattle.spv_texts.proofs.Functions.{behind_function, behind_other, section_of_other, rest_on, rest_ends, no_function_inside, differ, marks_front}
use Rattle.spv_norm.specs.Norm.{outside}

-- the functions of a module, in order
abbrev pub functions_in : List Instruction → List (List Instruction)
functions_in [] = []
functions_in (i ∷ is) = cond (is_function i) ((i ∷ rest_of_function is) ∷ functions_in is) (functions_in is)

abbrev pub joined : List (List Instruction) → List Instruction
joined texts = flat_map (λ insts. insts) texts

-- ---- one instruction

marks_line : (i : Instruction) (is : List Instruction) → is_line i ≡ true → without_marks (i ∷ is) ≡ without_marks is
marks_line i is h = ap (λ (b : Bool). cond (not b) (i ∷ without_marks is) (without_marks is)) h

marks_plain : (i : Instruction) (is : List Instruction) → is_line i ≡ false → without_marks (i ∷ is) ≡ i ∷ without_marks is
marks_plain i is h = ap (λ (b : Bool). cond (not b) (i ∷ without_marks is) (without_marks is)) h

functions_on : (i : Instruction) (is : List Instruction) → is_function i ≡ false → functions_in (i ∷ is) ≡ functions_in is
functions_on i is h = ap (λ (b : Bool). cond b ((i ∷ rest_of_function is) ∷ functions_in is) (functions_in is)) h

functions_here : (i : Instruction) (is : List Instruction) → is_function i ≡ true → functions_in (i ∷ is) ≡ (i ∷ rest_of_function is) ∷ functions_in is
functions_here i is h = ap (λ (b : Bool). cond b ((i ∷ rest_of_function is) ∷ functions_in is) (functions_in is)) h

abbrev Later : List Instruction → List Instruction
Later is = without_marks (joined (functions_in is))

later_on : (i : Instruction) (is : List Instruction) → is_function i ≡ false → Later (i ∷ is) ≡ Later is
later_on i is h = ap (λ ts. without_marks (joined ts)) (functions_on i is h)

-- an instruction in a function that does not end it leaves the place inside
stays_in : (l t : Bool) (place : Place) → is_outside place ≡ false → is_outside (cond l Inside (cond t Between place)) ≡ false
stays_in true t place h = refl
stays_in false true place h = refl
stays_in false false place h = h

behind_inside : (place : Place) (i : Instruction) → is_function i ≡ false → is_function_end i ≡ false → is_outside place ≡ false → is_outside (behind place i) ≡ false
behind_inside place i f e h =
    ap (λ (b : Bool). is_outside (cond b Head (cond (opcode i == op.FUNCTION_END) Outside (cond (opcode i == op.LABEL) Inside (cond (is_terminator i) Between place))))) f
    ∙ ap (λ (b : Bool). is_outside (cond b Outside (cond (opcode i == op.LABEL) Inside (cond (is_terminator i) Between place)))) e
    ∙ stays_in (opcode i == op.LABEL) (is_terminator i) place h

behind_end : (place : Place) (i : Instruction) → is_function i ≡ false → is_function_end i ≡ true → behind place i ≡ Outside
behind_end place i f e =
    ap (λ (b : Bool). cond b Head (cond (opcode i == op.FUNCTION_END) Outside (cond (opcode i == op.LABEL) Inside (cond (is_terminator i) Between place)))) f
    ∙ ap (λ (b : Bool). cond b Outside (cond (opcode i == op.LABEL) Inside (cond (is_terminator i) Between place))) e

-- between functions nothing stands
nothing_between : (i : Instruction) → (is_function i ≡ false) → fits_place Outside (plain_section true i) i ≡ true → 11 ≤ plain_section true i → ⊥
nothing_between i f fits late = by_kind (kind_of i) where
  by_kind : IsKind i → ⊥
  by_kind (AFunction g) = differ (sym g ∙ f)
  by_kind (AParameter g p) = differ (sym fits ∙ parameter_fits Outside (plain_section true i) i g p)
  by_kind (AnEnd g p e) = differ (sym fits ∙ end_fits Outside (plain_section true i) i g p e)
  by_kind (ALabel g p e l) = differ (sym fits ∙ label_fits Outside (plain_section true i) i g p e l)
  by_kind (Another g p e l) = differ (sym fits ∙ other_fits Outside (plain_section true i) i g p e l (section_of_other i late))

function_step : (i : Instruction) (is : List Instruction) → is_line i ≡ false → is_function i ≡ true → without_marks is ≡ without_marks (rest_of_function is) ++ Later is
    → i ∷ without_marks is ≡ Later (i ∷ is)
function_step i is line ef e =
    ap (λ z. i ∷ z) e
    ∙ ap (λ z. z ++ Later is) (sym (marks_plain i (rest_of_function is) line))
    ∙ sym (marks_front (i ∷ rest_of_function is) (joined (functions_in is)))
    ∙ sym (ap (λ ts. without_marks (joined ts)) (functions_here i is ef))

in_step : (place : Place) (i : Instruction) (is : List Instruction) → is_outside place ≡ false → Fits place true (without_marks (i ∷ is))
    → (line function end : Bool) → is_line i ≡ line → is_function i ≡ function → is_function_end i ≡ end
    → ((p : Place) → is_outside p ≡ false → Fits p true (without_marks is) → without_marks is ≡ without_marks (rest_of_function is) ++ Later is)
    → (Fits Outside true (without_marks is) → without_marks is ≡ Later is)
    → without_marks (i ∷ is) ≡ without_marks (rest_of_function (i ∷ is)) ++ Later (i ∷ is)
in_step place i is o fits true f e line ef ee more out =
    let nf = line_is_no_function i line in
    marks_line i is line ∙ more place o (subst (Fits place true) (marks_line i is line) fits)
    ∙ ap (λ z. z ++ Later is) (sym (ap without_marks (rest_on i is nf (line_is_no_function_end i line)) ∙ marks_line i (rest_of_function is) line))
    ∙ ap (λ z. without_marks (rest_of_function (i ∷ is)) ++ z) (sym (later_on i is nf))
in_step place i is o fits false true e line ef ee more out =
    let here = subst (Fits place true) (marks_plain i is line) fits in
    absurd (no_function_inside place (plain_section true i) i o ef here.0)
in_step place i is o fits false false true line ef ee more out =
    let here = subst (Fits place true) (marks_plain i is line) fits in
    marks_plain i is line ∙ ap (λ z. i ∷ z) (out (subst (λ p. Fits p true (without_marks is)) (behind_end place i ef ee) here.2))
    ∙ ap (λ z. z ++ Later is) (sym (ap without_marks (rest_ends i is ef ee) ∙ marks_plain i [] line))
    ∙ ap (λ z. without_marks (rest_of_function (i ∷ is)) ++ z) (sym (later_on i is ef))
in_step place i is o fits false false false line ef ee more out =
    let here = subst (Fits place true) (marks_plain i is line) fits in
    marks_plain i is line ∙ ap (λ z. i ∷ z) (more (behind place i) (behind_inside place i ef ee o) here.2)
    ∙ ap (λ z. z ++ Later is) (sym (ap without_marks (rest_on i is ef ee) ∙ marks_plain i (rest_of_function is) line))
    ∙ ap (λ z. without_marks (rest_of_function (i ∷ is)) ++ z) (sym (later_on i is ef))

out_step : (i : Instruction) (is : List Instruction) → Fits Outside true (without_marks (i ∷ is)) → (line function : Bool) → is_line i ≡ line → is_function i ≡ function
    → ((p : Place) → is_outside p ≡ false → Fits p true (without_marks is) → without_marks is ≡ without_marks (rest_of_function is) ++ Later is)
    → (Fits Outside true (without_marks is) → without_marks is ≡ Later is)
    → without_marks (i ∷ is) ≡ Later (i ∷ is)
out_step i is fits true f line ef more out =
    marks_line i is line ∙ out (subst (Fits Outside true) (marks_line i is line) fits) ∙ sym (later_on i is (line_is_no_function i line))
out_step i is fits false true line ef more out =
    let here = subst (Fits Outside true) (marks_plain i is line) fits in
    marks_plain i is line ∙ function_step i is line ef (more Head refl (subst (λ p. Fits p true (without_marks is)) (behind_function Outside i ef) here.2))
out_step i is fits false false line ef more out =
    let here = subst (Fits Outside true) (marks_plain i is line) fits in
    absurd (nothing_between i ef here.0 (here.1 refl))

-- by induction on the instructions, inside a function and between functions
mutual
  inside_from : (place : Place) (is : List Instruction) → is_outside place ≡ false → Fits place true (without_marks is)
      → without_marks is ≡ without_marks (rest_of_function is) ++ Later is
  inside_from place [] o fits = refl
  inside_from place (i ∷ is) o fits =
      in_step place i is o fits (is_line i) (is_function i) (is_function_end i) refl refl refl
      (λ p q g. inside_from p is q g) (λ g. outside_from is g)

  outside_from : (is : List Instruction) → Fits Outside true (without_marks is) → without_marks is ≡ Later is
  outside_from [] fits = refl
  outside_from (i ∷ is) fits =
      out_step i is fits (is_line i) (is_function i) refl refl (λ p q g. inside_from p is q g) (λ g. outside_from is g)

-- a terminator stands in functions alone
either_gives : {P : Type 0} (a b : Bool) → (a ≡ true → P) → (b ≡ true → P) → (a || b) ≡ true → P
either_gives true b f g h = f refl
either_gives false b f g h = g h

terminator_section : (i : Instruction) → is_terminator i ≡ true → row_section (row_of (opcode i)) ≡ 11
unfolding row_of
terminator_section i h =
    either_gives (o == op.BRANCH || o == op.BRANCH_CONDITIONAL || o == op.SWITCH || o == op.RETURN || o == op.RETURN_VALUE) (o == op.UNREACHABLE)
    (either_gives (o == op.BRANCH || o == op.BRANCH_CONDITIONAL || o == op.SWITCH || o == op.RETURN) (o == op.RETURN_VALUE)
    (either_gives (o == op.BRANCH || o == op.BRANCH_CONDITIONAL || o == op.SWITCH) (o == op.RETURN)
    (either_gives (o == op.BRANCH || o == op.BRANCH_CONDITIONAL) (o == op.SWITCH)
    (either_gives (o == op.BRANCH) (o == op.BRANCH_CONDITIONAL) (at op.BRANCH refl) (at op.BRANCH_CONDITIONAL refl))
    (at op.SWITCH refl)) (at op.RETURN refl)) (at op.RETURN_VALUE refl)) (at op.UNREACHABLE refl) h
  where
    o : ℕ
    o = opcode i

    at : (k : ℕ) → row_section (row_of k) ≡ 11 → (o == k) ≡ true → row_section (row_of o) ≡ 11
    at k p e = ap (λ q. row_section (row_of q)) (equal_true o k e) ∙ p

-- what fits outside before the first function stays there
still : (i : Instruction) → is_function i ≡ false → fits_place Outside (plain_section false i) i ≡ true → behind Outside i ≡ Outside
still i f fits = by_kind (kind_of i) where
  by_end : (b : Bool) → is_terminator i ≡ b → (opcode i == op.FUNCTION) ≡ false → (opcode i == op.FUNCTION_PARAMETER) ≡ false → (opcode i == op.FUNCTION_END) ≡ false
      → (opcode i == op.LABEL) ≡ false → cond (is_terminator i) Between Outside ≡ Outside
  by_end true t g p e l = absurd (differ (sym fits ∙ other_fits Outside (plain_section false i) i g p e l (terminator_section i t)))
  by_end false t g p e l = ap (λ (b : Bool). cond b Between Outside) t

  by_kind : IsKind i → behind Outside i ≡ Outside
  by_kind (AFunction g) = absurd (differ (sym g ∙ f))
  by_kind (AParameter g p) = behind_parameter Outside i p
  by_kind (AnEnd g p e) = absurd (differ (sym fits ∙ end_fits Outside (plain_section false i) i g p e))
  by_kind (ALabel g p e l) = absurd (differ (sym fits ∙ label_fits Outside (plain_section false i) i g p e l))
  by_kind (Another g p e l) = behind_other Outside i g e l ∙ by_end (is_terminator i) refl g p e l

-- before the first function
first_from : (is : List Instruction) → Fits Outside false (without_marks is) → without_marks is ≡ without_marks (outside is) ++ Later is
first_from [] fits = refl
first_from (i ∷ is) fits = step (is_line i) (is_function i) refl refl (λ g. first_from is g) where
  step : (line function : Bool) → is_line i ≡ line → is_function i ≡ function
      → (Fits Outside false (without_marks is) → without_marks is ≡ without_marks (outside is) ++ Later is)
      → without_marks (i ∷ is) ≡ without_marks (cond (is_function i) [] (i ∷ outside is)) ++ Later (i ∷ is)
  step true f line ef more =
      let nf = line_is_no_function i line in
      marks_line i is line ∙ more (subst (Fits Outside false) (marks_line i is line) fits)
      ∙ ap (λ z. z ++ Later is) (sym (ap (λ (b : Bool). without_marks (cond b [] (i ∷ outside is))) nf ∙ marks_line i (outside is) line))
      ∙ ap (λ z. without_marks (cond (is_function i) [] (i ∷ outside is)) ++ z) (sym (later_on i is nf))
  step false true line ef more =
      let here = subst (Fits Outside false) (marks_plain i is line) fits in
      let inner = subst (λ b. Fits Head b (without_marks is)) ef (subst (λ p. Fits p (is_function i) (without_marks is)) (behind_function Outside i ef) here.2) in
      marks_plain i is line ∙ function_step i is line ef (inside_from Head is refl inner)
      ∙ ap (λ z. z ++ Later (i ∷ is)) (sym (ap (λ (b : Bool). without_marks (cond b [] (i ∷ outside is))) ef))
  step false false line ef more =
      let here = subst (Fits Outside false) (marks_plain i is line) fits in
      marks_plain i is line
      ∙ ap (λ z. i ∷ z) (more (subst (λ b. Fits Outside b (without_marks is)) ef (subst (λ p. Fits p (is_function i) (without_marks is)) (still i ef here.0) here.2)))
      ∙ ap (λ z. z ++ Later is) (sym (ap (λ (b : Bool). without_marks (cond b [] (i ∷ outside is))) ef ∙ marks_plain i (outside is) line))
      ∙ ap (λ z. without_marks (cond (is_function i) [] (i ∷ outside is)) ++ z) (sym (later_on i is ef))

-- ---- functions by their numbers

starts_shift : (n k : ℕ) (is : List Instruction) → slice_get (starts_from (n + 1) is) k ≡ option_map suc (slice_get (starts_from n is) k)
starts_shift n k [] = refl
starts_shift n k (i ∷ is) = by (is_function i) k (λ j. starts_shift (n + 1) j is) where
  by : (b : Bool) (k : ℕ) → ((j : ℕ) → slice_get (starts_from (n + 1 + 1) is) j ≡ option_map suc (slice_get (starts_from (n + 1) is) j))
      → slice_get (cond b ((n + 1) ∷ starts_from (n + 1 + 1) is) (starts_from (n + 1 + 1) is)) k
      ≡ option_map suc (slice_get (cond b (n ∷ starts_from (n + 1) is) (starts_from (n + 1) is)) k)
  by true zero more = ap Some (omega arith)
  by true (suc k) more = more k
  by false k more = more k

from_shift : (i : Instruction) (is : List Instruction) (o : Option ℕ) → function_from (i ∷ is) (option_map suc o) ≡ function_from is o
from_shift i is None = refl
from_shift i is (Some n) = refl

-- the first, and the others
function_first : (i : Instruction) (is : List Instruction) → is_function i ≡ true → function_insts 0 (i ∷ is) ≡ i ∷ rest_of_function is
function_first i is h = ap (λ (b : Bool). function_from (i ∷ is) (slice_get (cond b (0 ∷ starts_from (0 + 1) is) (starts_from (0 + 1) is)) 0)) h

function_later : (i : Instruction) (is : List Instruction) (k : ℕ) → is_function i ≡ true → function_insts (suc k) (i ∷ is) ≡ function_insts k is
function_later i is k h =
    ap (λ (b : Bool). function_from (i ∷ is) (slice_get (cond b (0 ∷ starts_from (0 + 1) is) (starts_from (0 + 1) is)) (suc k))) h
    ∙ ap (function_from (i ∷ is)) (starts_shift 0 k is) ∙ from_shift i is (slice_get (starts_from 0 is) k)

function_on : (i : Instruction) (is : List Instruction) (k : ℕ) → is_function i ≡ false → function_insts k (i ∷ is) ≡ function_insts k is
function_on i is k h =
    ap (λ (b : Bool). function_from (i ∷ is) (slice_get (cond b (0 ∷ starts_from (0 + 1) is) (starts_from (0 + 1) is)) k)) h
    ∙ ap (function_from (i ∷ is)) (starts_shift 0 k is) ∙ from_shift i is (slice_get (starts_from 0 is) k)

map_shift : {X : Type 0} (F G : ℕ → X) → ((k : ℕ) → F (suc k) ≡ G k) → (a n : ℕ) → map F (range_with_len (suc a) n) ≡ map G (range_with_len a n)
map_shift F G h a zero = refl
map_shift F G h a (suc n) = λ i. h a i ∷ (ap (λ b. map F (range_with_len b n)) (more a) ∙ map_shift F G h (a + 1) n) i where
  more : (a : ℕ) → suc a + 1 ≡ suc (a + 1)
  more a = omega arith

map_same : {X : Type 0} (F G : ℕ → X) → ((k : ℕ) → F k ≡ G k) → (a n : ℕ) → map F (range_with_len a n) ≡ map G (range_with_len a n)
map_same F G h a n = λ i. map (λ k. h k i) (range_with_len a n)

one_more : (n : ℕ) → suc n ≡ 1 + n
one_more n = omega arith

none_more : (n : ℕ) → n ≡ 0 + n
none_more n = omega arith

-- by induction on the instructions
pub functions_are : (is : List Instruction) → functions_in is ≡ map (λ k. function_insts k is) (range_with_len 0 (count_by is_function is))
functions_are [] = refl
functions_are (i ∷ is) =
    by (is_function i) refl (functions_are is)
    ∙ ap (λ n. map (λ k. function_insts k (i ∷ is)) (range_with_len 0 n)) (sym (sum_by-cons (λ j. cond (is_function j) 1 0) i is)) where
      by : (b : Bool) → is_function i ≡ b → functions_in is ≡ map (λ k. function_insts k is) (range_with_len 0 (count_by is_function is))
          → functions_in (i ∷ is) ≡ map (λ k. function_insts k (i ∷ is)) (range_with_len 0 (cond (is_function i) 1 0 + count_by is_function is))
      by true e more =
          functions_here i is e
          ∙ (λ j. sym (function_first i is e) j
          ∷ (more ∙ sym (map_shift (λ k. function_insts k (i ∷ is)) (λ k. function_insts k is) (λ k. function_later i is k e) 0 (count_by is_function is))) j)
          ∙ ap (λ n. map (λ k. function_insts k (i ∷ is)) (range_with_len 0 n)) (one_more (count_by is_function is) ∙ ap (λ (b : Bool). cond b 1 0 + count_by is_function is) (sym e))
      by false e more =
          functions_on i is e ∙ more
          ∙ sym (map_same (λ k. function_insts k (i ∷ is)) (λ k. function_insts k is) (λ k. function_on i is k e) 0 (count_by is_function is))
          ∙ ap (λ n. map (λ k. function_insts k (i ∷ is)) (range_with_len 0 n)) (none_more (count_by is_function is) ∙ ap (λ (b : Bool). cond b 1 0 + count_by is_function is) (sym e))

pub module_is_cut : (is : List Instruction) → Fits Outside false (without_marks is) → without_marks is ≡ without_marks (outside is ++ joined (functions_in is))
module_is_cut is fits = first_from is fits ∙ sym (marks_front (outside is) (joined (functions_in is)))
