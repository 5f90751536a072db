-- Instructions of functions stand behind an OpFunction, and declarations before all of them.
use Rattle.std.proofs.Common.{◌≡◌, ℕ, zero, suc, ◌<◌, Bool, true, false, cond, not, ◌==◌, ◌&&◌, ◌||◌, List, [], ◌∷◌, ◌++◌, take, Some, None, refl, sym, ap, ◌∙◌, arith}
use Rattle.std.specs.Prelude.{nat_lt}
use Rattle.std.specs.List.{fold, list_any, slice_get}
use Rattle.std.proofs.lemmas.Bool.{or_parts, both_ways}
use Rattle.std.proofs.lemmas.Bool.Decides.{nat_tests}
use Rattle.spv_opcodes.specs.declared.op.TheConstants as op
use Rattle.spv_grammar.specs.Table.{row_of}
use Rattle.spv_module.specs.declared.layout.Place.{Place}
use Rattle.spv_module.specs.declared.layout.Place.TheVariants.{Outside, Head, Between, Inside}
use Rattle.spv_module.specs.Code.{is_function, is_line, plain_section, row_section, stands_in_functions_too}
use Rattle.spv_module.specs.First.{here, first}
use Rattle.spv_module.specs.Instruction.{Instruction, opcode}
use Rattle.spv_module.specs.Layout.{is_terminator, behind, place_behind, plain_sections, section_behind, fits_place, layout_rules, layout_from, missing_rules, end_rule, without_lines, group_2}
use Rattle.spv_label_uses.proofs.Free.{or_cases, same_by}
use Rattle.spv_label_uses.proofs.Placed.{Fits, fits, fits_at, append_nil, append_push, nothing_first, nothing_here, nothing_left, nothing_right}

-- ---- line marks begin no function

line_begins_none : (i : Instruction) → is_line i ≡ true → is_function i ≡ false
line_begins_none i h =
    or_cases (opcode i == op.LINE) (opcode i == op.NO_LINE) h (λ e. ap (λ o. o == op.FUNCTION) (same_by (opcode i) op.LINE e))
    (λ e. ap (λ o. o == op.FUNCTION) (same_by (opcode i) op.NO_LINE e))

-- induction on the instructions
begun_without : (xs : List Instruction) → list_any is_function (without_lines xs) ≡ list_any is_function xs
begun_without [] = refl
begun_without (x ∷ xs) = by (is_line x) refl (begun_without xs) where
  by : (b : Bool) → is_line x ≡ b → list_any is_function (without_lines xs) ≡ list_any is_function xs
      → list_any is_function (cond (not b) (x ∷ without_lines xs) (without_lines xs)) ≡ (is_function x || list_any is_function xs)
  by true e more = more ∙ sym (ap (λ b. b || list_any is_function xs) (line_begins_none x e))
  by false e more = ap (λ b. is_function x || b) more

-- ---- before all functions

pub any_first : (a b : Bool) → a ≡ true → (a || b) ≡ true
any_first true b h = refl
any_first false b h = absurd (cc h)

pub any_second : (a b : Bool) → b ≡ true → (a || b) ≡ true
any_second true b h = refl
any_second false b h = h

function_row : row_section (row_of op.FUNCTION) ≡ 11
unfolding row_of
function_row = refl

function_section : (begun : Bool) (i : Instruction) → is_function i ≡ true → plain_section begun i ≡ 11
function_section begun i h = by begun (stands_in_functions_too i) where
  row : row_section (row_of (opcode i)) ≡ 11
  row = ap (λ o. row_section (row_of o)) (same_by (opcode i) op.FUNCTION h) ∙ function_row

  by : (a b : Bool) → cond (a && b) 11 (row_section (row_of (opcode i))) ≡ 11
  by true true = refl
  by true false = row
  by false b = row

below : (x y : ℕ) → x < y → nat_lt x y ≡ true
below x y h = grind (arith, nat_tests)

-- a function before has a section above a lower one; induction on the instructions
section_above : (begun : Bool) (x : ℕ) (before : List Instruction) → x < 11 → list_any is_function before ≡ true
    → list_any (λ section. nat_lt x section) (plain_sections begun before) ≡ true
section_above begun x [] low h = absurd (cc h)
section_above begun x (i ∷ is) low h = by (is_function i) refl h (λ k. section_above (begun || is_function i) x is low k) where
  by : (b : Bool) → is_function i ≡ b → (b || list_any is_function is) ≡ true
      → (list_any is_function is ≡ true → list_any (λ section. nat_lt x section) (plain_sections (begun || is_function i) is) ≡ true)
      → (nat_lt x (plain_section begun i) || list_any (λ section. nat_lt x section) (plain_sections (begun || is_function i) is)) ≡ true
  by true e k more =
      any_first (nat_lt x (plain_section begun i)) (list_any (λ section. nat_lt x section) (plain_sections (begun || is_function i) is))
      (ap (nat_lt x) (function_section begun i e) ∙ below x 11 low)
  by false e k more = any_second (nat_lt x (plain_section begun i)) (list_any (λ section. nat_lt x section) (plain_sections (begun || is_function i) is))
      (more k)

own_section : (b stands : Bool) (s : ℕ) → stands ≡ false → cond (b && stands) 11 s ≡ s
own_section true stands s h = ap (λ c. cond c 11 s) h
own_section false stands s h = refl

-- no function has begun before an instruction of a lower section, but for OpVariable and OpUndef
pub declared_first : (end : ℕ) (insts : List Instruction) → first (group_2 end insts) ≡ None → (k : ℕ) (i : Instruction) → slice_get insts k ≡ Some i
    → is_line i ≡ false
    → stands_in_functions_too i ≡ false → nat_lt (row_section (row_of (opcode i))) 11 ≡ true → list_any is_function (take k insts) ≡ false
declared_first end insts h k i at plain stands low = by (list_any is_function (take k insts)) refl where
  before : List Instruction
  before = without_lines (take k insts)

  s : ℕ
  s = row_section (row_of (opcode i))

  is_low : (x : ℕ) → nat_lt x 11 ≡ true → x < 11
  is_low x h = grind (arith, nat_tests)

  by : (b : Bool) → list_any is_function (take k insts) ≡ b → list_any is_function (take k insts) ≡ false
  by false e = e
  by true e =
      let section : section_behind before i ≡ s = own_section (list_any is_function before) (stands_in_functions_too i) s stands in
      let above = section_above false s before (is_low s low) (begun_without (take k insts) ∙ e) in
      let it = fits_at end insts h k i at plain in
      absurd (both_ways (list_any (λ section. nat_lt s section) (plain_sections false before))
      (sym (ap (λ n. list_any (λ section. nat_lt n section) (plain_sections false before)) section) ∙ it.ordered) above)

-- ---- behind a function

-- whether an opcode's instruction may stand outside functions
abbrev pub stands_outside : (o : ℕ) → Bool
stands_outside o =
    cond (o == op.FUNCTION) true
    (cond (o == op.FUNCTION_PARAMETER) false
    (cond (o == op.FUNCTION_END) false
    (cond (o == op.LABEL) false
    (cond (row_section (row_of o) == 11) false
    true))))

outside_fits : (i : Instruction) → fits_place Outside (row_section (row_of (opcode i))) i ≡ stands_outside (opcode i)
outside_fits i = refl

-- nothing that stands outside is a label or a terminator
label_inside : stands_outside op.LABEL ≡ false
label_inside = refl

terminators_inside : (o : ℕ)
    → (o == op.BRANCH || o == op.BRANCH_CONDITIONAL || o == op.SWITCH || o == op.RETURN || o == op.RETURN_VALUE || o == op.UNREACHABLE) ≡ true
    → stands_outside o ≡ false
unfolding row_of
terminators_inside o h =
    or_cases (o == op.BRANCH || o == op.BRANCH_CONDITIONAL || o == op.SWITCH || o == op.RETURN || o == op.RETURN_VALUE) (o == op.UNREACHABLE) h
    (λ h. or_cases (o == op.BRANCH || o == op.BRANCH_CONDITIONAL || o == op.SWITCH || o == op.RETURN) (o == op.RETURN_VALUE) h
    (λ h. or_cases (o == op.BRANCH || o == op.BRANCH_CONDITIONAL || o == op.SWITCH) (o == op.RETURN) h
    (λ h. or_cases (o == op.BRANCH || o == op.BRANCH_CONDITIONAL) (o == op.SWITCH) h
    (λ h. or_cases (o == op.BRANCH) (o == op.BRANCH_CONDITIONAL) h (λ e. ap stands_outside (same_by o op.BRANCH e))
    (λ e. ap stands_outside (same_by o op.BRANCH_CONDITIONAL e)))
    (λ e. ap stands_outside (same_by o op.SWITCH e)))
    (λ e. ap stands_outside (same_by o op.RETURN e)))
    (λ e. ap stands_outside (same_by o op.RETURN_VALUE e)))
    (λ e. ap stands_outside (same_by o op.UNREACHABLE e))

-- so what stands outside and begins no function leaves the place as it is
stays_outside : (i : Instruction) → is_function i ≡ false → stands_outside (opcode i) ≡ true → behind Outside i ≡ Outside
stays_outside i f h = by (opcode i == op.FUNCTION_END) (opcode i == op.LABEL) (is_terminator i) refl refl where
  place : Bool → Bool → Bool → Place
  place e l t = cond e Outside (cond l Inside (cond t Between Outside))

  by : (e l t : Bool) → (opcode i == op.LABEL) ≡ l → is_terminator i ≡ t → behind Outside i ≡ Outside
  by e l t hl ht = ap (λ b. cond b Head (place (opcode i == op.FUNCTION_END) (opcode i == op.LABEL) (is_terminator i))) f ∙ among
      (opcode i == op.FUNCTION_END) l t hl ht where
        among : (e l t : Bool) → (opcode i == op.LABEL) ≡ l → is_terminator i ≡ t
            → place (opcode i == op.FUNCTION_END) (opcode i == op.LABEL) (is_terminator i) ≡ Outside
        among e true t hl ht = absurd (both_ways (stands_outside (opcode i)) (ap stands_outside (same_by (opcode i) op.LABEL hl) ∙ label_inside) h)
        among e false true hl ht = absurd (both_ways (stands_outside (opcode i)) (terminators_inside (opcode i) ht) h)
        among e false false hl ht =
            ap (λ l. place (opcode i == op.FUNCTION_END) l (is_terminator i)) hl ∙ ap (λ t. place (opcode i == op.FUNCTION_END) false t) ht
            ∙ either (opcode i == op.FUNCTION_END)
          where
            either : (b : Bool) → place b false false ≡ Outside
            either true = refl
            either false = refl

place_push : (p : Place) (xs : List Instruction) (i : Instruction) → fold behind p (xs ++ i ∷ []) ≡ behind (fold behind p xs) i
place_push p [] i = refl
place_push p (x ∷ xs) i = place_push (behind p x) xs i

begun_push : (xs : List Instruction) (i : Instruction) → list_any is_function xs ≡ false → is_function i ≡ false → list_any is_function (xs ++ i ∷ []) ≡ false
begun_push [] i h k = ap (λ b. b || false) k
begun_push (x ∷ xs) i h k =
    let parts = or_parts (is_function x) (list_any is_function xs) h in
    ap (λ b. b || list_any is_function (xs ++ i ∷ [])) parts.0 ∙ begun_push xs i parts.1 k

-- where no function has begun, what fits its place may stand outside
outside_there : (before : List Instruction) (i : Instruction) → list_any is_function before ≡ false → place_behind before ≡ Outside → Fits before i
    → stands_outside (opcode i) ≡ true
outside_there before i none place it =
    let section : section_behind before i ≡ row_section (row_of (opcode i)) = ap
    (λ b. cond (b && stands_in_functions_too i) 11 (row_section (row_of (opcode i)))) none in
    sym (outside_fits i) ∙ sym (ap (λ p. fits_place p (row_section (row_of (opcode i))) i) place) ∙ sym
    (ap (λ s. fits_place (place_behind before) s i) section) ∙ it.shaped

-- induction on the instructions
outside_from : (before is : List Instruction) → place_behind before ≡ Outside → list_any is_function before ≡ false
    → layout_from before (without_lines is) ≡ []
    → (k : ℕ) → list_any is_function (take k is) ≡ false → place_behind (before ++ without_lines (take k is)) ≡ Outside
unfolding layout_from
outside_from before [] place none h zero f = ap place_behind (append_nil before) ∙ place
outside_from before [] place none h (suc k) f = ap place_behind (append_nil before) ∙ place
outside_from before (x ∷ xs) place none h zero f = ap place_behind (append_nil before) ∙ place
outside_from before (x ∷ xs) place none h (suc k) f =
    by (is_line x) h (λ b p n g. outside_from b xs p n g k parts.1)
  where
    parts : (is_function x ≡ false) × (list_any is_function (take k xs) ≡ false)
    parts = or_parts (is_function x) (list_any is_function (take k xs)) f

    by : (b : Bool) → layout_from before (cond (not b) (x ∷ without_lines xs) (without_lines xs)) ≡ []
        → ((b : List Instruction) → place_behind b ≡ Outside → list_any is_function b ≡ false → layout_from b (without_lines xs) ≡ []
        → place_behind (b ++ without_lines (take k xs)) ≡ Outside)
        → place_behind (before ++ cond (not b) (x ∷ without_lines (take k xs)) (without_lines (take k xs))) ≡ Outside
    by true g more = more before place none g
    by false g more =
        let it = fits before x (nothing_here x.offset (layout_rules before x)
        (nothing_left (here x.offset (layout_rules before x)) (layout_from (before ++ x ∷ []) (without_lines xs)) g)) in
        let still : place_behind (before ++ x ∷ []) ≡ Outside =
        place_push Outside before x ∙ ap (λ p. behind p x) place ∙ stays_outside x parts.0 (outside_there before x none place it) in
        ap place_behind (sym (append_push before x (without_lines (take k xs))))
        ∙ more (before ++ x ∷ []) still (begun_push before x none parts.0)
        (nothing_right (here x.offset (layout_rules before x)) (layout_from (before ++ x ∷ []) (without_lines xs)) g)

-- a function has begun before what does not stand outside
pub begun_before : (end : ℕ) (insts : List Instruction) → first (group_2 end insts) ≡ None → (k : ℕ) (i : Instruction) → slice_get insts k ≡ Some i
    → is_line i ≡ false
    → stands_outside (opcode i) ≡ false → list_any is_function (take k insts) ≡ true
begun_before end insts h k i at plain inside = by (list_any is_function (take k insts)) refl where
  before : List Instruction
  before = without_lines (take k insts)

  by : (b : Bool) → list_any is_function (take k insts) ≡ b → list_any is_function (take k insts) ≡ true
  by true e = e
  by false e =
      let others = nothing_right (here 5 (missing_rules (without_lines insts)))
      (layout_from [] (without_lines insts) ++ here end (end_rule (without_lines insts)))
      (nothing_first (group_2 end insts) h) in
      let rules = nothing_left (layout_from [] (without_lines insts)) (here end (end_rule (without_lines insts))) others in
      let place = outside_from [] insts refl refl rules k e in
      let outside = outside_there before i (begun_without (take k insts) ∙ e) place (fits_at end insts h k i at plain) in
      absurd (both_ways (stands_outside (opcode i)) inside outside)
