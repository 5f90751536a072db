-- The shape of each function, where the layout of the module breaks no rule.
use Rattle.std.proofs.Common.{◌≡◌, ℕ, zero, suc, ◌+◌, ◌<◌, ◌≤◌, Bool, true, false, cond, not, ◌==◌, ◌&&◌, ◌||◌, leb, List, [], ◌∷◌, ◌++◌, map, Option, Some, None, refl, sym, ap, ◌∙◌, subst, arith}
use Rattle.std.specs.Prelude.{nat_lt, nat_le, All, drop, length, slice_get, count_by}
use Rattle.std.specs.List.{fold, list_any, list_all}
use Rattle.std.specs.Option.{option_or}
use Rattle.std.proofs.lemmas.Bool.Decides.{nat_tests}
use Rattle.std.proofs.lemmas.List.Elements.{All-nil, All-cons}
use Rattle.std.proofs.lemmas.List.Sums.{sum_by-cons}
use Rattle.spv_base.specs.declared.fault.Refusal.{Refusal}
use Rattle.spv_opcodes.specs.declared.op.TheConstants as op
use Rattle.spv_grammar.specs.Table.{Shape, row_at, row_of, module_rows, type_rows, flow_rows, memory_rows, value_rows, pair_rows}
use Rattle.spv_module.specs.declared.layout.Place.{Place}
use Rattle.spv_module.specs.declared.layout.Place.TheVariants.{Outside, Head, Between, Inside}
use Rattle.spv_module.specs.Code.{is_function, plain_section, row_section, stands_in_functions_too}
use Rattle.spv_module.specs.First.{here, unless, first}
use Rattle.spv_module.specs.Instruction.{Instruction, opcode}
use Rattle.spv_module.specs.Layout.{is_outside, is_head, is_inside, behind, place_behind, plain_sections, section_behind, order_rule, shape_rule, second_model_rule, fits_place, layout_rules, layout_from, missing_rules, end_rule, without_lines, group_2, is_terminator}
use Rattle.spv_blocks.specs.Cutting.{is_label_mark, is_function_end, rest_of_function, starts_from, begun_function, function_insts, function_from}
use Rattle.spv_normal.specs.Lines.{without_marks}
use Rattle.spv_tree.specs.Sound.{is_step}
use Rattle.spv_spelling.specs.Whole.{is_in_block, IsText, AreInstructions, LaidOut}
use Rattle.spv_texts.proofs.Marks.{rest_marks, line_is_no_function}
use Rattle.spv_module.specs.Code.{is_line}

-- ---- lists of which nothing is left

pub nothing_first : (bs : List Refusal) → first bs ≡ None → bs ≡ []
nothing_first [] h = refl
nothing_first (b ∷ bs) h = absurd (cc)

pub record Nothing {A : Type 0} (xs ys : List A) : Type 0 where
  pub left : xs ≡ []
  pub right : ys ≡ []

pub nothing_both : {A : Type 0} (xs ys : List A) → xs ++ ys ≡ [] → Nothing xs ys
nothing_both [] ys h = record { left = refl; right = h }
nothing_both (x ∷ xs) ys h = absurd (cc)

pub nothing_here : (at : ℕ) (rules : List ℕ) → here at rules ≡ [] → rules ≡ []
nothing_here at [] h = refl
nothing_here at (rule ∷ rules) h = absurd (cc)

pub nothing_unless : (b : Bool) (rule : ℕ) → unless b rule ≡ [] → b ≡ true
nothing_unless true rule h = refl
nothing_unless false rule h = absurd (cc)

-- ---- sections: no row has one above 11

abbrev Holds : (Shape → Bool) → Option Shape → Type 0
Holds test None = Unit {0}
Holds test (Some shape) = test shape ≡ true

cond_holds : (test : Shape → Bool) (b : Bool) (x y : Option Shape) → Holds test x → Holds test y → Holds test (cond b x y)
cond_holds test true x y h k = h
cond_holds test false x y h k = k

or_holds : (test : Shape → Bool) (x y : Option Shape) → Holds test x → Holds test y → Holds test (option_or x y)
or_holds test None y h k = k
or_holds test (Some shape) y h k = h

first_passes : (a b : Bool) → (a && b) ≡ true → a ≡ true
first_passes true b h = refl
first_passes false b h = h

second_passes : (a b : Bool) → (a && b) ≡ true → b ≡ true
second_passes true b h = h
second_passes false true h = refl
second_passes false false h = h

row_holds : (test : Shape → Bool) (rows : List (ℕ × Shape)) (o : ℕ) → list_all (λ row. test row.1) rows ≡ true → Holds test (row_at rows o)
row_holds test [] o h = tt
row_holds test (row ∷ rows) o h =
    cond_holds test (o == row.0) (Some row.1) (row_at rows o) (first_passes (test row.1) (list_all (λ r. test r.1) rows) h)
    (row_holds test rows o (second_passes (test row.1) (list_all (λ r. test r.1) rows) h))

abbrev is_low : Shape → Bool
is_low shape = nat_le shape.section 11

-- by computing over the rows
row_is_low : (o : ℕ) → Holds is_low (row_of o)
unfolding row_of
row_is_low o =
    or_holds is_low (row_at module_rows o) _ (row_holds is_low module_rows o refl)
    (or_holds is_low (row_at type_rows o) _ (row_holds is_low type_rows o refl)
    (or_holds is_low (row_at flow_rows o) _ (row_holds is_low flow_rows o refl)
    (or_holds is_low (row_at memory_rows o) _ (row_holds is_low memory_rows o refl)
    (or_holds is_low (row_at value_rows o) (row_at pair_rows o) (row_holds is_low value_rows o refl) (row_holds is_low pair_rows o refl)))))

low_section : (row : Option Shape) → Holds is_low row → row_section row ≤ 11
low_section None h = omega arith
low_section (Some shape) h = grind (arith, nat_tests)

function_row : row_section (row_of op.FUNCTION) ≡ 11
unfolding row_of
function_row = refl

-- in a function, where no section comes before 11, it is 11
section_in_function : (b : Bool) (o : ℕ) → 11 ≤ cond b 11 (row_section (row_of o)) → cond b 11 (row_section (row_of o)) ≡ 11
section_in_function true o h = refl
section_in_function false o h = let low = low_section (row_of o) (row_is_low o) in omega arith

function_section : (begun b : Bool) (o : ℕ) → o ≡ op.FUNCTION → cond (begun && b) 11 (row_section (row_of o)) ≡ 11
function_section true true o h = refl
function_section true false o h = ap (λ n. row_section (row_of n)) h ∙ function_row
function_section false b o h = ap (λ n. row_section (row_of n)) h ∙ function_row

pub same_opcode : (a b : ℕ) → (a == b) ≡ true → a ≡ b
same_opcode a b h = grind (arith, nat_tests)

any_first : (a b : Bool) → a ≡ true → (a || b) ≡ true
any_first true b h = refl
any_first false b h = absurd (cc)

any_second : (a b : Bool) → b ≡ true → (a || b) ≡ true
any_second true b h = refl
any_second false b h = h

-- an earlier function has a section above a lower one
section_above : (begun : Bool) (x : ℕ) (before : List Instruction) → x < 11 → list_any is_function before ≡ true → list_any (λ section. nat_lt x section) (plain_sections begun before) ≡ true
section_above begun x [] lt h = absurd (cc)
section_above begun x (i ∷ is) lt h = by_first (is_function i) refl h (λ t. section_above (begun || is_function i) x is lt t) where
  by_first : (b : Bool) → is_function i ≡ b → (b || list_any is_function is) ≡ true
      → (list_any is_function is ≡ true → list_any (λ section. nat_lt x section) (plain_sections (begun || is_function i) is) ≡ true)
      → (nat_lt x (plain_section begun i) || list_any (λ section. nat_lt x section) (plain_sections (begun || is_function i) is)) ≡ true
  by_first true e t more =
      any_first (nat_lt x (plain_section begun i)) _ (ap (nat_lt x) (function_section begun (stands_in_functions_too i) (opcode i) (same_opcode (opcode i) op.FUNCTION e)) ∙ grind (arith, nat_tests))
  by_first false e t more = any_second (nat_lt x (plain_section begun i)) _ (more t)

-- ---- each instruction fits its place

-- the places and sections go on from a place; behind all a function is over
abbrev pub Fits : Place → (begun : Bool) → List Instruction → Type 0
Fits place begun [] = is_outside place ≡ true
Fits place begun (i ∷ is) =
    (fits_place place (plain_section begun i) i ≡ true) × (begun ≡ true → 11 ≤ plain_section begun i) × Fits (behind place i) (begun || is_function i) is

place_push : (p : Place) (xs : List Instruction) (i : Instruction) → fold behind p (xs ++ i ∷ []) ≡ behind (fold behind p xs) i
place_push p [] i = refl
place_push p (x ∷ xs) i = place_push (behind p x) xs i

or_push : (a b c : Bool) → (a || (b || c)) ≡ ((a || b) || c)
or_push true b c = refl
or_push false b c = refl

or_nothing : (a : Bool) → (a || false) ≡ a
or_nothing true = refl
or_nothing false = refl

begun_push : (xs : List Instruction) (i : Instruction) → list_any is_function (xs ++ i ∷ []) ≡ (list_any is_function xs || is_function i)
begun_push [] i = or_nothing (is_function i)
begun_push (x ∷ xs) i = ap (λ (b : Bool). is_function x || b) (begun_push xs i) ∙ or_push (is_function x) (list_any is_function xs) (is_function i)

behind_nothing : (xs : List Instruction) → xs ++ [] ≡ xs
behind_nothing [] = refl
behind_nothing (x ∷ xs) = ap (λ ys. x ∷ ys) (behind_nothing xs)

append_push : (xs : List Instruction) (i : Instruction) (is : List Instruction) → (xs ++ i ∷ []) ++ is ≡ xs ++ i ∷ is
append_push [] i is = refl
append_push (x ∷ xs) i is = ap (λ ys. x ∷ ys) (append_push xs i is)

not_below : (x y : ℕ) → not (nat_lt x y) ≡ true → y ≤ x
not_below x y h = grind (arith, nat_tests)

test_fails : (b : Bool) → not b ≡ true → b ≡ true → ⊥
test_fails true h k = absurd (cc)
test_fails false h k = absurd (cc)

below_or_not : (x n : ℕ) → (nat_lt x n ≡ false → n ≤ x)
below_or_not x n h = grind (arith, nat_tests)

-- a section is not below 11 behind a function, where no section comes before one that has begun
section_late : (before : List Instruction) (i : Instruction) → order_rule before i ≡ [] → list_any is_function before ≡ true → 11 ≤ section_behind before i
section_late before i h t = deciding (nat_lt (section_behind before i) 11) refl where
  deciding : (b : Bool) → nat_lt (section_behind before i) 11 ≡ b → 11 ≤ section_behind before i
  deciding false e = below_or_not (section_behind before i) 11 e
  deciding true e =
      let lt : section_behind before i < 11 = grind (arith, nat_tests) in
      let any = section_above false (section_behind before i) before lt t in
      let none = nothing_unless (not (list_any (λ section. nat_lt (section_behind before i) section) (plain_sections false before))) 201 h in
      absurd (test_fails (list_any (λ section. nat_lt (section_behind before i) section) (plain_sections false before)) none any)

fits_from : (before rest : List Instruction) → layout_from before rest ≡ [] → end_rule (before ++ rest) ≡ [] → Fits (place_behind before) (list_any is_function before) rest
unfolding layout_from
fits_from before [] h e = nothing_unless (is_outside (place_behind before)) 205 (ap end_rule (sym (behind_nothing before)) ∙ e)
fits_from before (i ∷ is) h e =
    let parts = nothing_both (here i.offset (layout_rules before i)) (layout_from (before ++ i ∷ []) is) h in
    let rules = nothing_both (order_rule before i) (second_model_rule before i ++ shape_rule before i) (nothing_here i.offset (layout_rules before i) parts.left) in
    let shape = nothing_both (second_model_rule before i) (shape_rule before i) rules.right in
    let rest = fits_from (before ++ i ∷ []) is parts.right (ap end_rule (append_push before i is) ∙ e) in (
      nothing_unless (fits_place (place_behind before) (section_behind before i) i) 205 shape.right,
      section_late before i rules.left,
      subst (λ begun. Fits (behind (place_behind before) i) begun is) (begun_push before i)
          (subst (λ place. Fits place (list_any is_function (before ++ i ∷ [])) is) (place_push Outside before i) rest),
    )

pub fits_in_module : (end : ℕ) (insts : List Instruction) → first (group_2 end insts) ≡ None → Fits Outside false (without_lines insts)
fits_in_module end insts h =
    let all = nothing_first (group_2 end insts) h in
    let parts = nothing_both (here 5 (missing_rules (without_lines insts))) (layout_from [] (without_lines insts) ++ here end (end_rule (without_lines insts))) all in
    let last = nothing_both (layout_from [] (without_lines insts)) (here end (end_rule (without_lines insts))) parts.right in
    fits_from [] (without_lines insts) last.left (nothing_here end (end_rule (without_lines insts)) last.right)

-- ---- the instructions of a function

-- what stands behind the first label of a function
pub record AreBlocks (is : List Instruction) : Type 0 where
  pub blocks : List Instruction
  pub last : Instruction
  pub same : rest_of_function is ≡ blocks ++ last ∷ []
  pub inside : All (λ i. is_in_block i ≡ true) blocks
  pub ends : opcode last ≡ op.FUNCTION_END

-- and what stands behind its OpFunction
pub record AreParts (is : List Instruction) : Type 0 where
  pub parameters : List Instruction
  pub label : Instruction
  pub blocks : List Instruction
  pub last : Instruction
  pub same : rest_of_function is ≡ parameters ++ (label ∷ blocks) ++ last ∷ []
  pub takes : All (λ i. opcode i ≡ op.FUNCTION_PARAMETER) parameters
  pub first : is_label_mark label ≡ true
  pub inside : All (λ i. is_in_block i ≡ true) blocks
  pub ends : opcode last ≡ op.FUNCTION_END

-- what an instruction is in a function
pub data IsKind (i : Instruction) : Type 0 where
  AFunction : (opcode i == op.FUNCTION) ≡ true → IsKind i
  AParameter : (opcode i == op.FUNCTION) ≡ false → (opcode i == op.FUNCTION_PARAMETER) ≡ true → IsKind i
  AnEnd : (opcode i == op.FUNCTION) ≡ false → (opcode i == op.FUNCTION_PARAMETER) ≡ false → (opcode i == op.FUNCTION_END) ≡ true → IsKind i
  ALabel : (opcode i == op.FUNCTION) ≡ false → (opcode i == op.FUNCTION_PARAMETER) ≡ false → (opcode i == op.FUNCTION_END) ≡ false → (opcode i == op.LABEL) ≡ true → IsKind i
  Another : (opcode i == op.FUNCTION) ≡ false → (opcode i == op.FUNCTION_PARAMETER) ≡ false → (opcode i == op.FUNCTION_END) ≡ false → (opcode i == op.LABEL) ≡ false → IsKind i

kind_by : (i : Instruction) (f p e l : Bool) → (opcode i == op.FUNCTION) ≡ f → (opcode i == op.FUNCTION_PARAMETER) ≡ p → (opcode i == op.FUNCTION_END) ≡ e
    → (opcode i == op.LABEL) ≡ l → IsKind i
kind_by i true p e l hf hp he hl = AFunction hf
kind_by i false true e l hf hp he hl = AParameter hf hp
kind_by i false false true l hf hp he hl = AnEnd hf hp he
kind_by i false false false true hf hp he hl = ALabel hf hp he hl
kind_by i false false false false hf hp he hl = Another hf hp he hl

pub kind_of : (i : Instruction) → IsKind i
kind_of i = kind_by i (opcode i == op.FUNCTION) (opcode i == op.FUNCTION_PARAMETER) (opcode i == op.FUNCTION_END) (opcode i == op.LABEL) refl refl refl refl

-- the place that each kind fits
function_fits : (place : Place) (s : ℕ) (i : Instruction) → (opcode i == op.FUNCTION) ≡ true → fits_place place s i ≡ is_outside place
function_fits place s i h = grind (arith, nat_tests)

pub parameter_fits : (place : Place) (s : ℕ) (i : Instruction) → (opcode i == op.FUNCTION) ≡ false → (opcode i == op.FUNCTION_PARAMETER) ≡ true → fits_place place s i ≡ is_head place
parameter_fits place s i f h = grind (arith, nat_tests)

pub end_fits : (place : Place) (s : ℕ) (i : Instruction) → (opcode i == op.FUNCTION) ≡ false → (opcode i == op.FUNCTION_PARAMETER) ≡ false → (opcode i == op.FUNCTION_END) ≡ true →
    fits_place place s i ≡ (not (is_outside place) && not (is_head place))
end_fits place s i f p h = grind (arith, nat_tests)

pub label_fits : (place : Place) (s : ℕ) (i : Instruction) → (opcode i == op.FUNCTION) ≡ false → (opcode i == op.FUNCTION_PARAMETER) ≡ false → (opcode i == op.FUNCTION_END) ≡ false →
    (opcode i == op.LABEL) ≡ true → fits_place place s i ≡ not (is_outside place)
label_fits place s i f p e h = grind (arith, nat_tests)

pub other_fits : (place : Place) (s : ℕ) (i : Instruction) → (opcode i == op.FUNCTION) ≡ false → (opcode i == op.FUNCTION_PARAMETER) ≡ false → (opcode i == op.FUNCTION_END) ≡ false →
    (opcode i == op.LABEL) ≡ false → s ≡ 11 → fits_place place s i ≡ is_inside place
other_fits place s i f p e l h = grind (arith, nat_tests)

-- the place behind each kind
pub behind_parameter : (place : Place) (i : Instruction) → (opcode i == op.FUNCTION_PARAMETER) ≡ true → behind place i ≡ place
behind_parameter place i h = grind (arith, nat_tests)

pub behind_function : (place : Place) (i : Instruction) → (opcode i == op.FUNCTION) ≡ true → behind place i ≡ Head
behind_function place i h = grind (arith, nat_tests)

pub behind_label : (place : Place) (i : Instruction) → (opcode i == op.LABEL) ≡ true → behind place i ≡ Inside
behind_label place i h = grind (arith, nat_tests)

pub behind_other : (place : Place) (i : Instruction) → (opcode i == op.FUNCTION) ≡ false → (opcode i == op.FUNCTION_END) ≡ false → (opcode i == op.LABEL) ≡ false →
    behind place i ≡ cond (is_terminator i) Between place
behind_other place i f e l = grind (arith, nat_tests)

-- what stands in a function and is no mark of it stands in a block
abbrev low_or_special : (special low : Bool) → Bool
low_or_special true low = true
low_or_special false low = low

special_or_section : (special : Bool) (s : ℕ) → cond special 11 s ≡ 11 → (s == 11 || special) ≡ true
special_or_section true s h = grind (arith, nat_tests)
special_or_section false s h = grind (arith, nat_tests)

in_block_by : (i : Instruction) (b : Bool) → (opcode i == op.FUNCTION) ≡ false → (opcode i == op.FUNCTION_PARAMETER) ≡ false → (opcode i == op.FUNCTION_END) ≡ false →
    (row_section (row_of (opcode i)) == 11) ≡ b → (b || stands_in_functions_too i) ≡ true → is_in_block i ≡ true
in_block_by i b f p e r h = grind (arith, nat_tests)

pub section_of_other : (i : Instruction) → 11 ≤ plain_section true i → plain_section true i ≡ 11
section_of_other i h = section_in_function (stands_in_functions_too i) (opcode i) h

-- one instruction more
abbrev pub rest_step : Instruction → List Instruction → List Instruction
rest_step i is = cond (is_function i) [] (cond (is_function_end i) (i ∷ []) (i ∷ rest_of_function is))

pub rest_on : (i : Instruction) (is : List Instruction) → is_function i ≡ false → is_function_end i ≡ false → rest_step i is ≡ i ∷ rest_of_function is
rest_on i is f e = ap (λ (b : Bool). cond b [] (cond (is_function_end i) (i ∷ []) (i ∷ rest_of_function is))) f ∙ ap (λ (b : Bool). cond b (i ∷ []) (i ∷ rest_of_function is)) e

pub rest_ends : (i : Instruction) (is : List Instruction) → is_function i ≡ false → is_function_end i ≡ true → rest_step i is ≡ i ∷ []
rest_ends i is f e = ap (λ (b : Bool). cond b [] (cond (is_function_end i) (i ∷ []) (i ∷ rest_of_function is))) f ∙ ap (λ (b : Bool). cond b (i ∷ []) (i ∷ rest_of_function is)) e

pub differ : true ≡ false → ⊥
differ h = absurd (cc)

pub no_function_inside : (place : Place) (s : ℕ) (i : Instruction) → is_outside place ≡ false → (opcode i == op.FUNCTION) ≡ true → fits_place place s i ≡ true → ⊥
no_function_inside place s i o h fits = differ (sym fits ∙ function_fits place s i h ∙ o)

between_is_inside : (b : Bool) (place : Place) → is_outside place ≡ false → is_outside (cond b Between place) ≡ false
between_is_inside true place o = refl
between_is_inside false place o = o

between_is_no_head : (b : Bool) (place : Place) → is_head place ≡ false → is_head (cond b Between place) ≡ false
between_is_no_head true place h = refl
between_is_no_head false place h = h

-- by induction on the instructions, inside a function behind its first label
blocks_more : (i : Instruction) (is : List Instruction) → is_in_block i ≡ true → is_function i ≡ false → is_function_end i ≡ false → AreBlocks is → AreBlocks (i ∷ is)
blocks_more i is inside f e more = record {
  blocks = i ∷ more.blocks;
  last = more.last;
  same = rest_on i is f e ∙ ap (λ r. i ∷ r) more.same;
  inside = All-cons (λ i. is_in_block i ≡ true) i more.blocks inside more.inside;
  ends = more.ends;
}

label_in_block : (i : Instruction) → (opcode i == op.LABEL) ≡ true → is_in_block i ≡ true
label_in_block i h = grind (arith, nat_tests)

blocks_from : (place : Place) (is : List Instruction) → is_outside place ≡ false → is_head place ≡ false → Fits place true is → AreBlocks is
blocks_from place [] o h fits = absurd (differ (sym fits ∙ o))
blocks_from place (i ∷ is) o h fits =
    by_kind (kind_of i) (λ p o2 h2 e. blocks_from p is o2 h2 (subst (λ q. Fits q true is) e fits.2)) where
      by_kind : IsKind i → ((p : Place) → is_outside p ≡ false → is_head p ≡ false → behind place i ≡ p → AreBlocks is) → AreBlocks (i ∷ is)
      by_kind (AFunction f) more = absurd (no_function_inside place (plain_section true i) i o f fits.0)
      by_kind (AParameter f p) more = absurd (differ (sym fits.0 ∙ parameter_fits place (plain_section true i) i f p ∙ h))
      by_kind (AnEnd f p e) more = record {
        blocks = [];
        last = i;
        same = rest_ends i is f e;
        inside = All-nil (λ i. is_in_block i ≡ true);
        ends = same_opcode (opcode i) op.FUNCTION_END e;
      }
      by_kind (ALabel f p e l) more = blocks_more i is (label_in_block i l) f e (more Inside refl refl (behind_label place i l))
      by_kind (Another f p e l) more =
          let eleven = section_of_other i (fits.1 refl) in
          let here = in_block_by i (row_section (row_of (opcode i)) == 11) f p e refl (special_or_section (stands_in_functions_too i) (row_section (row_of (opcode i))) eleven) in
          blocks_more i is here f e
          (more (cond (is_terminator i) Between place) (between_is_inside (is_terminator i) place o) (between_is_no_head (is_terminator i) place h) (behind_other place i f e l))

-- behind an OpFunction
parts_more : (i : Instruction) (is : List Instruction) → opcode i ≡ op.FUNCTION_PARAMETER → is_function i ≡ false → is_function_end i ≡ false → AreParts is → AreParts (i ∷ is)
parts_more i is p f e more = record {
  parameters = i ∷ more.parameters;
  label = more.label;
  blocks = more.blocks;
  last = more.last;
  same = rest_on i is f e ∙ ap (λ r. i ∷ r) more.same;
  takes = All-cons (λ i. opcode i ≡ op.FUNCTION_PARAMETER) i more.parameters p more.takes;
  first = more.first;
  inside = more.inside;
  ends = more.ends;
}

parts_begin : (i : Instruction) (is : List Instruction) → is_label_mark i ≡ true → is_function i ≡ false → is_function_end i ≡ false → AreBlocks is → AreParts (i ∷ is)
parts_begin i is l f e more = record {
  parameters = [];
  label = i;
  blocks = more.blocks;
  last = more.last;
  same = rest_on i is f e ∙ ap (λ r. i ∷ r) more.same;
  takes = All-nil (λ i. opcode i ≡ op.FUNCTION_PARAMETER);
  first = l;
  inside = more.inside;
  ends = more.ends;
}

parameter_ends_nothing : (i : Instruction) → (opcode i == op.FUNCTION_PARAMETER) ≡ true → is_function_end i ≡ false
parameter_ends_nothing i h = grind (arith, nat_tests)

parts_from : (is : List Instruction) → Fits Head true is → AreParts is
parts_from [] fits = absurd (differ (sym fits))
parts_from (i ∷ is) fits = by_kind (kind_of i) (λ e. parts_from is (subst (λ q. Fits q true is) e fits.2)) where
  by_kind : IsKind i → (behind Head i ≡ Head → AreParts is) → AreParts (i ∷ is)
  by_kind (AFunction f) more = absurd (no_function_inside Head (plain_section true i) i refl f fits.0)
  by_kind (AParameter f p) more =
      parts_more i is (same_opcode (opcode i) op.FUNCTION_PARAMETER p) f (parameter_ends_nothing i p) (more (behind_parameter Head i p))
  by_kind (AnEnd f p e) more = absurd (differ (sym fits.0 ∙ end_fits Head (plain_section true i) i f p e))
  by_kind (ALabel f p e l) more = parts_begin i is l f e (blocks_from Inside is refl refl (subst (λ q. Fits q true is) (behind_label Head i l) fits.2))
  by_kind (Another f p e l) more = absurd (differ (sym fits.0 ∙ other_fits Head (plain_section true i) i f p e l (section_of_other i (fits.1 refl))))

-- ---- the k-th function of a module

-- an OpFunction among instructions of which the first has the number n, and the number of it
pub record IsStart (n : ℕ) (insts : List Instruction) (number : Option ℕ) : Type 0 where
  pub before : List Instruction
  pub function : Instruction
  pub after : List Instruction
  pub same : insts ≡ before ++ function ∷ after
  pub place : number ≡ Some (n + length before)
  pub begins : is_function function ≡ true

start_later : (n : ℕ) (i : Instruction) (is : List Instruction) (number : Option ℕ) → IsStart (n + 1) is number → IsStart n (i ∷ is) number
start_later n i is number s = record {
  before = i ∷ s.before;
  function = s.function;
  after = s.after;
  same = ap (λ r. i ∷ r) s.same;
  place = s.place ∙ ap Some (omega arith);
  begins = s.begins;
}

-- by induction on the instructions
start_at : (n : ℕ) (insts : List Instruction) (k : ℕ) → k < count_by is_function insts → IsStart n insts (slice_get (starts_from n insts) k)
start_at n [] k lt = absurd (omega arith)
start_at n (i ∷ is) k lt = by_first (is_function i) refl k (subst (λ m. k < m) (sum_by-cons (λ j. cond (is_function j) 1 0) i is) lt) (start_at (n + 1) is) where
  by_first : (b : Bool) → is_function i ≡ b → (k : ℕ) → k < cond b 1 0 + count_by is_function is
      → ((j : ℕ) → j < count_by is_function is → IsStart (n + 1) is (slice_get (starts_from (n + 1) is) j))
      → IsStart n (i ∷ is) (slice_get (cond b (n ∷ starts_from (n + 1) is) (starts_from (n + 1) is)) k)
  by_first true e zero lt more = record { before = []; function = i; after = is; same = refl; place = ap Some (omega arith); begins = e }
  by_first true e (suc k) lt more = start_later n i is _ (more k (omega arith))
  by_first false e k lt more = start_later n i is _ (more k (omega arith))

drop_front : (xs ys : List Instruction) → drop (length xs) (xs ++ ys) ≡ ys
drop_front [] ys = refl
drop_front (x ∷ xs) ys = drop_front xs ys

no_more : (n : ℕ) → 0 + n ≡ n
no_more n = omega arith

function_of_start : (insts : List Instruction) (number : Option ℕ) → (s : IsStart 0 insts number) → function_from insts number ≡ s.function ∷ rest_of_function s.after
function_of_start insts number s =
    ap (function_from insts) (s.place ∙ ap Some (no_more (length s.before))) ∙ ap (λ is. begun_function (drop (length s.before) is)) s.same ∙ ap begun_function (drop_front s.before (s.function ∷ s.after))

function_is_no_line : (i : Instruction) → is_function i ≡ true → is_line i ≡ false
function_is_no_line i h = grind (arith, nat_tests)

pub marks_front : (xs ys : List Instruction) → without_marks (xs ++ ys) ≡ without_marks xs ++ without_marks ys
marks_front [] ys = refl
marks_front (x ∷ xs) ys = kept (is_line x) (marks_front xs ys) where
  kept : (b : Bool) → without_marks (xs ++ ys) ≡ without_marks xs ++ without_marks ys →
      cond (not b) (x ∷ without_marks (xs ++ ys)) (without_marks (xs ++ ys)) ≡ cond (not b) (x ∷ without_marks xs) (without_marks xs) ++ without_marks ys
  kept true e = e
  kept false e = ap (λ r. x ∷ r) e

pub marks_function : (i : Instruction) (is : List Instruction) → is_function i ≡ true → without_marks (i ∷ is) ≡ i ∷ without_marks is
marks_function i is h = ap (λ (b : Bool). cond (not b) (i ∷ without_marks is) (without_marks is)) (function_is_no_line i h)

-- what fits somewhere
pub record FitsSomewhere (is : List Instruction) : Type 0 where
  pub place : Place
  pub begun : Bool
  pub fits : Fits place begun is

fits_behind : (place : Place) (begun : Bool) (xs ys : List Instruction) → Fits place begun (xs ++ ys) → FitsSomewhere ys
fits_behind place begun [] ys fits = record { place = place; begun = begun; fits = fits }
fits_behind place begun (x ∷ xs) ys fits = fits_behind (behind place x) (begun || is_function x) xs ys fits.2

begins_function : (begun b : Bool) → b ≡ true → (begun || b) ≡ true
begins_function true b h = refl
begins_function false b h = h

pub behind_first : (i : Instruction) (is : List Instruction) → is_function i ≡ true → FitsSomewhere (i ∷ is) → Fits Head true is
behind_first i is f s =
    subst (λ begun. Fits Head begun is) (begins_function s.begun (is_function i) f) (subst (λ place. Fits place (s.begun || is_function i) is) (behind_function s.place i f) s.fits.2)

text_of_parts : (i : Instruction) (is : List Instruction) (all : List Instruction) → is_function i ≡ true → AreParts is → all ≡ i ∷ rest_of_function is → IsText all
text_of_parts i is all f p e = record {
  function = i;
  parameters = p.parameters;
  label = p.label;
  blocks = p.blocks;
  last = p.last;
  same = e ∙ ap (λ r. i ∷ r) p.same;
  begins = same_opcode (opcode i) op.FUNCTION f;
  takes = p.takes;
  first = p.first;
  inside = p.inside;
  ends = p.ends;
}

pub laid_out : LaidOut
laid_out end k insts each found lt =
    let s = start_at 0 insts k lt in
    let fits = fits_in_module end insts found in
    let split : without_lines insts ≡ without_marks s.before ++ s.function ∷ without_marks s.after =
    ap without_marks s.same ∙ marks_front s.before (s.function ∷ s.after) ∙ ap (λ r. without_marks s.before ++ r) (marks_function s.function s.after s.begins) in
    let there = fits_behind Outside false (without_marks s.before) (s.function ∷ without_marks s.after) (subst (Fits Outside false) split fits) in
    let parts = parts_from (without_marks s.after) (behind_first s.function (without_marks s.after) s.begins there) in
    text_of_parts s.function (without_marks s.after) (without_marks (function_insts k insts)) s.begins parts
    (ap without_marks (function_of_start insts _ s) ∙ marks_function s.function (rest_of_function s.after) s.begins ∙ ap (λ r. s.function ∷ r) (sym (rest_marks s.after)))
