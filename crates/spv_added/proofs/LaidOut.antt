-- The layout: a declaration stands behind those in front of functions, in a section that is not before theirs, and opens and ends nothing.
use Rattle.std.proofs.Common.{◌≡◌, ℕ, ◌≤◌, max, Bool, true, false, cond, not, ◌==◌, ◌&&◌, ◌||◌, nat_lt, List, [], ◌∷◌, ◌++◌, None, refl, sym, ap, ap₂, subst, ◌∙◌, arith, eqb-true}
use Rattle.std.specs.List.{list_any}
use Rattle.std.proofs.lemmas.Bool.{or_parts}
use Rattle.std.proofs.lemmas.Bool.Decides.{nat_tests}
use Rattle.spv_opcodes.specs.declared.op.TheConstants as op
use Rattle.spv_grammar.specs.Table.{row_of}
use Rattle.spv_grammar.specs.declared.section.TheConstants as section
use Rattle.spv_module.specs.declared.layout.Layout.{Layout}
use Rattle.spv_module.specs.declared.layout.Place.{Place}
use Rattle.spv_module.specs.declared.layout.Place.TheVariants.{Outside, Head, Between, Inside}
use Rattle.spv_module.specs.Code.{is_function, is_line, plain_section, row_section, stands_in_functions_too}
use Rattle.spv_module.specs.First.{first, here}
use Rattle.spv_module.specs.Instruction.{Instruction, opcode}
use Rattle.spv_module.specs.Layout.{behind, end_rule, fits_place, group_2, is_capability, is_entry_point, is_head, is_inside, is_memory_model, is_outside, is_terminator, layout_from, missing_rules, without_lines}
use Rattle.spv_module.specs.LayoutSteps.{kept_behind, kept_rules, nothing_kept}
use Rattle.spv_tree.specs.Tree.{words_of}
use Rattle.spv_declarations.proofs.Declares.{one_of-holds}
use Rattle.spv_texts.proofs.Functions.{AFunction, ALabel, AParameter, AnEnd, Another, IsKind, behind_other, differ, end_fits, kind_of, label_fits, other_fits, parameter_fits, section_of_other}
use Rattle.spv_norm_declared.proofs.Laying.{HasAll, IsLess, IsPlain, Lays, LaysWhole, kept_after, after_both, laid_out, lays_apart, lays_both, lays_whole, less_gone, passes, passing, without_lines_again}
use Rattle.spv_norm_declared.proofs.Walks.{inst_of}
use Rattle.spv_added.specs.Added.{starts_function}
use Rattle.spv_added.specs.Laws.{AddedIsLaidOut}
use Rattle.spv_added.proofs.Walk.{is_foreign, not_opcode}

-- ---- without line marks

abbrev plain_words : List Instruction → List (List ℕ)
plain_words is = words_of (without_lines is)

lines_by_words : (xs ys : List Instruction) → words_of xs ≡ words_of ys → plain_words xs ≡ plain_words ys
lines_by_words [] [] e = refl
lines_by_words [] (y ∷ ys) e = absurd (cc e)
lines_by_words (x ∷ xs) [] e = absurd (cc e)
lines_by_words (x ∷ xs) (y ∷ ys) e =
    let here : x.words ≡ y.words = cc e in
    let later : words_of xs ≡ words_of ys = cc e in
    let mark : is_line x ≡ is_line y = ap (λ ws. is_line (record { offset = 0; words = ws })) here in
    ap (λ (b : Bool). words_of (cond (not b) (x ∷ without_lines xs) (without_lines xs))) mark ∙ by (is_line y) here (lines_by_words xs ys later)
  where
    by : (b : Bool) → x.words ≡ y.words → plain_words xs ≡ plain_words ys
        → words_of (cond (not b) (x ∷ without_lines xs) (without_lines xs)) ≡ words_of (cond (not b) (y ∷ without_lines ys) (without_lines ys))
    by true h more = more
    by false h more = ap₂ (λ (w : List ℕ) ws. w ∷ ws) h more

words_both : (xs ys : List Instruction) → words_of (xs ++ ys) ≡ words_of xs ++ words_of ys
words_both [] ys = refl
words_both (x ∷ xs) ys = ap (λ ws. x.words ∷ ws) (words_both xs ys)

plain_both : (xs ys : List Instruction) → plain_words (xs ++ ys) ≡ plain_words xs ++ plain_words ys
plain_both [] ys = refl
plain_both (x ∷ xs) ys = by (is_line x) (plain_both xs ys)
  where
    by : (b : Bool) → plain_words (xs ++ ys) ≡ plain_words xs ++ plain_words ys
        → words_of (cond (not b) (x ∷ without_lines (xs ++ ys)) (without_lines (xs ++ ys)))
        ≡ words_of (cond (not b) (x ∷ without_lines xs) (without_lines xs)) ++ plain_words ys
    by true more = more
    by false more = ap (λ ws. x.words ∷ ws) more

-- a module lays by its words
lays_by : (end : ℕ) (insts : List Instruction) (ws : List (List ℕ)) → plain_words insts ≡ ws → Lays nothing_kept ws → HasAll (kept_after nothing_kept ws)
    → is_outside (kept_after nothing_kept ws).place ≡ true → first (group_2 end insts) ≡ None
lays_by end insts ws e lays all out =
    ap (λ is. first (here 5 (missing_rules is) ++ (layout_from [] is ++ here end (end_rule is)))) (sym (without_lines_again insts))
    ∙ laid_out end (without_lines insts) (without_lines_again insts) (subst (Lays nothing_kept) (sym e) lays)
    (subst (λ ws. HasAll (kept_after nothing_kept ws)) (sym e) all) (subst (λ ws. is_outside (kept_after nothing_kept ws).place ≡ true) (sym e) out)

-- ---- in front of functions

-- no function has begun, and no section behind that of declarations
record IsEarly (k : Layout) : Type 0 where
  begun : k.begun ≡ false
  section : k.section ≤ 10
  place : k.place ≡ Outside

terminators : List ℕ
terminators = op.BRANCH ∷ op.BRANCH_CONDITIONAL ∷ op.SWITCH ∷ op.RETURN ∷ op.RETURN_VALUE ∷ op.UNREACHABLE ∷ []

local_section : (o : ℕ) → (o == op.VARIABLE || o == op.UNDEF) ≡ true → row_section (row_of o) ≡ 10
unfolding row_of
local_section o h =
    one_of-holds (λ k. row_section (row_of k) ≡ 10) (op.VARIABLE ∷ op.UNDEF ∷ []) (refl, (refl, tt)) o (turned (o == op.VARIABLE) (o == op.UNDEF) h)
  where
    turned : (a b : Bool) → (a || b) ≡ true → (a || (b || false)) ≡ true
    turned true b h = refl
    turned false true h = refl
    turned false false h = absurd (cc h)

terminator_section : (i : Instruction) → is_terminator i ≡ true → row_section (row_of (opcode i)) ≡ 11
unfolding row_of terminators
terminator_section i h =
    one_of-holds (λ k. row_section (row_of k) ≡ 11) terminators (refl, (refl, (refl, (refl, (refl, (refl, tt)))))) (opcode i)
    (turned (opcode i == op.BRANCH) (opcode i == op.BRANCH_CONDITIONAL) (opcode i == op.SWITCH) (opcode i == op.RETURN) (opcode i == op.RETURN_VALUE)
    (opcode i == op.UNREACHABLE) h)
  where
    turned : (a b c d e f : Bool) → (a || b || c || d || e || f) ≡ true → (a || (b || (c || (d || (e || (f || false)))))) ≡ true
    turned true b c d e f h = refl
    turned false true c d e f h = refl
    turned false false true d e f h = refl
    turned false false false true e f h = refl
    turned false false false false true f h = refl
    turned false false false false false true h = refl
    turned false false false false false false h = absurd (cc h)

-- a section that is not 11 is below
low : (i : Instruction) → (row_section (row_of (opcode i)) ≡ 11 → ⊥) → row_section (row_of (opcode i)) ≤ 10
low i never = by (stands_in_functions_too i) refl
  where
    ten : (n : ℕ) → n ≡ 10 → n ≤ 10
    ten n e = omega (arith, e)

    below : (n : ℕ) → (11 ≤ n → n ≡ 11) → (n ≡ 11 → ⊥) → n ≤ 10
    below n top none = by (nat_lt 10 n) refl
      where
        by : (b : Bool) → nat_lt 10 n ≡ b → n ≤ 10
        by true e = absurd (none (top (grind (arith, nat_tests))))
        by false e = grind (arith, nat_tests)

    by : (b : Bool) → stands_in_functions_too i ≡ b → row_section (row_of (opcode i)) ≤ 10
    by true e = ten (row_section (row_of (opcode i))) (local_section (opcode i) e)
    by false e =
        let same : plain_section true i ≡ row_section (row_of (opcode i)) = ap (λ (b : Bool). cond b 11 (row_section (row_of (opcode i)))) e in
        below (row_section (row_of (opcode i))) (λ h. sym same ∙ section_of_other i (subst (λ n. 11 ≤ n) (sym same) h)) never

record StaysEarly (i : Instruction) : Type 0 where
  place : behind Outside i ≡ Outside
  section : row_section (row_of (opcode i)) ≤ 10

still : (i : Instruction) → is_function i ≡ false → fits_place Outside (plain_section false i) i ≡ true → StaysEarly i
still i f fits = by_kind (kind_of i)
  where
    no_eleven : (opcode i == op.FUNCTION) ≡ false → (opcode i == op.FUNCTION_PARAMETER) ≡ false → (opcode i == op.FUNCTION_END) ≡ false
        → (opcode i == op.LABEL) ≡ false → row_section (row_of (opcode i)) ≡ 11 → ⊥
    no_eleven g p e l s = absurd (differ (sym fits ∙ other_fits Outside (plain_section false i) i g p e l s))

    by_end : (b : Bool) → is_terminator i ≡ b → (row_section (row_of (opcode i)) ≡ 11 → ⊥) → cond (is_terminator i) Between Outside ≡ Outside
    by_end true t never = absurd (never (terminator_section i t))
    by_end false t never = ap (λ (b : Bool). cond b Between Outside) t

    by_kind : IsKind i → StaysEarly i
    by_kind (AFunction g) = absurd (differ (sym g ∙ f))
    by_kind (AParameter g p) = absurd (differ (sym fits ∙ parameter_fits Outside (plain_section false i) i g p))
    by_kind (AnEnd g p e) = absurd (differ (sym fits ∙ end_fits Outside (plain_section false i) i g p e))
    by_kind (ALabel g p e l) = absurd (differ (sym fits ∙ label_fits Outside (plain_section false i) i g p e l))
    by_kind (Another g p e l) = record {
      place = behind_other Outside i g e l ∙ by_end (is_terminator i) refl (no_eleven g p e l);
      section = low i (no_eleven g p e l);
    }

max_low : (m n : ℕ) → m ≤ 10 → n ≤ 10 → max m n ≤ 10
max_low m n h g = omega (arith, h, g)

early_step : (k : Layout) (i : Instruction) → IsEarly k → is_function i ≡ false → kept_rules k i ≡ [] → IsEarly (kept_behind k i)
early_step k i early f h =
    let p = passes k i h in
    let fits : fits_place Outside (plain_section false i) i ≡ true =
    subst (λ b. fits_place Outside (plain_section b i) i ≡ true) early.begun
    (subst (λ q. fits_place q (plain_section k.begun i) i ≡ true) early.place p.fits) in
    let s = still i f fits in
    record {
      begun = ap₂ (λ (a b : Bool). a || b) early.begun f;
      section =
          max_low k.section (plain_section k.begun i) early.section
          (subst (λ b. plain_section b i ≤ 10) (sym early.begun) s.section);
      place = ap (λ q. behind q i) early.place ∙ s.place;
    }

-- by induction on what stands there
early_front : (k : Layout) (front : List Instruction) → IsEarly k → list_any is_function front ≡ false → Lays k (plain_words front)
    → IsEarly (kept_after k (plain_words front))
early_front k [] early none lays = early
early_front k (i ∷ front) early none lays = by (is_line i) lays (λ q e l. early_front q front e parts.1 l)
  where
    parts : (is_function i ≡ false) × (list_any is_function front ≡ false)
    parts = or_parts (is_function i) (list_any is_function front) none

    by : (b : Bool) → Lays k (words_of (cond (not b) (i ∷ without_lines front) (without_lines front)))
        → ((q : Layout) → IsEarly q → Lays q (plain_words front) → IsEarly (kept_after q (plain_words front)))
        → IsEarly (kept_after k (words_of (cond (not b) (i ∷ without_lines front) (without_lines front))))
    by true lays more = more k early lays
    by false lays more = more (kept_behind k (inst_of i.words)) (early_step k (inst_of i.words) early parts.0 lays.0) lays.1

-- ---- the new instruction

record AreForeign : Type 0 where
  function : is_foreign op.FUNCTION ≡ true
  parameter : is_foreign op.FUNCTION_PARAMETER ≡ true
  end : is_foreign op.FUNCTION_END ≡ true
  label : is_foreign op.LABEL ≡ true
  capability : is_foreign op.CAPABILITY ≡ true
  model : is_foreign op.MEMORY_MODEL ≡ true
  entry : is_foreign op.ENTRY_POINT ≡ true
  line : is_foreign op.LINE ≡ true
  no_line : is_foreign op.NO_LINE ≡ true
  branch : is_foreign op.BRANCH ≡ true
  condition : is_foreign op.BRANCH_CONDITIONAL ≡ true
  switch : is_foreign op.SWITCH ≡ true
  ret : is_foreign op.RETURN ≡ true
  value : is_foreign op.RETURN_VALUE ≡ true
  unreachable : is_foreign op.UNREACHABLE ≡ true

-- by computing
are_foreign : AreForeign
unfolding row_of
are_foreign = record {
  function = refl;
  parameter = refl;
  end = refl;
  label = refl;
  capability = refl;
  model = refl;
  entry = refl;
  line = refl;
  no_line = refl;
  branch = refl;
  condition = refl;
  switch = refl;
  ret = refl;
  value = refl;
  unreachable = refl;
}

module _ (new : Instruction) (declares : plain_section false new ≡ section.DECLARATIONS) where
  not_it : (o : ℕ) → is_foreign o ≡ true → (opcode new == o) ≡ false
  not_it o h = not_opcode new declares o h

  new_plain : IsPlain (opcode new)
  new_plain = record {
    function = not_it op.FUNCTION are_foreign.function;
    capability = not_it op.CAPABILITY are_foreign.capability;
    model = not_it op.MEMORY_MODEL are_foreign.model;
    entry = not_it op.ENTRY_POINT are_foreign.entry;
    place = λ p k.
        cond (not_it op.FUNCTION are_foreign.function k) Head
        (cond (not_it op.FUNCTION_END are_foreign.end k) Outside
        (cond (not_it op.LABEL are_foreign.label k) Inside
        (cond (not_it op.BRANCH are_foreign.branch k || not_it op.BRANCH_CONDITIONAL are_foreign.condition k || not_it op.SWITCH are_foreign.switch k
        || not_it op.RETURN are_foreign.ret k || not_it op.RETURN_VALUE are_foreign.value k || not_it op.UNREACHABLE are_foreign.unreachable k) Between p)));
  }

  new_line : is_line new ≡ false
  new_line = λ k. not_it op.LINE are_foreign.line k || not_it op.NO_LINE are_foreign.no_line k

  not_below : (s m : ℕ) → s ≡ 10 → m ≤ 10 → not (nat_lt s m) ≡ true
  not_below s m e h = grind (arith, nat_tests)

  -- it breaks no rule behind what stands in front of functions
  new_rules : (k : Layout) → IsEarly k → kept_rules k new ≡ []
  new_rules k early =
      passing k new (record {
        section = not_below (plain_section k.begun new) k.section (ap (λ b. plain_section b new) early.begun ∙ declares) early.section;
        model = ap (λ (b : Bool). not (b && k.has_memory_model)) (not_it op.MEMORY_MODEL are_foreign.model);
        fits =
            (λ x. cond (not_it op.FUNCTION are_foreign.function x) (is_outside k.place)
            (cond (not_it op.FUNCTION_PARAMETER are_foreign.parameter x) (is_head k.place)
            (cond (not_it op.FUNCTION_END are_foreign.end x) (not (is_outside k.place) && not (is_head k.place))
            (cond (not_it op.LABEL are_foreign.label x) (not (is_outside k.place))
            (cond ((ap (λ b. plain_section b new) early.begun ∙ declares) x == 11) (is_inside k.place) true)))));
      })

  new_early : (k : Layout) → IsEarly k → IsEarly (kept_behind k new)
  new_early k early = record {
    begun = ap₂ (λ (a b : Bool). a || b) early.begun (not_it op.FUNCTION are_foreign.function);
    section =
        max_low k.section (plain_section k.begun new) early.section (ten (plain_section k.begun new) (ap (λ b. plain_section b new) early.begun ∙ declares));
    place = ap (λ q. behind q new) early.place ∙ new_plain.place Outside;
  } where
    ten : (n : ℕ) → n ≡ 10 → n ≤ 10
    ten n e = omega (arith, e)

-- ---- what follows

same_less : (k : Layout) → IsLess k k
same_less k = record { begun = refl; section = omega arith; capability = refl; model = refl; entry = refl; place = refl }

function_section : row_section (row_of op.FUNCTION) ≡ 11
unfolding row_of
function_section = refl

over : (m n : ℕ) → n ≡ 11 → m ≤ 10 → not (nat_lt n m) ≡ true
over m n e h = grind (arith, nat_tests)

most : (m n s : ℕ) → s ≡ 11 → m ≤ 10 → n ≤ 10 → max m s ≡ max n s
most m n s e h g = omega (arith, e, h, g)

record LaysSame (k j : Layout) (ws : List (List ℕ)) : Type 0 where
  lays : Lays j ws
  less : IsLess (kept_after k ws) (kept_after j ws)

-- a function that follows breaks no rule, and behind it the same is kept
module _ (k j : Layout) (less : IsLess k j) (early : IsEarly k) (early_too : IsEarly j) (i : Instruction) (f : is_function i ≡ true) where
  opcode_is : opcode i ≡ op.FUNCTION
  opcode_is = eqb-true (opcode i) op.FUNCTION f

  eleven : (b : Bool) → b ≡ false → plain_section b i ≡ 11
  eleven b e = ap (λ b. plain_section b i) e ∙ ap (λ o. row_section (row_of o)) opcode_is ∙ function_section

  function_rules : kept_rules k i ≡ [] → kept_rules j i ≡ []
  function_rules h =
      let p = passes k i h in
      passing j i (record {
        section = over j.section (plain_section j.begun i) (eleven j.begun early_too.begun) early_too.section;
        model = ap (λ (b : Bool). not (is_memory_model i && b)) (sym less.model) ∙ p.model;
        fits =
            ap₂ (λ (b : Bool) (q : Place). fits_place q (plain_section b i) i) (sym less.begun) (sym less.place) ∙ p.fits;
      })

  same_kept : kept_behind j i ≡ kept_behind k i
  same_kept = λ x. record {
    begun = (sym less.begun) x || is_function i;
    section = sections x;
    has_capability = (sym less.capability) x || is_capability i;
    has_memory_model = (sym less.model) x || is_memory_model i;
    has_entry_point = (sym less.entry) x || is_entry_point i;
    place = behind ((sym less.place) x) i;
  }
    where
      sections : max j.section (plain_section j.begun i) ≡ max k.section (plain_section k.begun i)
      sections =
          ap (λ b. max j.section (plain_section b i)) (sym less.begun)
          ∙ most j.section k.section (plain_section k.begun i) (eleven k.begun early.begun) early_too.section early.section

rest_lays : (k j : Layout) → IsLess k j → IsEarly k → IsEarly j → (rest : List Instruction) → starts_function rest ≡ true → Lays k (plain_words rest)
    → LaysSame k j (plain_words rest)
rest_lays k j less early early_too [] s lays = record { lays = tt; less = less }
rest_lays k j less early early_too (i ∷ is) s lays =
    subst (λ (b : Bool). LaysSame k j (words_of (cond (not b) (i ∷ without_lines is) (without_lines is)))) (sym no_mark)
    (by (subst (λ (b : Bool). Lays k (words_of (cond (not b) (i ∷ without_lines is) (without_lines is)))) no_mark lays))
  where
    no_mark : is_line i ≡ false
    no_mark = ap (λ (o : ℕ). o == op.LINE || o == op.NO_LINE) (eqb-true (opcode i) op.FUNCTION s)

    by : Lays k (i.words ∷ plain_words is) → LaysSame k j (i.words ∷ plain_words is)
    by lays =
        let n = inst_of i.words in
        let same = same_kept k j less early early_too n s in
        record {
          lays = (function_rules k j less early early_too n s lays.0, subst (λ q. Lays q (plain_words is)) (sym same) lays.1);
          less = subst (λ q. IsLess (kept_after (kept_behind k n) (plain_words is)) (kept_after q (plain_words is))) (sym same)
              (same_less (kept_after (kept_behind k n) (plain_words is)));
        }

-- ---- the module

-- in front of what follows
module _ (end : ℕ) (new : Instruction) (declares : plain_section false new ≡ section.DECLARATIONS) (front rest : List Instruction)
    (none : list_any is_function front ≡ false) (s : starts_function rest ≡ true) (laid : first (group_2 end (front ++ rest)) ≡ None) where
  whole : LaysWhole (without_lines (front ++ rest))
  whole = lays_whole end (front ++ rest) laid

  parts : Lays nothing_kept (plain_words front) × Lays (kept_after nothing_kept (plain_words front)) (plain_words rest)
  parts = lays_apart nothing_kept (plain_words front) (plain_words rest) (subst (Lays nothing_kept) (plain_both front rest) whole.lays)

  early : IsEarly (kept_after nothing_kept (plain_words front))
  early = early_front nothing_kept front (record { begun = refl; section = omega arith; place = refl }) none parts.0

  follows : LaysSame (kept_after nothing_kept (plain_words front)) (kept_behind (kept_after nothing_kept (plain_words front)) (inst_of new.words))
      (plain_words rest)
  follows =
      let k = kept_after nothing_kept (plain_words front) in
      rest_lays k (kept_behind k (inst_of new.words)) (less_gone k k (inst_of new.words) (same_less k) (new_plain new declares)) early
      (new_early (inst_of new.words) declares k early) rest s parts.1

  lays_added : Lays nothing_kept (plain_words front ++ new.words ∷ plain_words rest)
  lays_added =
      lays_both nothing_kept (plain_words front) (new.words ∷ plain_words rest) parts.0
      (new_rules (inst_of new.words) declares (kept_after nothing_kept (plain_words front)) early, follows.lays)

  less_added : IsLess (kept_after nothing_kept (plain_words (front ++ rest))) (kept_after nothing_kept (plain_words front ++ new.words ∷ plain_words rest))
  less_added =
      subst (λ ws. IsLess (kept_after nothing_kept ws) (kept_after nothing_kept (plain_words front ++ new.words ∷ plain_words rest)))
      (sym (plain_both front rest))
      (subst (λ q. IsLess q (kept_after nothing_kept (plain_words front ++ new.words ∷ plain_words rest)))
      (sym (after_both nothing_kept (plain_words front) (plain_words rest)))
      (subst (λ q. IsLess (kept_after (kept_after nothing_kept (plain_words front)) (plain_words rest)) q)
      (sym (after_both nothing_kept (plain_words front) (new.words ∷ plain_words rest))) follows.less))

  pub lays_out : (insts : List Instruction) → words_of insts ≡ words_of front ++ new.words ∷ words_of rest → first (group_2 end insts) ≡ None
  lays_out insts e =
      let less = less_added in
      let step : plain_words (new ∷ rest) ≡ new.words ∷ plain_words rest =
      ap (λ (b : Bool). words_of (cond (not b) (new ∷ without_lines rest) (without_lines rest))) (new_line new declares) in
      let same : plain_words insts ≡ plain_words front ++ new.words ∷ plain_words rest =
      lines_by_words insts (front ++ new ∷ rest) (e ∙ sym (words_both front (new ∷ rest))) ∙ plain_both front (new ∷ rest)
      ∙ ap (λ ws. plain_words front ++ ws) step in
      lays_by end insts (plain_words front ++ new.words ∷ plain_words rest) same lays_added
      (record {
        capability = sym less.capability ∙ whole.all.capability;
        model = sym less.model ∙ whole.all.model;
        entry = sym less.entry ∙ whole.all.entry;
      })
      (ap is_outside (sym less.place) ∙ whole.out)

pub added_is_laid_out : AddedIsLaidOut
added_is_laid_out end r new front rest before after a laid =
    lays_out end new a.section front rest a.outside a.functions (subst (λ is. first (group_2 end is) ≡ None) a.parts laid) after a.words
