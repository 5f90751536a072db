-- The normal form of a module breaks no rule on the layout: outside functions instructions only go, and functions are listings.
use Rattle.std.proofs.Common.{◌≡◌, ◌⊎◌, inl, inr, ℕ, zero, suc, ◌+◌, ◌<◌, ◌≤◌, max, Bool, true, false, cond, not, nat_eq, ◌&&◌, ◌||◌, ◌==◌, nat_lt, List, [], ◌∷◌, ◌++◌, None, refl, sym, ap, subst, ◌∙◌, arith}
use Rattle.std.specs.List.{AllByRecursion, count_by, filter, flat_map, list_any, range_with_len}
use Rattle.std.proofs.lemmas.Bool.Decides.{nat_tests}
use Rattle.std.proofs.lemmas.List.{map-append}
use Rattle.std.proofs.lemmas.List.Elements.{filter-append}
use Rattle.std.proofs.lemmas.List.Sums.{sum_by-cons}
use Rattle.spv_opcodes.specs.declared.op.TheConstants as op
use Rattle.spv_grammar.specs.Table.{row_of}
use Rattle.spv_module.specs.declared.layout.Layout.{Layout}
use Rattle.spv_module.specs.declared.layout.Place.{Place}
use Rattle.spv_module.specs.declared.layout.Place.TheVariants.{Outside, Head, Between, Inside}
use Rattle.spv_module.specs.Code.{is_function, is_line, plain_section, row_section}
use Rattle.spv_module.specs.First.{first}
use Rattle.spv_module.specs.Instruction.{Instruction, opcode}
use Rattle.spv_module.specs.Layout.{behind, fits_place, group_2, is_capability, is_entry_point, is_memory_model, is_outside, without_lines}
use Rattle.spv_module.specs.LayoutSteps.{kept_behind, nothing_kept}
use Rattle.spv_typing.specs.Kinds.{is_one_of}
use Rattle.spv_tree.specs.Sound.{opcode_in}
use Rattle.spv_tree.specs.Tree.{words_of}
use Rattle.spv_walk.proofs.Unique.{equal_true, truth_apart}
use Rattle.spv_ids.specs.Ids.{used_ids}
use Rattle.spv_norm.specs.Norm.{is_gone, namings, outside, stays_outside, staying}
use Rattle.spv_texts.proofs.Functions.{behind_function}
use Rattle.spv_texts.proofs.Marks.{line_is_no_function}
use Rattle.spv_norm_declared.proofs.Walks.{Walks, Ends, Goes_on, Goes, inst_of}
use Rattle.spv_norm_declared.proofs.Laying.{HasAll, IsPlain, DropsPlain, Lays, LaysLess, LaysWhole, Passes, after_both, either_gives, kept_after, kept_lays, lays_apart, lays_both, lays_whole, less_or, nothing_less, or_false, passes, passing}

-- ---- outside functions

naming_is_plain : (o : ℕ) → is_one_of namings o ≡ true → IsPlain o
naming_is_plain o h =
    either_gives (nat_eq o op.NAME) (nat_eq o op.MEMBER_NAME || (nat_eq o op.SOURCE || false))
    (is op.NAME (record { function = refl; capability = refl; model = refl; entry = refl; place = λ p. refl }))
    (either_gives (nat_eq o op.MEMBER_NAME) (nat_eq o op.SOURCE || false)
    (is op.MEMBER_NAME (record { function = refl; capability = refl; model = refl; entry = refl; place = λ p. refl }))
    (either_gives (nat_eq o op.SOURCE) false (is op.SOURCE
    (record { function = refl; capability = refl; model = refl; entry = refl; place = λ p. refl })) (λ e. absurd (cc e)))) h
  where
    is : (k : ℕ) → IsPlain k → nat_eq o k ≡ true → IsPlain o
    is k p e = subst IsPlain (sym (equal_true o k e)) p

not_gone : (naming gone : Bool) → not (naming && gone) ≡ false → naming ≡ true
not_gone true gone h = refl
not_gone false gone h = absurd (cc h)

-- none of what stays is a line mark

abbrev pub AreBare : List (List ℕ) → Type 0
AreBare ws = AllByRecursion (λ w. is_line (inst_of w) ≡ false) ws

not_both : (line other : Bool) → (not line && other) ≡ true → line ≡ false
not_both true other h = absurd (cc h)
not_both false other h = refl

stays_bare : (insts is : List Instruction) → AreBare (words_of (filter (stays_outside insts) is))
stays_bare insts [] = tt
stays_bare insts (i ∷ is) = by (stays_outside insts i) refl (stays_bare insts is)
  where
    by : (b : Bool) → stays_outside insts i ≡ b → AreBare (words_of (filter (stays_outside insts) is))
        → AreBare (words_of (cond b (i ∷ filter (stays_outside insts) is) (filter (stays_outside insts) is)))
    by true e more = (not_both (is_line i) (not (is_one_of namings (opcode i) && list_any (is_gone insts) (used_ids i))) e, more)
    by false e more = more

-- instructions of such words
pub without_none : (is : List Instruction) → AreBare (words_of is) → without_lines is ≡ is
without_none [] h = refl
without_none (i ∷ is) h =
    ap (λ (b : Bool). cond (not b) (i ∷ without_lines is) (without_lines is)) h.0 ∙ ap (λ z. i ∷ z) (without_none is h.1)

-- some instructions outside functions, and those of them that stay
staying_lays : (insts : List Instruction) (is : List Instruction) → Lays nothing_kept (words_of (without_lines is))
    → LaysLess nothing_kept nothing_kept (words_of (filter (stays_outside insts) is)) (words_of (without_lines is))
staying_lays insts is h =
    subst (λ z. LaysLess nothing_kept nothing_kept (words_of z) (words_of (without_lines is)))
    (without_none (filter (stays_outside insts) is) (stays_bare insts is))
    (kept_lays (stays_outside insts) nothing_kept nothing_kept is (plain is) nothing_less h)
  where
    plain : (is : List Instruction) → DropsPlain (stays_outside insts) is
    plain [] = tt
    plain (i ∷ is) = (
      λ e m.
          naming_is_plain (opcode i)
          (not_gone (is_one_of namings (opcode i)) (list_any (is_gone insts) (used_ids i))
          (sym (ap (λ (b : Bool). not b && not (is_one_of namings (opcode i) && list_any (is_gone insts) (used_ids i))) m) ∙ e)),
      plain is,
    )

-- ---- from the first function on

abbrev pub from_first : List Instruction → List Instruction
from_first [] = []
from_first (i ∷ is) = cond (is_function i) (i ∷ is) (from_first is)

pub parted : (is : List Instruction) → is ≡ outside is ++ from_first is
parted [] = refl
parted (i ∷ is) = by (is_function i) (parted is)
  where
    by : (b : Bool) → is ≡ outside is ++ from_first is → i ∷ is ≡ cond b [] (i ∷ outside is) ++ cond b (i ∷ is) (from_first is)
    by true e = refl
    by false e = ap (λ z. i ∷ z) e

-- nothing, and there is no function; or it begins with one
pub record Begins (insts : List Instruction) : Type 0 where
  pub function : Instruction
  pub rest : List Instruction
  pub same : from_first insts ≡ function ∷ rest
  pub is : is_function function ≡ true

pub record HasNone (insts : List Instruction) : Type 0 where
  pub same : from_first insts ≡ []
  pub count : count_by is_function insts ≡ 0

no_more : (n : ℕ) → 0 + n ≡ n
no_more n = omega arith

begins : (is : List Instruction) → HasNone is ⊎ Begins is
begins [] = inl (record { same = refl; count = refl })
begins (i ∷ is) = by (is_function i) refl (begins is)
  where
    by : (b : Bool) → is_function i ≡ b → HasNone is ⊎ Begins is → HasNone (i ∷ is) ⊎ Begins (i ∷ is)
    by true e more = inr (record { function = i; rest = is; same = ap (λ (b : Bool). cond b (i ∷ is) (from_first is)) e; is = e })
    by false e more =
        let here = ap (λ (b : Bool). cond b (i ∷ is) (from_first is)) e in
        elim more [
          | inl n ↦ inl (record {
            same = here ∙ n.same;
            count =
                sum_by-cons (λ j. cond (is_function j) 1 0) i is ∙ ap (λ (b : Bool). cond b 1 0 + count_by is_function is) e ∙ no_more
                (count_by is_function is) ∙ n.count;
          })
          | inr b ↦ inr (record { function = b.function; rest = b.rest; same = here ∙ b.same; is = b.is })
        ]

-- behind a function each instruction is one of functions
not_below : (x y : ℕ) → not (nat_lt x y) ≡ true → y ≤ x
not_below x y h = grind (arith, nat_tests)

early_section : (k s : ℕ) (o : ℕ) → row_section (row_of k) ≡ s → (k == op.VARIABLE || k == op.UNDEF) ≡ false → s < 11
    → 11 ≤ cond (o == op.VARIABLE || o == op.UNDEF) 11 (row_section (row_of o)) → (o == k) ≡ false
early_section k s o row other low late = by (o == k) refl
  where
    by : (b : Bool) → (o == k) ≡ b → b ≡ false
    by true e =
        let same : cond (o == op.VARIABLE || o == op.UNDEF) 11 (row_section (row_of o)) ≡ s =
        ap (λ q. cond (q == op.VARIABLE || q == op.UNDEF) 11 (row_section (row_of q))) (equal_true o k e)
        ∙ ap (λ (b : Bool). cond b 11 (row_section (row_of k))) other ∙ row in
        absurd (omega (arith, same, late, low))
    by false e = refl

capability_row : row_section (row_of op.CAPABILITY) ≡ 1
unfolding row_of
capability_row = refl

model_row : row_section (row_of op.MEMORY_MODEL) ≡ 3
unfolding row_of
model_row = refl

entry_row : row_section (row_of op.ENTRY_POINT) ≡ 4
unfolding row_of
entry_row = refl

line_row : row_section (row_of op.LINE) ≡ 0
unfolding row_of
line_row = refl

no_line_row : row_section (row_of op.NO_LINE) ≡ 0
unfolding row_of
no_line_row = refl

-- an instruction of functions is none that a module must have, and no line mark
pub record IsLate (o : ℕ) : Type 0 where
  pub capability : (o == op.CAPABILITY) ≡ false
  pub model : (o == op.MEMORY_MODEL) ≡ false
  pub entry : (o == op.ENTRY_POINT) ≡ false
  pub line : (o == op.LINE) ≡ false
  pub no_line : (o == op.NO_LINE) ≡ false

is_late : (o : ℕ) → 11 ≤ cond (o == op.VARIABLE || o == op.UNDEF) 11 (row_section (row_of o)) → IsLate o
is_late o h = record {
  capability = early_section op.CAPABILITY 1 o capability_row refl (omega arith) h;
  model = early_section op.MEMORY_MODEL 3 o model_row refl (omega arith) h;
  entry = early_section op.ENTRY_POINT 4 o entry_row refl (omega arith) h;
  line = early_section op.LINE 0 o line_row refl (omega arith) h;
  no_line = early_section op.NO_LINE 0 o no_line_row refl (omega arith) h;
}

-- the same flags
pub record SameFlags (k j : Layout) : Type 0 where
  pub capability : k.has_capability ≡ j.has_capability
  pub model : k.has_memory_model ≡ j.has_memory_model
  pub entry : k.has_entry_point ≡ j.has_entry_point

late_flags : (kept : Layout) (i : Instruction) → IsLate (opcode i) → SameFlags kept (kept_behind kept i)
late_flags kept i l = record {
  capability = or_false kept.has_capability (is_capability i) l.capability;
  model = or_false kept.has_memory_model (is_memory_model i) l.model;
  entry = or_false kept.has_entry_point (is_entry_point i) l.entry;
}

flags_on : (k j l : Layout) → SameFlags k j → SameFlags j l → SameFlags k l
flags_on k j l a b = record { capability = a.capability ∙ b.capability; model = a.model ∙ b.model; entry = a.entry ∙ b.entry }

late_by : (kept : Layout) (i : Instruction) → kept.begun ≡ true → 11 ≤ kept.section → Passes kept i → 11 ≤ plain_section true i
late_by kept i begun late p =
    let s : kept.section ≤ plain_section true i =
    not_below (plain_section true i) kept.section (ap (λ (b : Bool). not (nat_lt (plain_section b i) kept.section)) (sym begun) ∙ p.section) in
    omega (arith, s, late)

or_true : (a b : Bool) → a ≡ true → (a || b) ≡ true
or_true true b h = refl
or_true false b h = absurd (cc h)

late_same : (kept : Layout) (ws : List (List ℕ)) → kept.begun ≡ true → 11 ≤ kept.section → Lays kept ws → SameFlags kept (kept_after kept ws)
late_same kept [] begun late h = record { capability = refl; model = refl; entry = refl }
late_same kept (w ∷ ws) begun late h =
    let here = late_flags kept (inst_of w) (is_late (opcode (inst_of w)) (late_by kept (inst_of w) begun late (passes kept (inst_of w) h.0))) in
    flags_on kept (kept_behind kept (inst_of w)) (kept_after kept (w ∷ ws)) here
    (late_same (kept_behind kept (inst_of w)) ws (or_true kept.begun (is_function (inst_of w)) begun)
    (less_or 11 kept.section (plain_section kept.begun (inst_of w)) late) h.1)

-- ---- functions that are listed

-- a function's lines
pub record IsFunction (ws : List (List ℕ)) : Type 0 where
  pub function : List ℕ
  pub rest : List (List ℕ)
  pub same : ws ≡ function ∷ rest
  pub begins : opcode_in function ≡ op.FUNCTION
  pub walks : Walks Head rest Outside

-- ready for a function, or for the end
pub record IsReady (kept : Layout) : Type 0 where
  pub section : kept.section ≤ 11
  pub place : kept.place ≡ Outside
  pub all : HasAll kept

has_still : (k j : Layout) → SameFlags k j → HasAll k → HasAll j
has_still k j s h = record { capability = sym s.capability ∙ h.capability; model = sym s.model ∙ h.model; entry = sym s.entry ∙ h.entry }

function_row : row_section (row_of op.FUNCTION) ≡ 11
unfolding row_of
function_row = refl

function_section : (begun : Bool) (o : ℕ) → o ≡ op.FUNCTION → cond (begun && (o == op.VARIABLE || o == op.UNDEF)) 11 (row_section (row_of o)) ≡ 11
function_section begun o e =
    ap (λ q. cond (begun && (q == op.VARIABLE || q == op.UNDEF)) 11 (row_section (row_of q))) e ∙ by begun
  where
    by : (b : Bool) → cond (b && false) 11 (row_section (row_of op.FUNCTION)) ≡ 11
    by true = function_row
    by false = function_row

-- inside a function
pub record IsIn (kept : Layout) (p : Place) : Type 0 where
  pub begun : kept.begun ≡ true
  pub section : kept.section ≤ 11
  pub place : kept.place ≡ p
  pub all : HasAll kept

low_enough : (m n : ℕ) → n ≤ 11 → m ≡ 11 → not (nat_lt m n) ≡ true
low_enough m n h e = grind (arith, nat_tests)

no_model : (a b : Bool) → a ≡ false → not (a && b) ≡ true
no_model true b h = absurd (cc h)
no_model false b h = refl

max_low : (m n : ℕ) → m ≤ 11 → n ≡ 11 → max m n ≤ 11
max_low m n h e = omega arith

in_passes : (kept : Layout) (p q : Place) (w : List ℕ) → IsIn kept p → Goes p w q → Passes kept (inst_of w)
in_passes kept p q w h g = record {
  section =
      ap (λ (b : Bool). not (nat_lt (plain_section b (inst_of w)) kept.section)) h.begun
      ∙ low_enough (plain_section true (inst_of w)) kept.section h.section g.section;
  model = no_model (is_memory_model (inst_of w)) kept.has_memory_model g.plain;
  fits =
      ap (λ (b : Bool). fits_place kept.place (plain_section b (inst_of w)) (inst_of w)) h.begun
      ∙ ap (λ n. fits_place kept.place n (inst_of w)) g.section ∙ ap (λ (r : Place). fits_place r 11 (inst_of w)) h.place ∙ g.fits;
}

eleven : (n : ℕ) → n ≡ 11 → 11 ≤ n
eleven n e = omega arith

in_step : (kept : Layout) (p q : Place) (w : List ℕ) → IsIn kept p → Goes p w q → IsIn (kept_behind kept (inst_of w)) q
in_step kept p q w h g = record {
  begun = or_true kept.begun (is_function (inst_of w)) h.begun;
  section =
      subst (λ b. max kept.section (plain_section b (inst_of w)) ≤ 11) (sym h.begun)
      (max_low kept.section (plain_section true (inst_of w)) h.section g.section);
  place = ap (λ (r : Place). behind r (inst_of w)) h.place ∙ g.next;
  all =
      has_still kept (kept_behind kept (inst_of w))
      (late_flags kept (inst_of w) (is_late (opcode (inst_of w)) (eleven (plain_section true (inst_of w)) g.section))) h.all;
}

pub record LaysIn (kept : Layout) (ws : List (List ℕ)) (q : Place) : Type 0 where
  pub lays : Lays kept ws
  pub after : IsIn (kept_after kept ws) q

walks_lay : (kept : Layout) (p q : Place) (ws : List (List ℕ)) → IsIn kept p → Walks p ws q → LaysIn kept ws q
walks_lay kept p q [] h Ends = record { lays = tt; after = h }
walks_lay kept p q (w ∷ ws) h (Goes_on {m = m} g more) =
    let later = walks_lay (kept_behind kept (inst_of w)) m q ws (in_step kept p m w h g) more in
    record { lays = (passing kept (inst_of w) (in_passes kept p m w h g), later.lays); after = later.after }

or_last : (a b : Bool) → b ≡ true → (a || b) ≡ true
or_last true b h = refl
or_last false b h = h

function_fits : (place : Place) (s : ℕ) (i : Instruction) → is_function i ≡ true → fits_place place s i ≡ is_outside place
function_fits place s i h = grind (arith, nat_tests)

first_passes : (kept : Layout) (w : List ℕ) → IsReady kept → opcode_in w ≡ op.FUNCTION → Passes kept (inst_of w)
first_passes kept w h e = record {
  section = low_enough (plain_section kept.begun (inst_of w)) kept.section h.section (function_section kept.begun (opcode_in w) e);
  model = no_model (is_memory_model (inst_of w)) kept.has_memory_model (ap (λ o. o == op.MEMORY_MODEL) e);
  fits =
      ap (λ (r : Place). fits_place r (plain_section kept.begun (inst_of w)) (inst_of w)) h.place
      ∙ function_fits Outside (plain_section kept.begun (inst_of w)) (inst_of w) (ap (λ o. o == op.FUNCTION) e);
}

first_step : (kept : Layout) (w : List ℕ) → IsReady kept → opcode_in w ≡ op.FUNCTION → IsIn (kept_behind kept (inst_of w)) Head
first_step kept w h e = record {
  begun = or_last kept.begun (is_function (inst_of w)) (ap (λ o. o == op.FUNCTION) e);
  section = max_low kept.section (plain_section kept.begun (inst_of w)) h.section (function_section kept.begun (opcode_in w) e);
  place = behind_function kept.place (inst_of w) (ap (λ o. o == op.FUNCTION) e);
  all = has_still kept (kept_behind kept (inst_of w)) (late_flags kept (inst_of w) (subst IsLate (sym e) late_function)) h.all;
}
  where
    late_function : IsLate op.FUNCTION
    late_function = record { capability = refl; model = refl; entry = refl; line = refl; no_line = refl }

pub record LaysReady (kept : Layout) (ws : List (List ℕ)) : Type 0 where
  pub lays : Lays kept ws
  pub after : IsReady (kept_after kept ws)

function_lays : (kept : Layout) (ws : List (List ℕ)) → IsReady kept → IsFunction ws → LaysReady kept ws
function_lays kept ws h f =
    let later = walks_lay (kept_behind kept (inst_of f.function)) Head Outside f.rest (first_step kept f.function h f.begins) f.walks in
    subst (λ z. LaysReady kept z) (sym f.same) (record {
      lays = (passing kept (inst_of f.function) (first_passes kept f.function h f.begins), later.lays);
      after = record { section = later.after.section; place = later.after.place; all = later.after.all };
    })

ready_both : (kept : Layout) (xs ys : List (List ℕ)) → LaysReady kept xs → LaysReady (kept_after kept xs) ys → LaysReady kept (xs ++ ys)
ready_both kept xs ys h g = record { lays = lays_both kept xs ys h.lays g.lays; after = subst IsReady (sym (after_both kept xs ys)) g.after }

-- by induction on their number
functions_lay : (kept : Layout) (F : ℕ → List (List ℕ)) (a n : ℕ) → IsReady kept → ((j : ℕ) → j < n → IsFunction (F (a + j)))
    → LaysReady kept (flat_map F (range_with_len a n))
functions_lay kept F a zero h each = record { lays = tt; after = h }
functions_lay kept F a (suc n) h each =
    let here = function_lays kept (F a) h (subst (λ k. IsFunction (F k)) (at_once a) (each 0 (omega arith))) in
    ready_both kept (F a) (flat_map F (range_with_len (a + 1) n)) here
    (functions_lay (kept_after kept (F a)) F (a + 1) n here.after (λ j lt. subst (λ k. IsFunction (F k)) (one_later a j) (each (suc j) (omega arith))))
  where
    at_once : (n : ℕ) → n + 0 ≡ n
    at_once n = omega arith

    one_later : (n k : ℕ) → n + suc k ≡ (n + 1) + k
    one_later n k = omega arith

-- ---- the module

is_out : (p : Place) → is_outside p ≡ true → p ≡ Outside
is_out Outside h = refl
is_out Head h = absurd (cc h)
is_out Between h = absurd (cc h)
is_out Inside h = absurd (cc h)

-- what is kept behind the instructions outside functions
pub record IsKept (insts : List Instruction) (kept : Layout) : Type 0 where
  pub place : kept.place ≡ Outside
  pub all : HasAll kept
  pub low : (count_by is_function insts ≡ 0) ⊎ (kept.section ≤ 11)

function_is_no_line : (i : Instruction) → is_function i ≡ true → is_line i ≡ false
function_is_no_line i h = by (is_line i) refl
  where
    by : (b : Bool) → is_line i ≡ b → b ≡ false
    by true e = truth_apart (is_function i) h (line_is_no_function i e)
    by false e = refl

first_outside : (kept : Layout) (i : Instruction) → is_function i ≡ true → Passes kept i → is_outside kept.place ≡ true
first_outside kept i f p = sym (function_fits kept.place (plain_section kept.begun i) i f) ∙ p.fits

-- lines that lay, have what a module has, and end outside functions
pub record LaysFully (ws : List (List ℕ)) : Type 0 where
  pub lays : Lays nothing_kept ws
  pub all : HasAll (kept_after nothing_kept ws)
  pub out : is_outside (kept_after nothing_kept ws).place ≡ true

module _ (end : ℕ) (insts : List Instruction) (laid : first (group_2 end insts) ≡ None) where
  abbrev before : List Instruction
  before = without_lines (outside insts)

  abbrev kept : Layout
  kept = kept_after nothing_kept (words_of before)

  whole : LaysWhole (without_lines insts)
  whole = lays_whole end insts laid

  lines_parted : without_lines insts ≡ before ++ without_lines (from_first insts)
  lines_parted = ap without_lines (parted insts) ∙ filter-append (λ i. not (is_line i)) (outside insts) (from_first insts)

  words_parted : words_of (without_lines insts) ≡ words_of before ++ words_of (without_lines (from_first insts))
  words_parted = ap words_of lines_parted ∙ map-append (λ (i : Instruction). i.words) before (without_lines (from_first insts))

  both : Lays nothing_kept (words_of before) × Lays kept (words_of (without_lines (from_first insts)))
  both = lays_apart nothing_kept (words_of before) (words_of (without_lines (from_first insts))) (subst (Lays nothing_kept) words_parted whole.lays)

  after_is : kept_after nothing_kept (words_of (without_lines insts)) ≡ kept_after kept (words_of (without_lines (from_first insts)))
  after_is = ap (kept_after nothing_kept) words_parted ∙ after_both nothing_kept (words_of before) (words_of (without_lines (from_first insts)))

  is_kept : IsKept insts kept
  is_kept = elim (begins insts) [
    | inl n ↦
        let none : kept_after kept (words_of (without_lines (from_first insts))) ≡ kept = ap (λ z. kept_after kept (words_of (without_lines z))) n.same in
        record {
          place = is_out kept.place (subst (λ k. is_outside k.place ≡ true) (after_is ∙ none) whole.out);
          all = subst HasAll (after_is ∙ none) whole.all;
          low = inl n.count;
        }
    | inr b ↦
        let i = b.function in
        let rest = words_of (without_lines b.rest) in
        let begun : words_of (without_lines (from_first insts)) ≡ i.words ∷ rest =
        ap (λ z. words_of (without_lines z)) b.same
        ∙ ap (λ (t : Bool). words_of (cond (not t) (i ∷ without_lines b.rest) (without_lines b.rest))) (function_is_no_line i b.is) in
        let lays : Lays kept (i.words ∷ rest) = subst (Lays kept) begun both.1 in
        let p = passes kept (inst_of i.words) lays.0 in
        let section = function_section kept.begun (opcode i) (equal_true (opcode i) op.FUNCTION b.is) in
        let next = kept_behind kept (inst_of i.words) in
        let late : 11 ≤ next.section = from_eleven kept.section (plain_section kept.begun (inst_of i.words)) section in
        let later = late_same next rest (or_last kept.begun (is_function (inst_of i.words)) b.is) late lays.1 in
        let first_flags = late_flags kept (inst_of i.words) (subst IsLate (sym (equal_true (opcode i) op.FUNCTION b.is)) late_function) in
        let flags = flags_on kept next (kept_after next rest) first_flags later in
        let all : HasAll (kept_after next rest) = subst HasAll (after_is ∙ ap (kept_after kept) begun) whole.all in
        record {
          place = is_out kept.place (first_outside kept (inst_of i.words) b.is p);
          all = record {
            capability = flags.capability ∙ all.capability;
            model = flags.model ∙ all.model;
            entry = flags.entry ∙ all.entry;
          };
          low =
              inr (at_most kept.section (plain_section kept.begun (inst_of i.words))
              (not_below (plain_section kept.begun (inst_of i.words)) kept.section p.section) section);
        }
  ]
    where
      late_function : IsLate op.FUNCTION
      late_function = record { capability = refl; model = refl; entry = refl; line = refl; no_line = refl }

      from_eleven : (m n : ℕ) → n ≡ 11 → 11 ≤ max m n
      from_eleven m n e = omega arith

      at_most : (m n : ℕ) → m ≤ n → n ≡ 11 → m ≤ 11
      at_most m n h e = omega arith

  stays : LaysLess nothing_kept nothing_kept (words_of (staying insts)) (words_of before)
  stays =
      staying_lays insts (outside insts) both.0

  abbrev stay : List (List ℕ)
  stay = words_of (staying insts)

  abbrev stayed : Layout
  stayed = kept_after nothing_kept stay

  all_stays : HasAll stayed
  all_stays = record {
    capability = stays.less.capability ∙ is_kept.all.capability;
    model = stays.less.model ∙ is_kept.all.model;
    entry = stays.less.entry ∙ is_kept.all.entry;
  }

  -- behind the lines outside functions that stay
  fully : (ws : List (List ℕ)) → Lays stayed ws → HasAll (kept_after stayed ws) → (kept_after stayed ws).place ≡ Outside → LaysFully (stay ++ ws)
  fully ws lays all place = record {
    lays = lays_both nothing_kept stay ws stays.lays lays;
    all = subst HasAll (sym (after_both nothing_kept stay ws)) all;
    out = ap (λ k. is_outside k.place) (after_both nothing_kept stay ws) ∙ ap is_outside place;
  }

  less_low : (m n : ℕ) → m ≤ n → n ≤ 11 → m ≤ 11
  less_low m n h g = omega arith

  -- and with functions
  pub norm_lays : (F : ℕ → List (List ℕ)) → ((j : ℕ) → j < count_by is_function insts → IsFunction (F (0 + j)))
      → LaysFully (stay ++ flat_map F (range_with_len 0 (count_by is_function insts)))
  norm_lays F each = elim is_kept.low [
    | inl none ↦
        subst (λ n. LaysFully (stay ++ flat_map F (range_with_len 0 n))) (sym none) (fully [] tt all_stays (stays.less.place ∙ is_kept.place))
    | inr low ↦
        let ready : IsReady stayed = record {
          section = less_low stayed.section kept.section stays.less.section low;
          place = stays.less.place ∙ is_kept.place;
          all = all_stays;
        } in
        let lays = functions_lay stayed F 0 (count_by is_function insts) ready each in
        fully (flat_map F (range_with_len 0 (count_by is_function insts))) lays.lays lays.after.all lays.after.place
  ]

-- ---- line marks

bare_line : (w : List ℕ) → plain_section true (inst_of w) ≡ 11 → is_line (inst_of w) ≡ false
bare_line w e =
    let l = is_late (opcode_in w) (eleven (plain_section true (inst_of w)) e) in
    ap (λ (b : Bool). b || opcode_in w == op.NO_LINE) l.line ∙ l.no_line

bare_both : (xs ys : List (List ℕ)) → AreBare xs → AreBare ys → AreBare (xs ++ ys)
bare_both [] ys h g = g
bare_both (x ∷ xs) ys h g = (h.0, bare_both xs ys h.1 g)

walks_bare : (p q : Place) (ws : List (List ℕ)) → Walks p ws q → AreBare ws
walks_bare p q [] Ends = tt
walks_bare p q (w ∷ ws) (Goes_on {m = m} g more) = (bare_line w g.section, walks_bare m q ws more)

function_bare : (ws : List (List ℕ)) → IsFunction ws → AreBare ws
function_bare ws f =
    subst AreBare (sym f.same) (ap (λ o. o == op.LINE || o == op.NO_LINE) f.begins, walks_bare Head Outside f.rest f.walks)

functions_bare : (F : ℕ → List (List ℕ)) (a n : ℕ) → ((j : ℕ) → j < n → IsFunction (F (a + j))) → AreBare (flat_map F (range_with_len a n))
functions_bare F a zero each = tt
functions_bare F a (suc n) each =
    bare_both (F a) (flat_map F (range_with_len (a + 1) n)) (function_bare (F a) (subst (λ k. IsFunction (F k)) (at_once a) (each 0 (omega arith))))
    (functions_bare F (a + 1) n (λ j lt. subst (λ k. IsFunction (F k)) (one_later a j) (each (suc j) (omega arith))))
  where
    at_once : (n : ℕ) → n + 0 ≡ n
    at_once n = omega arith

    one_later : (n k : ℕ) → n + suc k ≡ (n + 1) + k
    one_later n k = omega arith

pub norm_bare : (insts : List Instruction) (F : ℕ → List (List ℕ)) → ((j : ℕ) → j < count_by is_function insts → IsFunction (F (0 + j)))
    → AreBare (words_of (staying insts) ++ flat_map F (range_with_len 0 (count_by is_function insts)))
norm_bare insts F each =
    bare_both (words_of (staying insts)) (flat_map F (range_with_len 0 (count_by is_function insts))) (stays_bare insts (outside insts))
    (functions_bare F 0 (count_by is_function insts) each)
