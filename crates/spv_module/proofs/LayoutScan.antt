-- Looking through the instructions for the first broken rule on the layout.
use Rattle.std.proofs.Common.{◌≡◌, ℕ, zero, suc, ◌+◌, ◌<◌, ◌≤◌, Bool, true, false, cond, ◌&&◌, not, List, [], ◌∷◌, ◌++◌, length, take, drop, get_or, Option, Some, None, refl, sym, ap, subst, ◌∙◌, arith, append_assoc, add-one}
use Rattle.std.specs.List.{filter, list_any, slice_get}
use Rattle.std.proofs.lemmas.Option.{get_or_from_slice_get}
use Rattle.std.proofs.lemmas.Bool.Decides.{nat_tests}
use Rattle.spv_module.specs.declared.layout.Place.{Place}
use Rattle.spv_module.specs.declared.layout.Place.TheVariants.{Outside}
use Rattle.std.specs.Option.{option_or}
use Rattle.std.proofs.Math.Seq.{take-suc, drop-cons}
use Rattle.std.proofs.lemmas.List.{append-nil, take_all, drop_all}
use Rattle.std.proofs.lemmas.List.Elements.{filter-append}
use Rattle.spv_base.specs.declared.fault.Refusal.{Refusal}
use Rattle.spv_module.specs.declared.layout.Layout.{Layout}
use Rattle.spv_module.specs.Code.{is_line}
use Rattle.spv_module.specs.First.{here, comes_before, first, least, at_place, unless}
use Rattle.spv_module.specs.Instruction.{Instruction}
use Rattle.spv_module.specs.Layout.{RisesTo, is_capability, is_memory_model, is_entry_point, fits_place, section_behind, without_lines, layout_rules, layout_from, missing_rules, end_rule, place_behind, is_outside, group_2}
use Rattle.spv_module.specs.LayoutSteps.{nothing_kept, kept_rules, kept_behind, kept_missing}
use Rattle.spv_module.proofs.FirstLemmas.{Later, Later-append, Later-here, Later-weaken, NoneBefore, NoneBeforeRules, none_before_later, first-here, first-here-later}
use Rattle.spv_module.proofs.Summary.{Summarizes, summary-nothing, summary-push, kept_rules-summary, kept_missing-summary}

-- the broken rules from an instruction on, with what comes behind all
abbrev from_on : List Refusal → List Instruction → List Instruction → List Refusal
from_on behind before rest = layout_from before rest ++ behind

-- what was found and kept of the instructions before the place k, where `behind` comes behind all
pub record IsScanned (end : ℕ) (insts : List Instruction) (k : ℕ) (kept : Layout) (broken : Option Refusal) : Type 0 where
  pub rises : RisesTo end 5 insts
  pub summary : Summarizes kept (without_lines (take k insts))
  pub found : (behind : List Refusal) → Later end behind →
      first (from_on behind [] (without_lines insts)) ≡ option_or broken (first (from_on behind (without_lines (take k insts)) (without_lines (drop k insts))))

pub scan-begins : (end : ℕ) (insts : List Instruction) → RisesTo end 5 insts → IsScanned end insts 0 nothing_kept None
scan-begins end insts h = record { rises = h; summary = summary-nothing; found = λ behind later. refl }

-- without line marks: a list with one instruction more
without_lines-push : (xs : List Instruction) (i : Instruction) → without_lines (xs ++ i ∷ []) ≡ without_lines xs ++ cond (not (is_line i)) (i ∷ []) []
without_lines-push xs i = filter-append (λ j. not (is_line j)) xs (i ∷ [])

-- what rises to the end comes later than what stands in front; induction on the instructions
cons_later : (t : Bool) (n : ℕ) (i : Instruction) (others before : List Instruction) (behind : List Refusal) → n ≤ i.offset →
    Later (suc i.offset) (from_on behind (before ++ i ∷ []) others) → Later (suc i.offset) (from_on behind before others) → Later n (from_on behind before (cond t (i ∷ others) others))
unfolding layout_from
cons_later true n i others before behind h plain line =
    rw (append_assoc (here i.offset (layout_rules before i)) (layout_from (before ++ i ∷ []) others) behind)
    (Later-append n (here i.offset (layout_rules before i)) (from_on behind (before ++ i ∷ []) others) (Later-here n i.offset (layout_rules before i) h)
    (Later-weaken n (suc i.offset) (from_on behind (before ++ i ∷ []) others) (omega arith) plain))
cons_later false n i others before behind h plain line = Later-weaken n (suc i.offset) (from_on behind before others) (omega arith) line

rises_later : (end n : ℕ) (insts : List Instruction) (before : List Instruction) (behind : List Refusal) → RisesTo end n insts → Later end behind → Later n (from_on behind before (without_lines insts))
unfolding layout_from
rises_later end n [] before behind h later = Later-weaken n end behind h later
rises_later end n (i ∷ insts) before behind h later =
    cons_later (not (is_line i)) n i (without_lines insts) before behind h.0
    (rises_later end (suc i.offset) insts (before ++ i ∷ []) behind h.1 later) (rises_later end (suc i.offset) insts before behind h.1 later)

-- behind some place, places still rise
rises-drop : (end n : ℕ) (insts : List Instruction) (k : ℕ) (d : Instruction) → RisesTo end n insts → k < length insts → RisesTo end (suc (get_or insts k d).offset) (drop (suc k) insts)
rises-drop end n [] k d h fits = absurd (omega arith)
rises-drop end n (i ∷ insts) zero d h fits = h.1
rises-drop end n (i ∷ insts) (suc k) d h fits = rises-drop end (suc i.offset) insts k d h.1 (omega arith)

-- a line mark is looked past
pub scan-line : (end : ℕ) (insts : List Instruction) (k : ℕ) (d : Instruction) (kept : Layout) (broken : Option Refusal) → IsScanned end insts k kept broken → k < length insts → is_line (get_or insts k d) ≡ true →
    IsScanned end insts (k + 1) kept broken
scan-line end insts k d kept broken s fits line =
    let i = get_or insts k d in
    let before = without_lines (take k insts) in
    let after = without_lines (drop (suc k) insts) in
    let takes : without_lines (take (suc k) insts) ≡ before =
    ap without_lines (take-suc insts k d fits) ∙ without_lines-push (take k insts) i ∙ ap (λ (b : Bool). before ++ cond (not b) (i ∷ []) []) line ∙ append-nil before in
    let drops : without_lines (drop k insts) ≡ after = ap without_lines (drop-cons insts k d fits) ∙ ap (λ (b : Bool). cond (not b) (i ∷ after) after) line in
    rw add-one (record {
      rises = s.rises;
      summary = subst (Summarizes kept) (sym takes) s.summary;
      found = λ behind later.
          s.found behind later
          ∙ ap (λ (rest : List Instruction). option_or broken (first (from_on behind before rest))) drops
          ∙ ap (λ (front : List Instruction). option_or broken (first (from_on behind front after))) (sym takes);
    })

-- what was found, and what is found at a place, else what is found later
found_here : (broken : Option Refusal) (at : ℕ) (rule : Option ℕ) (later : Option Refusal) → option_or broken (at_place at rule later) ≡ option_or (option_or broken (at_place at rule None)) later
found_here None at None later = refl
found_here None at (Some rule) later = refl
found_here (Some b) at rule later = refl

first_from_on : (end : ℕ) (i : Instruction) (others before : List Instruction) (rest : List Instruction) (behind : List Refusal) → others ≡ without_lines rest → RisesTo end (suc i.offset) rest → Later end behind →
    first (from_on behind before (i ∷ others)) ≡ at_place i.offset (least (layout_rules before i)) (first (from_on behind (before ++ i ∷ []) others))
unfolding layout_from
first_from_on end i others before rest behind e h later =
    ap first (append_assoc (here i.offset (layout_rules before i)) (layout_from (before ++ i ∷ []) others) behind)
    ∙ first-here-later i.offset (layout_rules before i) (from_on behind (before ++ i ∷ []) others)
    (rw e (rises_later end (suc i.offset) rest (before ++ i ∷ []) behind h later))

-- every other instruction is looked at
pub scan-plain : (end : ℕ) (insts : List Instruction) (k : ℕ) (d : Instruction) (kept : Layout) (broken : Option Refusal) → IsScanned end insts k kept broken → k < length insts → is_line (get_or insts k d) ≡ false →
    IsScanned end insts (k + 1) (kept_behind kept (get_or insts k d)) (option_or broken (at_place (get_or insts k d).offset (least (kept_rules kept (get_or insts k d))) None))
scan-plain end insts k d kept broken s fits plain =
    let i = get_or insts k d in
    let before = without_lines (take k insts) in
    let after = without_lines (drop (suc k) insts) in
    let takes : without_lines (take (suc k) insts) ≡ before ++ i ∷ [] =
    ap without_lines (take-suc insts k d fits) ∙ without_lines-push (take k insts) i ∙ ap (λ (b : Bool). before ++ cond (not b) (i ∷ []) []) plain in
    let drops : without_lines (drop k insts) ≡ i ∷ after = ap without_lines (drop-cons insts k d fits) ∙ ap (λ (b : Bool). cond (not b) (i ∷ after) after) plain in
    rw add-one (record {
      rises = s.rises;
      summary = subst (Summarizes (kept_behind kept i)) (sym takes) (summary-push kept before i s.summary);
      found = λ behind later.
          s.found behind later
          ∙ ap (λ (rest : List Instruction). option_or broken (first (from_on behind before rest))) drops
          ∙ ap (option_or broken) (first_from_on end i after before (drop (suc k) insts) behind refl (rises-drop end 5 insts k d s.rises fits) later)
          ∙ found_here broken i.offset (least (layout_rules before i)) (first (from_on behind (before ++ i ∷ []) after))
          ∙ ap (λ (rules : List ℕ). option_or (option_or broken (at_place i.offset (least rules) None)) (first (from_on behind (before ++ i ∷ []) after))) (sym (kept_rules-summary kept before i s.summary))
          ∙ ap (λ (front : List Instruction). option_or (option_or broken (at_place i.offset (least (kept_rules kept i)) None)) (first (from_on behind front after))) (sym takes);
    })

-- what may stand at the place 5 beside a missing instruction is 205 alone
none_before_first_rules : (rule : ℕ) (o : ℕ) (fits : Bool) → rule ≤ 204 → 5 ≤ o → NoneBefore (record { rule = rule; at = 5 }) (here o (unless fits 205))
none_before_first_rules rule o true h k = tt
none_before_first_rules rule o false h k =
    let not_before : comes_before (record { rule = 205; at = o }) (record { rule = rule; at = 5 }) ≡ false = grind (arith, nat_tests) in
    (not_before, tt)

none_before-append : (c : Refusal) (bs cs : List Refusal) → NoneBefore c bs → NoneBefore c cs → NoneBefore c (bs ++ cs)
none_before-append c [] cs h k = k
none_before-append c (b ∷ bs) cs h k = (h.0, none_before-append c bs cs h.1 k)

and_false : (b : Bool) → (b && false) ≡ false
and_false true = refl
and_false false = refl

layout_rules-first : (i : Instruction) → layout_rules [] i ≡ unless (fits_place Outside (section_behind [] i) i) 205
layout_rules-first i = ap (λ (b : Bool). unless (not b) 203 ++ unless (fits_place Outside (section_behind [] i) i) 205) (and_false (is_memory_model i))

none_before_cons : (t : Bool) (end rule : ℕ) (i : Instruction) (insts : List Instruction) (behind : List Refusal) → rule ≤ 204 → 5 ≤ i.offset → RisesTo end (suc i.offset) insts → Later end behind →
    NoneBefore (record { rule = rule; at = 5 }) (from_on behind [] (without_lines insts)) → NoneBefore (record { rule = rule; at = 5 }) (from_on behind [] (cond t (i ∷ without_lines insts) (without_lines insts)))
unfolding layout_from
none_before_cons true end rule i insts behind h k rises later line =
    let c : Refusal = record { rule = rule; at = 5 } in
    let others = without_lines insts in
    rw (append_assoc (here i.offset (layout_rules [] i)) (layout_from (i ∷ []) others) behind)
    (none_before-append c (here i.offset (layout_rules [] i)) (from_on behind (i ∷ []) others)
    (subst (λ (rules : List ℕ). NoneBefore c (here i.offset rules)) (sym (layout_rules-first i)) (none_before_first_rules rule i.offset (fits_place Outside (section_behind [] i) i) h k))
    (none_before_later 5 rule (from_on behind (i ∷ []) others)
    (Later-weaken 6 (suc i.offset) (from_on behind (i ∷ []) others) (omega arith) (rises_later end (suc i.offset) insts (i ∷ []) behind rises later))))
none_before_cons false end rule i insts behind h k rises later line = line

-- no broken rule comes before a missing instruction; induction on the instructions
none_before_missing : (end n rule : ℕ) (insts : List Instruction) (behind : List Refusal) → rule ≤ 204 → 5 ≤ n → RisesTo end n insts → Later end behind → NoneBefore (record { rule = rule; at = 5 }) behind →
    NoneBefore (record { rule = rule; at = 5 }) (from_on behind [] (without_lines insts))
unfolding layout_from
none_before_missing end n rule [] behind h k rises later last = last
none_before_missing end n rule (i ∷ insts) behind h k rises later last =
    none_before_cons (not (is_line i)) end rule i insts behind h (omega arith) rises.1 later (none_before_missing end (suc i.offset) rule insts behind h (omega arith) rises.1 later last)

rules_one : (fits : Bool) (rule : ℕ) (bs : List Refusal) (others : List ℕ) → NoneBefore (record { rule = rule; at = 5 }) bs → NoneBeforeRules 5 others bs → NoneBeforeRules 5 (unless fits rule ++ others) bs
rules_one true rule bs others h k = k
rules_one false rule bs others h k = (h, k)

first_of_all : (missing : Option ℕ) (broken later : Option Refusal) → at_place 5 missing (option_or broken later) ≡ option_or (option_or (at_place 5 missing None) broken) later
first_of_all None broken later = refl
first_of_all (Some rule) broken later = refl

-- the first broken rule on the layout, from what was found and kept of all instructions
pub scan-ends : (end : ℕ) (insts : List Instruction) (k : ℕ) (kept : Layout) (broken : Option Refusal) → length insts ≤ k → 5 ≤ end → IsScanned end insts k kept broken →
    option_or (option_or (at_place 5 (least (kept_missing kept)) None) broken) (at_place end (least (unless (is_outside kept.place) 205)) None) ≡ first (group_2 end insts)
unfolding layout_from
scan-ends end insts k kept broken past five s =
    let all = without_lines insts in
    let takes : without_lines (take k insts) ≡ all = ap without_lines (take_all k insts past) in
    let drops : without_lines (drop k insts) ≡ [] = ap without_lines (drop_all k insts past) in
    let summary : Summarizes kept all = subst (Summarizes kept) takes s.summary in
    let behind = here end (end_rule all) in
    let later = Later-here end end (end_rule all) (omega arith) in
    let last : first behind ≡ at_place end (least (end_rule all)) None = ap first (sym (append-nil behind)) ∙ first-here-later end (end_rule all) [] tt in
    let found : first (from_on behind [] all) ≡ option_or broken (at_place end (least (end_rule all)) None) =
    s.found behind later
    ∙ ap (λ (rest : List Instruction). option_or broken (first (from_on behind (without_lines (take k insts)) rest))) drops
    ∙ ap (option_or broken) last in
    let c_last = λ (rule : ℕ) (h : rule ≤ 204). none_before_first_rules rule end (is_outside (place_behind all)) h five in
    let none = λ (rule : ℕ) (h : rule ≤ 204). none_before_missing end 5 rule insts behind h (omega arith) s.rises later (c_last rule h) in
    let bs = from_on behind [] all in
    let missing_first : NoneBeforeRules 5 (missing_rules all) bs =
    rules_one (list_any is_capability all) 202 bs _ (none 202 (omega arith))
    (rules_one (list_any is_memory_model all) 203 bs _ (none 203 (omega arith))
    (subst (λ (rules : List ℕ). NoneBeforeRules 5 rules bs) (append-nil (unless (list_any is_entry_point all) 204)) (rules_one (list_any is_entry_point all) 204 bs [] (none 204 (omega arith)) tt))) in
    sym (first-here 5 (missing_rules all) bs missing_first
    ∙ ap (at_place 5 (least (missing_rules all))) found
    ∙ first_of_all (least (missing_rules all)) broken (at_place end (least (end_rule all)) None)
    ∙ ap (λ (rules : List ℕ). option_or (option_or (at_place 5 (least rules) None) broken) (at_place end (least (end_rule all)) None)) (sym (kept_missing-summary kept all summary))
    ∙ ap (λ (place : Place). option_or (option_or (at_place 5 (least (kept_missing kept)) None) broken) (at_place end (least (unless (is_outside place) 205)) None)) (sym summary.place))

-- the same at an instruction that a list lends
pub scan-line-at : (end : ℕ) (insts : List Instruction) (k : ℕ) (i : Instruction) (kept : Layout) (broken : Option Refusal) → IsScanned end insts k kept broken → k < length insts → slice_get insts k ≡ Some i → is_line i ≡ true →
    IsScanned end insts (k + 1) kept broken
scan-line-at end insts k i kept broken s fits e line = scan-line end insts k i kept broken s fits (ap is_line (get_or_from_slice_get insts k i i e) ∙ line)

pub scan-plain-at : (end : ℕ) (insts : List Instruction) (k : ℕ) (i : Instruction) (kept : Layout) (broken : Option Refusal) → IsScanned end insts k kept broken → k < length insts → slice_get insts k ≡ Some i → is_line i ≡ false →
    IsScanned end insts (k + 1) (kept_behind kept i) (option_or broken (at_place i.offset (least (kept_rules kept i)) None))
scan-plain-at end insts k i kept broken s fits e plain =
    let same = get_or_from_slice_get insts k i i e in
    subst (λ (j : Instruction). IsScanned end insts (k + 1) (kept_behind kept j) (option_or broken (at_place j.offset (least (kept_rules kept j)) None))) same
    (scan-plain end insts k i kept broken s fits (ap is_line same ∙ plain))
