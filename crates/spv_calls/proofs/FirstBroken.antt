-- The first broken rule, from what the instructions up to a place break.
use Rattle.std.proofs.Common.{◌≡◌, ℕ, suc, ◌+◌, ◌<◌, ◌≤◌, Bool, true, false, cond, List, [], ◌∷◌, ◌++◌, length, take, drop, min, Option, Some, None, refl, sym, ap, subst, ◌∙◌, add-one, arith}
use Rattle.std.proofs.Math.ListN.{drop_of_length-le}
use Rattle.std.proofs.Math.Seq.{drop-cons}
use Rattle.std.specs.List.{slice_get}
use Rattle.std.specs.Option.{option_map, unwrap_or, IfSome}
use Rattle.std.proofs.lemmas.Bool.{false≢true}
use Rattle.std.proofs.lemmas.Option.{get_or_from_slice_get, slice_get_within}
use Rattle.spv_base.specs.declared.fault.Refusal.{Refusal}
use Rattle.spv_module.specs.First.{here, first, least, at_place, unless}
use Rattle.spv_module.specs.Instruction.{Instruction}
use Rattle.spv_module.specs.Layout.{RisesTo}
use Rattle.spv_module.proofs.FirstLemmas.{Later, Later-append, Later-here, Later-weaken, first-here-later}
use Rattle.spv_entries.specs.Bindings.{binding_fits}
use Rattle.spv_entries.specs.Names.{name_fits}
use Rattle.spv_entries.specs.Sizes.{size_fits}
use Rattle.spv_entries.specs.Functions.{function_fits}
use Rattle.spv_entries.specs.Broken.{entry_rules}
use Rattle.spv_calls.specs.Broken.{Decides, Tests, AreTests, Rises, rules_by, rules_at, group_6_from, group_6}
use Rattle.spv_calls.specs.Calls.{CallsFit}
use Rattle.spv_calls.specs.Interfaces.{InterfaceFits}

-- ---- the rule of one instruction

-- two answers that decide one statement
pub same-answer : (a b : Bool) (P : Type 0) → Decides a P → Decides b P → a ≡ b
same-answer true true P d e = refl
same-answer false false P d e = refl
same-answer true false P d e = absurd (e.no refl (d.yes refl))
same-answer false true P d e = absurd (d.no refl (e.yes refl))

-- no rule of a list is below one
abbrev NoneBelow : ℕ → List ℕ → Type 0
NoneBelow rule rules = IfSome (least rules) (λ other. rule ≤ other)

lowest : (rule : ℕ) (o : Option ℕ) → IfSome o (λ other. rule ≤ other) → unwrap_or (option_map (λ other. min rule other) o) rule ≡ rule
lowest rule None h = refl
lowest rule (Some other) h = omega arith

least-lowest : (rule : ℕ) (rules : List ℕ) → NoneBelow rule rules → Some rule ≡ least (rule ∷ rules)
least-lowest rule rules h = ap Some (sym (lowest rule (least rules) h))

below_min : (rule other : ℕ) (o : Option ℕ) → rule ≤ other → IfSome o (λ n. rule ≤ n) → rule ≤ unwrap_or (option_map (λ n. min other n) o) other
below_min rule other None h k = h
below_min rule other (Some n) h k = omega arith

none_below : (rule other : ℕ) (b : Bool) (rules : List ℕ) → rule ≤ other → NoneBelow rule rules → NoneBelow rule (unless b other ++ rules)
none_below rule other true rules h k = k
none_below rule other false rules h k = below_min rule other (least rules) h k

none_below_last : (rule other : ℕ) (b : Bool) → rule ≤ other → NoneBelow rule (unless b other)
none_below_last rule other true h = tt
none_below_last rule other false h = h

entry_below : (rule : ℕ) (insts : List Instruction) (k : ℕ) (i : Instruction) → rule ≤ 603 → NoneBelow rule (entry_rules insts k i)
entry_below rule insts k i h =
    none_below rule 603 (binding_fits insts (take k insts) i) (unless (name_fits (take k insts) i) 604 ++ (unless (size_fits insts i) 605 ++ unless (function_fits insts i) 606)) h
    (none_below rule 604 (name_fits (take k insts) i) (unless (size_fits insts i) 605 ++ unless (function_fits insts i) 606) (omega arith)
    (none_below rule 605 (size_fits insts i) (unless (function_fits insts i) 606) (omega arith) (none_below_last rule 606 (function_fits insts i) (omega arith))))

-- what is told of an instruction decides which rule it breaks first
told : (insts : List Instruction) (k : ℕ) (i : Instruction) (tests : Tests) (calls interface : Bool) → tests.calls k ≡ calls → tests.interface k ≡ interface → rules_at tests insts k i ≡ rules_by calls interface insts k i
told insts k i tests calls interface e f = rw (e, f) refl

pub rule-calls : (insts : List Instruction) (k : ℕ) (i : Instruction) → slice_get insts k ≡ Some i → Decides false (CallsFit insts k i) → (tests : Tests) → AreTests insts tests → Some 601 ≡ least (rules_at tests insts k i)
rule-calls insts k i at d tests t =
    least-lowest 601 (unless (tests.interface k) 602 ++ entry_rules insts k i) (none_below 601 602 (tests.interface k) (entry_rules insts k i) (omega arith) (entry_below 601 insts k i (omega arith)))
    ∙ ap least (sym (told insts k i tests false (tests.interface k) (same-answer (tests.calls k) false (CallsFit insts k i) (t.calls k i at) d) refl))

pub rule-interface : (insts : List Instruction) (k : ℕ) (i : Instruction) → slice_get insts k ≡ Some i → Decides true (CallsFit insts k i) → Decides false (InterfaceFits insts i) → (tests : Tests) → AreTests insts tests → Some 602 ≡ least (rules_at tests insts k i)
rule-interface insts k i at d e tests t =
    least-lowest 602 (entry_rules insts k i) (entry_below 602 insts k i (omega arith))
    ∙ ap least
    (sym (told insts k i tests true false (same-answer (tests.calls k) true (CallsFit insts k i) (t.calls k i at) d) (same-answer (tests.interface k) false (InterfaceFits insts i) (t.interface k i at) e)))

pub rule-entry : (insts : List Instruction) (k : ℕ) (i : Instruction) (rule : Option ℕ) → slice_get insts k ≡ Some i → Decides true (CallsFit insts k i) → Decides true (InterfaceFits insts i) → rule ≡ least (entry_rules insts k i) → (tests : Tests) → AreTests insts tests → rule ≡ least (rules_at tests insts k i)
rule-entry insts k i rule at d e is tests t =
    is
    ∙ ap least
    (sym (told insts k i tests true true (same-answer (tests.calls k) true (CallsFit insts k i) (t.calls k i at) d) (same-answer (tests.interface k) true (InterfaceFits insts i) (t.interface k i at) e)))

-- ---- the first of all

group_later : (end : ℕ) (tests : Tests) (insts : List Instruction) (k n : ℕ) (is : List Instruction) → RisesTo end n is → Later n (group_6_from tests insts k is)
unfolding group_6_from
group_later end tests insts k n [] h = tt
group_later end tests insts k n (i ∷ is) h =
    Later-append n (here i.offset (rules_at tests insts k i)) (group_6_from tests insts (k + 1) is) (Later-here n i.offset (rules_at tests insts k i) h.0)
    (Later-weaken n (suc i.offset) (group_6_from tests insts (k + 1) is) (let lower : n ≤ i.offset = h.0 in omega (arith, lower)) (group_later end tests insts (k + 1) (suc i.offset) is h.1))

first_of : (end : ℕ) (tests : Tests) (insts : List Instruction) (k n : ℕ) (i : Instruction) (is : List Instruction) → RisesTo end n (i ∷ is) →
    first (group_6_from tests insts k (i ∷ is)) ≡ at_place i.offset (least (rules_at tests insts k i)) (first (group_6_from tests insts (k + 1) is))
unfolding group_6_from
first_of end tests insts k n i is h = first-here-later i.offset (rules_at tests insts k i) (group_6_from tests insts (k + 1) is) (group_later end tests insts (k + 1) (suc i.offset) is h.1)

first_none : (tests : Tests) (insts : List Instruction) (k : ℕ) → first (group_6_from tests insts k []) ≡ None
unfolding group_6_from
first_none tests insts k = refl

-- the first k instructions break no rule
pub record IsClear (insts : List Instruction) (k : ℕ) : Type 0 where
  pub end : ℕ
  pub from : ℕ
  pub rises : RisesTo end from (drop k insts)
  pub rest : (tests : Tests) → AreTests insts tests → first (group_6 tests insts) ≡ first (group_6_from tests insts k (drop k insts))

pub clear-begins : (insts : List Instruction) → Rises insts → IsClear insts 0
clear-begins insts rises = record { end = rises.0; from = 5; rises = rises.1; rest = λ tests t. refl }

drop_at : (insts : List Instruction) (k : ℕ) (i : Instruction) → slice_get insts k ≡ Some i → drop k insts ≡ i ∷ drop (k + 1) insts
drop_at insts k i at = rw add-one (drop-cons insts k i (slice_get_within insts k i at) ∙ ap (λ (x : Instruction). x ∷ drop (suc k) insts) (get_or_from_slice_get insts k i i at))

pub clear-stops : (insts : List Instruction) (k rule : ℕ) (i : Instruction) → IsClear insts k → slice_get insts k ≡ Some i → ((tests : Tests) → AreTests insts tests → Some rule ≡ least (rules_at tests insts k i)) →
    (tests : Tests) → AreTests insts tests → Some (record { rule = rule; at = i.offset }) ≡ first (group_6 tests insts)
clear-stops insts k rule i c at broken tests t =
    ap (λ (o : Option ℕ). at_place i.offset o (first (group_6_from tests insts (k + 1) (drop (k + 1) insts)))) (broken tests t)
    ∙ sym (first_of c.end tests insts k c.from i (drop (k + 1) insts) (subst (RisesTo c.end c.from) (drop_at insts k i at) c.rises))
    ∙ ap (λ (is : List Instruction). first (group_6_from tests insts k is)) (sym (drop_at insts k i at))
    ∙ sym (c.rest tests t)

pub clear-more : (insts : List Instruction) (k : ℕ) (i : Instruction) → IsClear insts k → slice_get insts k ≡ Some i → ((tests : Tests) → AreTests insts tests → None ≡ least (rules_at tests insts k i)) → IsClear insts (k + 1)
clear-more insts k i c at none =
    let rises : RisesTo c.end c.from (i ∷ drop (k + 1) insts) = subst (RisesTo c.end c.from) (drop_at insts k i at) c.rises in
    record {
      end = c.end;
      from = suc i.offset;
      rises = rises.1;
      rest = λ tests t.
          c.rest tests t
          ∙ ap (λ (is : List Instruction). first (group_6_from tests insts k is)) (drop_at insts k i at)
          ∙ first_of c.end tests insts k c.from i (drop (k + 1) insts) rises
          ∙ ap (λ (o : Option ℕ). at_place i.offset o (first (group_6_from tests insts (k + 1) (drop (k + 1) insts)))) (sym (none tests t));
    }

pub clear-ends : (insts : List Instruction) (k : ℕ) → IsClear insts k → length insts ≤ k → (tests : Tests) → AreTests insts tests → None ≡ first (group_6 tests insts)
clear-ends insts k c past tests t =
    sym (c.rest tests t ∙ ap (λ (is : List Instruction). first (group_6_from tests insts k is)) (drop_of_length-le insts past) ∙ first_none tests insts k)
