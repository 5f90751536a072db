-- The rules on calls, interfaces, bindings and entry points, one instruction at a time and as a list.
use Rattle.std.proofs.Common.{◌≡◌, ◌⊎◌, inl, inr, ℕ, zero, suc, ◌+◌, Bool, true, false, List, [], ◌∷◌, ◌++◌, Some, None, refl, sym, ap, ◌∙◌, subst, arith}
use Rattle.std.specs.List.{Contains, slice_get}
use Rattle.std.proofs.Math.ListN.{get_or-map}
use Rattle.std.proofs.lemmas.List.{length-map}
use Rattle.std.proofs.lemmas.List.Elements.{Contains-append_cases, Contains-append_left, Contains-append_right}
use Rattle.spv_base.specs.declared.fault.Refusal.{Refusal}
use Rattle.spv_module.specs.First.{here, unless}
use Rattle.spv_module.specs.Instruction.{Instruction}
use Rattle.spv_walk.specs.Found.{Holds}
use Rattle.spv_walk.specs.Rules.{IsFirst}
use Rattle.spv_entries.specs.Broken.{entry_rules}
use Rattle.spv_calls.specs.Broken.{AreTests, Decides, Tests, group_6, group_6_from, rules_at}
use Rattle.spv_calls.specs.Calls.{CallsFit}
use Rattle.spv_calls.specs.Interfaces.{InterfaceFits}
use Rattle.spv_calls.proofs.Deciding.{tests_of}
use Rattle.spv_module_rules.specs.Broken.{BrokenInWhole, OfModule}
use Rattle.spv_norm_entries.specs.Laws.{AllEntered, IsEntered}

-- ---- what an instruction breaks is in the list

abbrev refused_at : (at rule : ℕ) → Refusal
refused_at at rule = record { rule = rule; at = at }

at_place : (at : ℕ) (rules : List ℕ) (rule : ℕ) → Contains rules rule → Holds (here at rules) rule at
at_place at rules rule (k, within, is) =
    (k, omega (arith, length-map rules (refused_at at)), get_or-map (refused_at at) rules k rule ∙ ap (refused_at at) is)

-- what the n-th of some instructions breaks is in the list of what they break; induction on the instructions
group_holds : (tests : Tests) (insts : List Instruction) (j n : ℕ) (is : List Instruction) (i : Instruction) (rule : ℕ) → slice_get is n ≡ Some i
    → Contains (rules_at tests insts (j + n) i) rule → Holds (group_6_from tests insts j is) rule i.offset
unfolding group_6_from
group_holds tests insts j n [] i rule at h = absurd (cc (at))
group_holds tests insts j zero (x ∷ xs) i rule at h =
    let same : x ≡ i = cc (at) in
    let place : j + 0 ≡ j = omega arith in
    Contains-append_left (here x.offset (rules_at tests insts j x)) (group_6_from tests insts (j + 1) xs) (record { rule = rule; at = i.offset })
    (subst (λ (y : Instruction). Holds (here y.offset (rules_at tests insts j y)) rule i.offset) (sym same)
    (at_place i.offset (rules_at tests insts j i) rule (subst (λ k. Contains (rules_at tests insts k i) rule) place h)))
group_holds tests insts j (suc n) (x ∷ xs) i rule at h =
    let place : j + suc n ≡ (j + 1) + n = omega arith in
    Contains-append_right (here x.offset (rules_at tests insts j x)) (group_6_from tests insts (j + 1) xs) (record { rule = rule; at = i.offset })
    (group_holds tests insts (j + 1) n xs i rule at (subst (λ k. Contains (rules_at tests insts k i) rule) place h))

pub at_holds : (tests : Tests) (insts : List Instruction) (k : ℕ) (i : Instruction) (rule : ℕ) → slice_get insts k ≡ Some i
    → Contains (rules_at tests insts k i) rule → Holds (group_6 tests insts) rule i.offset
at_holds tests insts k i rule at h =
    let place : k ≡ 0 + k = omega arith in
    group_holds tests insts 0 k insts i rule at (subst (λ n. Contains (rules_at tests insts n i) rule) place h)

pub entry_holds : (tests : Tests) (insts : List Instruction) (k : ℕ) (i : Instruction) (rule : ℕ) → slice_get insts k ≡ Some i
    → Contains (entry_rules insts k i) rule → Holds (group_6 tests insts) rule i.offset
entry_holds tests insts k i rule at h =
    at_holds tests insts k i rule at
    (Contains-append_right (unless (tests.calls k) 601) (unless (tests.interface k) 602 ++ entry_rules insts k i) rule
    (Contains-append_right (unless (tests.interface k) 602) (entry_rules insts k i) rule h))

-- ---- and what is in the list some instruction breaks

pub record Breaker (tests : Tests) (insts : List Instruction) (j : ℕ) (is : List Instruction) (rule at : ℕ) : Type 0 where
  pub n : ℕ
  pub i : Instruction
  pub stands : slice_get is n ≡ Some i
  pub breaks : Contains (rules_at tests insts (j + n) i) rule

of_place : (at place : ℕ) (rules : List ℕ) (rule : ℕ) → Holds (here place rules) rule at → Contains rules rule
of_place at place [] rule (k, within, is) = absurd (omega arith)
of_place at place (r ∷ rules) rule (zero, within, is) = let same : r ≡ rule = ap (λ (x : Refusal). x.rule) is in (0, omega arith, same)
of_place at place (r ∷ rules) rule (suc k, within, is) =
    let (m, low, there) = of_place at place rules rule (k, omega arith, is) in
    (suc m, omega arith, there)

one_later : (tests : Tests) (insts : List Instruction) (j : ℕ) (x : Instruction) (xs : List Instruction) (rule at : ℕ) → Breaker tests insts (j + 1) xs rule at
    → Breaker tests insts j (x ∷ xs) rule at
one_later tests insts j x xs rule at b = record {
  n = suc b.n;
  i = b.i;
  stands = b.stands;
  breaks = let place : (j + 1) + b.n ≡ j + suc b.n = omega arith in subst (λ k. Contains (rules_at tests insts k b.i) rule) place b.breaks;
}

-- induction on the instructions
breaker : (tests : Tests) (insts : List Instruction) (j : ℕ) (is : List Instruction) (rule at : ℕ) → Holds (group_6_from tests insts j is) rule at
    → Breaker tests insts j is rule at
unfolding group_6_from
breaker tests insts j [] rule at (k, within, same) = absurd (omega arith)
breaker tests insts j (x ∷ xs) rule at h =
    elim (Contains-append_cases (here x.offset (rules_at tests insts j x)) (group_6_from tests insts (j + 1) xs) (refused_at at rule) h) [
      | inl front ↦ record {
        n = 0;
        i = x;
        stands = refl;
        breaks = let place : j ≡ j + 0 = omega arith in
            subst (λ k. Contains (rules_at tests insts k x) rule) place (of_place at x.offset (rules_at tests insts j x) rule front);
      }
      | inr back ↦ one_later tests insts j x xs rule at (breaker tests insts (j + 1) xs rule at back)
    ]

-- ---- all instructions

no_rule : (b : Bool) (rule r : ℕ) → b ≡ true → Contains (unless b rule) r → ⊥
no_rule true rule r e (k, within, is) = absurd (omega arith)
no_rule false rule r e h = absurd (cc e)

a_rule : (b : Bool) (rule : ℕ) → b ≡ false → Contains (unless b rule) rule
a_rule true rule e = absurd (cc e)
a_rule false rule e = (0, omega arith, refl)

decided : (b : Bool) (Fits : Type 0) → Decides b Fits → (b ≡ false → ⊥) → Fits
decided true Fits d h = d.yes refl
decided false Fits d h = absurd (h refl)

-- where no rule on the whole module is broken, none of its instructions breaks one
pub each_entered : (insts : List Instruction) → IsFirst (BrokenInWhole insts) None → AllEntered insts
each_entered insts w = entered (tests_of insts)
  where
    entered : (t : (tests : Tests) × AreTests insts tests) → AllEntered insts
    entered (tests, are) = λ k i at.
        let none : (rule : ℕ) → Contains (rules_at tests insts k i) rule → ⊥ = λ rule h. w rule i.offset (OfModule tests rule i.offset are (at_holds tests insts k i rule at h)) in
        record {
          calls = decided (tests.calls k) (CallsFit insts k i) (are.calls k i at) (λ e. none 601
              (Contains-append_left (unless (tests.calls k) 601) (unless (tests.interface k) 602 ++ entry_rules insts k i) 601 (a_rule (tests.calls k) 601 e)));
          interface = decided (tests.interface k) (InterfaceFits insts i) (are.interface k i at) (λ e. none 602
              (Contains-append_right (unless (tests.calls k) 601) (unless (tests.interface k) 602 ++ entry_rules insts k i) 602
              (Contains-append_left (unless (tests.interface k) 602) (entry_rules insts k i) 602 (a_rule (tests.interface k) 602 e))));
          entry = λ rule h. none rule
              (Contains-append_right (unless (tests.calls k) 601) (unless (tests.interface k) 602 ++ entry_rules insts k i) rule
              (Contains-append_right (unless (tests.interface k) 602) (entry_rules insts k i) rule h));
        }

told : (b : Bool) (Fits : Type 0) → Decides b Fits → Fits → b ≡ true
told true Fits d h = refl
told false Fits d h = absurd (d.no refl h)

-- where none of the instructions breaks one, none is in the list
pub none_listed : (insts : List Instruction) (tests : Tests) → AreTests insts tests → AllEntered insts → (rule at : ℕ) → Holds (group_6 tests insts) rule at → ⊥
none_listed insts tests are all rule at h = by (breaker tests insts 0 insts rule at h)
  where
    by : Breaker tests insts 0 insts rule at → ⊥
    by b =
        let k : ℕ = 0 + b.n in
        let same : b.n ≡ k = omega arith in
        let stands : slice_get insts k ≡ Some b.i = subst (λ m. slice_get insts m ≡ Some b.i) same b.stands in
        let entered : IsEntered insts k b.i = all k b.i stands in
        elim (Contains-append_cases (unless (tests.calls k) 601) (unless (tests.interface k) 602 ++ entry_rules insts k b.i) rule b.breaks) [
          | inl calls ↦ no_rule (tests.calls k) 601 rule (told (tests.calls k) (CallsFit insts k b.i) (are.calls k b.i stands) entered.calls) calls
          | inr rest ↦ elim (Contains-append_cases (unless (tests.interface k) 602) (entry_rules insts k b.i) rule rest) [
            | inl listed ↦ no_rule (tests.interface k) 602 rule (told (tests.interface k) (InterfaceFits insts b.i) (are.interface k b.i stands) entered.interface) listed
            | inr entry ↦ entered.entry rule entry
          ]
        ]
