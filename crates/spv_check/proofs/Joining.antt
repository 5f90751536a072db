-- The broken rules of the list and 503, as one.
use Rattle.std.proofs.Common.{◌≡◌, ◌⊎◌, inl, inr, ℕ, zero, suc, ◌+◌, Bool, true, false, cond, ◌==◌, List, [], ◌∷◌, Option, Some, refl, sym, ap, subst, ◌∙◌, arith}
use Rattle.std.specs.List.{Contains, slice_get}
use Rattle.std.proofs.lemmas.List.Elements.{Contains-append_left, Contains-append_right, Contains-append_cases, Contains-push, Contains-push_cases}
use Rattle.spv_base.specs.declared.fault.Refusal.{Refusal}
use Rattle.spv_module.specs.First.{first, here}
use Rattle.spv_module.specs.Instruction.{Instruction}
use Rattle.spv_walk.specs.Found.{Holds, earlier_of}
use Rattle.spv_walk.specs.Rules.{IsFirst}
use Rattle.spv_walk.proofs.Found.{no_element}
use Rattle.spv_walk.proofs.Least.{first_both, first_of_list, first_same}
use Rattle.spv_walk.proofs.Unique.{equal_true, true_equal}
use Rattle.spv_body_rules.specs.Broken.{body_rules, refusals_from, rules_on_bodies}
use Rattle.spv_availability.specs.Places.{function_of}
use Rattle.spv_check.specs.Broken.{Breaks, BrokenInBodies, BrokenInBody, Listed, NotAvailable}
use Rattle.spv_check.specs.Parts.{Every, Missing, Named, Only, rules_of_one}

-- ---- the rules at one place

cons_cases : {A : Type 0} (y : A) (xs : List A) (x : A) → Contains (y ∷ xs) x → (y ≡ x) ⊎ Contains xs x
cons_cases y xs x h = elim (Contains-append_cases (y ∷ []) xs x h) [
  | inl e ↦ elim (Contains-push_cases [] y x e) [ inl g ↦ absurd (no_element x g) | inr g ↦ inl g ]
  | inr e ↦ inr e
]

at_head : {A : Type 0} (y : A) (xs : List A) (x : A) → y ≡ x → Contains (y ∷ xs) x
at_head y xs x e = Contains-append_left (y ∷ []) xs x (subst (λ j. Contains (j ∷ []) x) (sym e) (Contains-push [] x))

here_cases : (at : ℕ) (rules : List ℕ) (r : Refusal) → Contains (here at rules) r → Contains rules r.rule × (at ≡ r.at)
here_cases at [] r h = absurd (no_element r h)
here_cases at (x ∷ xs) r h = elim (cons_cases (record { rule = x; at = at }) (here at xs) r h) [
  | inl e ↦ (at_head x xs r.rule (ap (λ j. j.rule) e), ap (λ j. j.at) e)
  | inr e ↦ let g = here_cases at xs r e in (Contains-append_right (x ∷ []) xs r.rule g.0, g.1)
]

in_here : (at : ℕ) (rules : List ℕ) (rule : ℕ) → Contains rules rule → Contains (here at rules) (record { rule = rule; at = at })
in_here at [] rule h = absurd (no_element rule h)
in_here at (x ∷ xs) rule h = elim (cons_cases x xs rule h) [
  | inl e ↦ at_head (record { rule = x; at = at }) (here at xs) (record { rule = rule; at = at }) (ap (λ j. record { rule = j; at = at }) e)
  | inr e ↦ Contains-append_right (record { rule = x; at = at } ∷ []) (here at xs) (record { rule = rule; at = at }) (in_here at xs rule e)
]

-- ---- the rules of all instructions

module _ (rules : (k : ℕ) → Instruction → List ℕ) where
  -- an instruction, numbered from n on, breaks a rule
  pub record IsListed (n : ℕ) (is : List Instruction) (rule at : ℕ) : Type 0 where
    pub index : ℕ
    pub number : ℕ
    pub i : Instruction
    pub numbered : number ≡ n + index
    pub stands : slice_get is index ≡ Some i
    pub broken : Contains (rules number i) rule
    pub place : i.offset ≡ at

  later_listed : (n : ℕ) (i : Instruction) (is : List Instruction) (rule at : ℕ) → IsListed (n + 1) is rule at → IsListed n (i ∷ is) rule at
  later_listed n i is rule at h =
      let numbered = h.numbered in
      record { index = suc h.index; number = h.number; i = h.i; numbered = omega arith; stands = h.stands; broken = h.broken; place = h.place }

  -- induction on the instructions
  held_is_listed : (n : ℕ) (is : List Instruction) (rule at : ℕ) → Holds (refusals_from rules n is) rule at → IsListed n is rule at
  unfolding refusals_from
  held_is_listed n [] rule at h = absurd (no_element (record { rule = rule; at = at }) h)
  held_is_listed n (i ∷ is) rule at h =
      elim (Contains-append_cases (here i.offset (rules n i)) (refusals_from rules (n + 1) is) (record { rule = rule; at = at }) h) [
        | inl g ↦
            let both = here_cases i.offset (rules n i) (record { rule = rule; at = at }) g in
            record { index = 0; number = n; i = i; numbered = omega arith; stands = refl; broken = both.0; place = both.1 }
        | inr g ↦ later_listed n i is rule at (held_is_listed (n + 1) is rule at g)
      ]

  in_first : (n : ℕ) (i x : Instruction) (is : List Instruction) (rule at : ℕ) → i ≡ x → Contains (rules n x) rule → x.offset ≡ at
      → Holds (refusals_from rules n (i ∷ is)) rule at
  unfolding refusals_from
  in_first n i x is rule at same broken place =
      Contains-append_left (here i.offset (rules n i)) (refusals_from rules (n + 1) is) (record { rule = rule; at = at })
      (subst (λ a. Contains (here i.offset (rules n i)) (record { rule = rule; at = a })) (ap (λ (y : Instruction). y.offset) same ∙ place)
      (in_here i.offset (rules n i) rule (subst (λ (y : Instruction). Contains (rules n y) rule) (sym same) broken)))

  in_later : (n : ℕ) (i : Instruction) (is : List Instruction) (rule at : ℕ) → Holds (refusals_from rules (n + 1) is) rule at
      → Holds (refusals_from rules n (i ∷ is)) rule at
  unfolding refusals_from
  in_later n i is rule at h = Contains-append_right (here i.offset (rules n i)) (refusals_from rules (n + 1) is) (record { rule = rule; at = at }) h

  listed_is_held : (n : ℕ) (is : List Instruction) (rule at index number : ℕ) (x : Instruction) → number ≡ n + index → slice_get is index ≡ Some x
      → Contains (rules number x) rule → x.offset ≡ at → Holds (refusals_from rules n is) rule at
  listed_is_held n [] rule at index number x numbered stands broken place = absurd (cc (stands))
  listed_is_held n (i ∷ is) rule at zero number x numbered stands broken place =
      let same : number ≡ n = omega arith in
      in_first n i x is rule at (cc (stands)) (subst (λ m. Contains (rules m x) rule) same broken) place
  listed_is_held n (i ∷ is) rule at (suc index) number x numbered stands broken place =
      in_later n i is rule at (listed_is_held (n + 1) is rule at index number x (omega arith) stands broken place)

-- ---- those of all functions, and those of one

pub all_named : (insts : List Instruction) (listed : Option Refusal) → listed ≡ first (rules_on_bodies insts) → IsFirst (Named insts Every) listed
all_named insts listed e =
    first_same (Holds (rules_on_bodies insts)) (Named insts Every) listed
    (λ rule at h.
    let l = held_is_listed (body_rules insts) 0 insts rule at h in
    let numbered = l.numbered in
    let same : l.number ≡ l.index = omega arith in
    record { k = l.index; i = l.i; is = l.stands; listed = subst (λ m. Contains (body_rules insts m l.i) rule) same l.broken; among = tt; place = l.place })
    (λ rule at m. listed_is_held (body_rules insts) 0 insts rule at m.k m.k m.i (omega arith) m.is m.listed m.place)
    (subst (λ o. IsFirst (Holds (rules_on_bodies insts)) o) (sym e) (first_of_list (rules_on_bodies insts)))

one_listed : (insts : List Instruction) (number k : ℕ) (i : Instruction) (rule : ℕ) (b : Bool) → (function_of insts k == number) ≡ b
    → Contains (cond b (body_rules insts k i) []) rule → (function_of insts k ≡ number) × Contains (body_rules insts k i) rule
one_listed insts number k i rule true e h = (equal_true (function_of insts k) number e, h)
one_listed insts number k i rule false e h = absurd (no_element rule h)

pub one_named : (insts : List Instruction) (number : ℕ) (listed : Option Refusal) → listed ≡ first (refusals_from (rules_of_one insts number) 0 insts)
    → IsFirst (Named insts (Only number)) listed
one_named insts number listed e =
    let held : List Refusal = refusals_from (rules_of_one insts number) 0 insts in
    first_same (Holds held) (Named insts (Only number)) listed
    (λ rule at h.
    let l = held_is_listed (rules_of_one insts number) 0 insts rule at h in
    let numbered = l.numbered in
    let same : l.number ≡ l.index = omega arith in
    let both =
    one_listed insts number l.index l.i rule (function_of insts l.index == number) refl (subst (λ m. Contains (rules_of_one insts number m l.i) rule) same l.broken) in
    record { k = l.index; i = l.i; is = l.stands; listed = both.1; among = both.0; place = l.place })
    (λ rule at m.
    let there : Contains (rules_of_one insts number m.k m.i) rule =
    subst (λ (b : Bool). Contains (cond b (body_rules insts m.k m.i) []) rule) (sym (true_equal (function_of insts m.k) number m.among)) m.listed in
    listed_is_held (rules_of_one insts number) 0 insts rule at m.k m.k m.i (omega arith) m.is there m.place)
    (subst (λ o. IsFirst (Holds held) o) (sym e) (first_of_list held))

-- ---- with 503

module _ (insts : List Instruction) (Among : ℕ → Type 0) where
  -- a broken rule of one of these functions
  record IsBroken (rule at : ℕ) : Type 0 where
    one : BrokenInBodies insts rule at
    among : Among (function_of insts one.k)

  either_broken : (rule at : ℕ) → (Named insts Among rule at ⊎ Missing insts Among rule at) → IsBroken rule at
  either_broken rule at (inl m) = record { one = record { k = m.k; i = m.i; is = m.is; broken = Listed rule m.listed; place = m.place }; among = m.among }
  either_broken rule at (inr m) = record {
    one = record {
      k = m.k;
      i = m.i;
      is = m.is;
      broken = subst (λ r. Breaks insts m.k m.i r) (sym m.known) (NotAvailable m.lacks.of_functions m.lacks.unavailable);
      place = m.place;
    };
    among = m.among;
  }

  broken_either : (rule at k : ℕ) (i : Instruction) → slice_get insts k ≡ Some i → Breaks insts k i rule → i.offset ≡ at → Among (function_of insts k)
      → Named insts Among rule at ⊎ Missing insts Among rule at
  broken_either rule at k i is (Listed r listed) place among = inl (record { k = k; i = i; is = is; listed = listed; among = among; place = place })
  broken_either rule at k i is (NotAvailable inside unavailable) place among =
      inr (record { k = k; i = i; is = is; lacks = record { of_functions = inside; unavailable = unavailable }; among = among; known = refl; place = place })

  first_joined : (listed missing : Option Refusal) → IsFirst (Named insts Among) listed → IsFirst (Missing insts Among) missing
      → IsFirst IsBroken (earlier_of listed missing)
  first_joined listed missing x y =
      first_same (λ rule at. Named insts Among rule at ⊎ Missing insts Among rule at) IsBroken (earlier_of listed missing)
      either_broken
      (λ rule at h. broken_either rule at h.one.k h.one.i h.one.is h.one.broken h.one.place h.among)
      (first_both (Named insts Among) (Missing insts Among) listed missing x y)

pub first_in_bodies : (insts : List Instruction) (listed missing answer : Option Refusal) → listed ≡ first (rules_on_bodies insts)
    → IsFirst (Missing insts Every) missing
    → answer ≡ earlier_of listed missing → IsFirst (BrokenInBodies insts) answer
first_in_bodies insts listed missing answer e y is =
    subst (IsFirst (BrokenInBodies insts)) (sym is)
    (first_same (IsBroken insts Every) (BrokenInBodies insts) (earlier_of listed missing)
    (λ rule at h. h.one) (λ rule at h. record { one = h; among = tt })
    (first_joined insts Every listed missing (all_named insts listed e) y))

pub first_in_body : (insts : List Instruction) (f : ℕ) (listed missing answer : Option Refusal)
    → listed ≡ first (refusals_from (rules_of_one insts (f + 1)) 0 insts) → IsFirst (Missing insts (Only (f + 1))) missing
    → answer ≡ earlier_of listed missing → IsFirst (BrokenInBody insts f) answer
first_in_body insts f listed missing answer e y is =
    subst (IsFirst (BrokenInBody insts f)) (sym is)
    (first_same (IsBroken insts (Only (f + 1))) (BrokenInBody insts f) (earlier_of listed missing)
    (λ rule at h. record { one = h.one; inside = h.among }) (λ rule at h. record { one = h.one; among = h.inside })
    (first_joined insts (Only (f + 1)) listed missing (one_named insts (f + 1) listed e) y))
