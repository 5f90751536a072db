-- The first of the broken rules of a function, from the first of parts of them.
use Rattle.std.proofs.Common.{◌≡◌, ◌⊎◌, inl, inr, ℕ, ◌<◌, ◌≤◌, Bool, true, false, List, [], ◌∷◌, ◌++◌, Option, Some, None, refl, ap, ◌∙◌, arith}
use Rattle.std.specs.Option.{option_or}
use Rattle.std.proofs.lemmas.Bool.Decides.{nat_tests}
use Rattle.std.proofs.lemmas.List.Elements.{Contains-append_left, Contains-append_right, Contains-append_cases, Contains-push_cases}
use Rattle.spv_base.specs.declared.fault.Refusal.{Refusal}
use Rattle.spv_module.specs.First.{comes_before, earlier, first}
use Rattle.spv_blocks.specs.Blocks.{Code}
use Rattle.spv_walk.specs.Contexts.{Context}
use Rattle.spv_walk.specs.Rules.{Finds, Broken, Found, NeverEntered, IsLeast, IsFirst}
use Rattle.spv_walk.specs.Found.{FoundAt, FaultTables, Missing, Misses, Holds, earlier_of}
use Rattle.spv_walk.proofs.Unique.{tells}
use Rattle.spv_walk.proofs.Found.{finds_at, at_finds, no_element}

-- ---- the order

abbrev Before : Refusal → (rule at : ℕ) → Type 0
Before r rule at = (r.at < at) ⊎ ((r.at ≡ at) × (r.rule ≤ rule))

before_through : (r s : Refusal) (rule at : ℕ) → Before r s.rule s.at → Before s rule at → Before r rule at
before_through r s rule at (inl a) (inl b) = inl (omega arith)
before_through r s rule at (inl a) (inr b) = inl (let p = b.0 in omega arith)
before_through r s rule at (inr a) (inl b) = inl (let p = a.0 in omega arith)
before_through r s rule at (inr a) (inr b) = inr (a.0 ∙ b.0, let p = a.1 in let q = b.1 in omega arith)

test_before : (c b : Refusal) → comes_before c b ≡ true → Before c b.rule b.at
test_before c b h = grind (arith, nat_tests)

test_after : (c b : Refusal) → comes_before c b ≡ false → Before b c.rule c.at
test_after c b h = grind (arith, nat_tests)

-- ---- parts

module _ (B C : (rule at : ℕ) → Type 0) where
  -- the first of two parts, where each has one
  first_two : (b c : Refusal) → IsLeast B b → IsLeast C c → IsLeast (λ rule at. B rule at ⊎ C rule at) (earlier b (Some c))
  first_two b c x y = elim (tells (comes_before c b)) [
    | inl e ↦ rw e (record {
      broken = inr y.broken;
      least = λ rule at h. elim h [ inl g ↦ before_through c b rule at (test_before c b e) (x.least rule at g) | inr g ↦ y.least rule at g ];
    })
    | inr e ↦ rw e (record {
      broken = inl x.broken;
      least = λ rule at h. elim h [ inl g ↦ x.least rule at g | inr g ↦ before_through b c rule at (test_after c b e) (y.least rule at g) ];
    })
  ]

  pub first_both : (b c : Option Refusal) → IsFirst B b → IsFirst C c → IsFirst (λ rule at. B rule at ⊎ C rule at) (earlier_of b c)
  first_both None None x y = λ rule at h. elim h [ inl g ↦ x rule at g | inr g ↦ y rule at g ]
  first_both None (Some c) x y = record { broken = inr y.broken; least = λ rule at h. elim h [ inl g ↦ absurd (x rule at g) | inr g ↦ y.least rule at g ] }
  first_both (Some b) None x y = record { broken = inl x.broken; least = λ rule at h. elim h [ inl g ↦ x.least rule at g | inr g ↦ absurd (y rule at g) ] }
  first_both (Some b) (Some c) x y = first_two b c x y

  -- the same is broken, so the same comes first
  pub first_same : (b : Option Refusal) → ((rule at : ℕ) → B rule at → C rule at) → ((rule at : ℕ) → C rule at → B rule at) → IsFirst B b → IsFirst C b
  first_same None to from x = λ rule at h. x rule at (from rule at h)
  first_same (Some b) to from x = record { broken = to b.rule b.at x.broken; least = λ rule at h. x.least rule at (from rule at h) }

one_only : (b : Refusal) (rule at : ℕ) → Holds (b ∷ []) rule at → Before b rule at
one_only b rule at h = elim (Contains-push_cases [] b (record { rule = rule; at = at }) h) [
  | inl e ↦ absurd (no_element (record { rule = rule; at = at }) e)
  | inr e ↦ let p : b.at ≡ at = ap (λ j. j.at) e in let q : b.rule ≡ rule = ap (λ j. j.rule) e in inr (p, omega arith)
]

pub first_one : (b : Refusal) → IsFirst (Holds (b ∷ [])) (Some b)
first_one b = record { broken = (0, omega arith, refl); least = λ rule at h. one_only b rule at h }

pub first_of_two : (bs cs : List Refusal) → IsFirst (Holds bs) (first bs) → IsFirst (Holds cs) (first cs) → IsFirst (Holds (bs ++ cs)) (earlier_of (first bs) (first cs))
first_of_two bs cs x y =
    first_same (λ rule at. Holds bs rule at ⊎ Holds cs rule at) (Holds (bs ++ cs)) (earlier_of (first bs) (first cs))
    (λ rule at h. elim h [
      | inl g ↦ Contains-append_left bs cs (record { rule = rule; at = at }) g
      | inr g ↦ Contains-append_right bs cs (record { rule = rule; at = at }) g
    ])
    (λ rule at h. Contains-append_cases bs cs (record { rule = rule; at = at }) h)
    (first_both (Holds bs) (Holds cs) (first bs) (first cs) x y)

pub first_of_list : (bs : List Refusal) → IsFirst (Holds bs) (first bs)
first_of_list [] = λ rule at h. no_element (record { rule = rule; at = at }) h
first_of_list (b ∷ bs) = first_of_two (b ∷ []) bs (first_one b) (first_of_list bs)

-- ---- the whole

module _ (is_pointer : ℕ → Bool) (f : Code) (enterer : ℕ → Option ℕ) (ends : ℕ → Bool) (In : ℕ → Context → Type 0) (t : FaultTables f enterer ends In) where
  -- where nothing is found, a missing block is broken
  missing_broken : ((rule at : ℕ) → Finds is_pointer f rule at → ⊥) → (rule at : ℕ) → Missing f In rule at → Broken is_pointer f rule at
  missing_broken n rule at (Misses l b x y) = NeverEntered l b n x (λ c w. let i = t.walk.some l c w in y i.0 i.1)

  first_found : (r : Refusal) → IsLeast (FoundAt is_pointer f enterer ends In) r → (rule at : ℕ) → Broken is_pointer f rule at → Before r rule at
  first_found r x rule at (Found p q g) = x.least rule at (finds_at is_pointer f enterer ends In t rule at g)
  first_found r x rule at (NeverEntered l b n e y) = absurd (n r.rule r.at (at_finds is_pointer f enterer ends In t r.rule r.at x.broken))

  found_missing : IsFirst (FoundAt is_pointer f enterer ends In) None → (rule at : ℕ) → Broken is_pointer f rule at → Missing f In rule at
  found_missing x rule at (Found p q g) = absurd (x rule at (finds_at is_pointer f enterer ends In t rule at g))
  found_missing x rule at (NeverEntered l b n e y) = Misses l b e (λ c i. y c (t.walk.sound l c i))

  pub first_by_tables : (found missing : Option Refusal) → IsFirst (FoundAt is_pointer f enterer ends In) found → IsFirst (Missing f In) missing
      → IsFirst (Broken is_pointer f) (option_or found missing)
  first_by_tables (Some r) m x y = record { broken = Found r.rule r.at (at_finds is_pointer f enterer ends In t r.rule r.at x.broken); least = first_found r x }
  first_by_tables None m x y =
      first_same (Missing f In) (Broken is_pointer f) m (missing_broken (λ rule at g. x rule at (finds_at is_pointer f enterer ends In t rule at g))) (found_missing x) y
