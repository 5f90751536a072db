-- The first of a list of broken rules, where the rules at one place stand in front of those at later places.
use Rattle.std.proofs.Common.{◌≡◌, ℕ, suc, ◌+◌, ◌<◌, ◌≤◌, Bool, true, false, cond, ◌&&◌, ◌||◌, ◌==◌, nat_lt, List, [], ◌∷◌, ◌++◌, map, min, Option, Some, None, refl, sym, ap, subst, ◌∙◌, arith}
use Rattle.std.specs.Option.{option_map, unwrap_or, IfSome}
use Rattle.std.proofs.lemmas.Bool.Decides.{nat_tests}
use Rattle.spv_base.specs.declared.fault.Refusal.{Refusal}
use Rattle.spv_module.specs.First.{here, comes_before, earlier, first, least, at_place}

-- no rule is broken before the place n
abbrev pub Later : ℕ → List Refusal → Type 0
Later n [] = Unit {0}
Later n (b ∷ bs) = (n ≤ b.at) × Later n bs

pub Later-append : (n : ℕ) (bs cs : List Refusal) → Later n bs → Later n cs → Later n (bs ++ cs)
Later-append n [] cs h k = k
Later-append n (b ∷ bs) cs h k = (h.0, Later-append n bs cs h.1 k)

pub Later-here : (n at : ℕ) (rules : List ℕ) → n ≤ at → Later n (here at rules)
Later-here n at [] h = tt
Later-here n at (rule ∷ rules) h = (h, Later-here n at rules h)

pub Later-weaken : (m n : ℕ) (bs : List Refusal) → m ≤ n → Later n bs → Later m bs
Later-weaken m n [] h k = tt
Later-weaken m n (b ∷ bs) h k = (omega (arith, k.0), Later-weaken m n bs h k.1)

-- none of these comes before c
abbrev pub NoneBefore : Refusal → List Refusal → Type 0
NoneBefore c [] = Unit {0}
NoneBefore c (b ∷ bs) = (comes_before b c ≡ false) × NoneBefore c bs

-- none of these comes before one of the rules at the place
abbrev pub NoneBeforeRules : ℕ → List ℕ → List Refusal → Type 0
NoneBeforeRules at [] bs = Unit {0}
NoneBeforeRules at (rule ∷ rules) bs = NoneBefore (record { rule = rule; at = at }) bs × NoneBeforeRules at rules bs

not_before_first : (c b : Refusal) (o : Option Refusal) → comes_before b c ≡ false → IfSome o (λ d. comes_before d c ≡ false) → comes_before (earlier b o) c ≡ false
not_before_first c b None h k = h
not_before_first c b (Some d) h k = one_of (comes_before d b)
  where
    one_of : (t : Bool) → comes_before (cond t d b) c ≡ false
    one_of true = k
    one_of false = h

none_before_first : (c : Refusal) (bs : List Refusal) → NoneBefore c bs → IfSome (first bs) (λ d. comes_before d c ≡ false)
none_before_first c [] h = tt
none_before_first c (b ∷ bs) h = not_before_first c b (first bs) h.0 (none_before_first c bs h.1)

one_before : (c : Refusal) (o : Option Refusal) → IfSome o (λ d. comes_before d c ≡ false) → earlier c o ≡ c
one_before c None h = refl
one_before c (Some d) h = rw h refl

at_same_place : (at rule : ℕ) (rest : Option ℕ) (later : Option Refusal) → IfSome later (λ d. comes_before d (record { rule = rule; at = at }) ≡ false) →
    Some (earlier (record { rule = rule; at = at }) (at_place at rest later)) ≡ at_place at (Some (unwrap_or (option_map (λ other. min rule other) rest) rule)) later
at_same_place at rule None later h = ap Some (one_before (record { rule = rule; at = at }) later h)
at_same_place at rule (Some other) later h = grind (arith, nat_tests)

-- induction on the rules at the place
pub first-here : (at : ℕ) (rules : List ℕ) (bs : List Refusal) → NoneBeforeRules at rules bs → first (here at rules ++ bs) ≡ at_place at (least rules) (first bs)
first-here at [] bs h = refl
first-here at (rule ∷ rules) bs h =
    ap (λ (o : Option Refusal). Some (earlier (record { rule = rule; at = at }) o)) (first-here at rules bs h.1)
    ∙ at_same_place at rule (least rules) (first bs) (none_before_first (record { rule = rule; at = at }) bs h.0)

-- what comes later comes before no rule at the place
pub none_before_later : (at rule : ℕ) (bs : List Refusal) → Later (suc at) bs → NoneBefore (record { rule = rule; at = at }) bs
none_before_later at rule [] h = tt
none_before_later at rule (b ∷ bs) h =
    let not_before : comes_before b (record { rule = rule; at = at }) ≡ false = let later : suc at ≤ b.at = h.0 in grind (arith, nat_tests) in
    (not_before, none_before_later at rule bs h.1)

pub none_before_rules_later : (at : ℕ) (rules : List ℕ) (bs : List Refusal) → Later (suc at) bs → NoneBeforeRules at rules bs
none_before_rules_later at [] bs h = tt
none_before_rules_later at (rule ∷ rules) bs h = (none_before_later at rule bs h, none_before_rules_later at rules bs h)

pub first-here-later : (at : ℕ) (rules : List ℕ) (bs : List Refusal) → Later (suc at) bs → first (here at rules ++ bs) ≡ at_place at (least rules) (first bs)
first-here-later at rules bs h = first-here at rules bs (none_before_rules_later at rules bs h)
