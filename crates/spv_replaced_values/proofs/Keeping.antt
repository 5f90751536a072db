-- Tests that pass where others do.
use Rattle.std.proofs.Common.{◌≡◌, ℕ, Bool, true, false, cond, ◌&&◌, Option, Some, None, refl, ap, ap₂, sym, ◌∙◌, true≢false}
use Rattle.std.specs.Option.{is_some}
use Rattle.spv_typing.specs.Operations.{leads_to}
use Rattle.spv_alike.proofs.Lookups.{and_left, and_right}

pub keeps_and : (a b x y : Bool) → (a ≡ true → x ≡ true) → (b ≡ true → y ≡ true) → (a && b) ≡ true → (x && y) ≡ true
keeps_and a b x y f g h = ap₂ (λ (p q : Bool). p && q) (f (and_left a b h)) (g (and_right a b h))

-- a test on the same condition
pub keeps_on : (b c x y z w : Bool) → b ≡ c → (c ≡ true → y ≡ true → x ≡ true) → (w ≡ true → z ≡ true) → cond c y w ≡ true → cond b x z ≡ true
keeps_on b true x y z w e p q h = ap (λ (t : Bool). cond t x z) e ∙ p refl h
keeps_on b false x y z w e p q h = ap (λ (t : Bool). cond t x z) e ∙ q h

-- what is found is found there too
abbrev pub Leads : (o p : Option ℕ) → Type 0
Leads o p = (u : ℕ) → o ≡ Some u → p ≡ Some u

pub keeps_some : (o p : Option ℕ) → Leads o p → is_some o ≡ true → is_some p ≡ true
keeps_some None p f h = absurd (true≢false (sym h))
keeps_some (Some u) p f h = ap (λ (o : Option ℕ). is_some o) (f u refl)

pub keeps_leads : (t : ℕ) (o p : Option ℕ) → Leads o p → leads_to t o ≡ true → leads_to t p ≡ true
keeps_leads t None p f h = absurd (true≢false (sym h))
keeps_leads t (Some u) p f h = ap (leads_to t) (f u refl) ∙ h
