-- One test and not the other.
use Rattle.std.proofs.Common.{◌≡◌, Bool, true, false, ◌&&◌, not, refl, sym}
use Rattle.std.proofs.lemmas.Bool.{false≢true}

pub both_told : (a b : Bool) → a ≡ true → b ≡ false → (a && not b) ≡ true
both_told true false p q = refl
both_told true true p q = absurd (false≢true (sym q))
both_told false b p q = absurd (false≢true p)

pub each_told : (a b : Bool) → (a && not b) ≡ true → (a ≡ true) × (b ≡ false)
each_told true false h = (refl, refl)
each_told true true h = absurd (false≢true h)
each_told false b h = absurd (false≢true h)
