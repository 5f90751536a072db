-- Other cases of the switches round a place, switch by switch from within.
use Rattle.std.proofs.Common.{◌≡◌, ℕ, ◌==◌, ◌||◌, List, [], ◌∷◌, refl, ap}
use Rattle.std.specs.List.{list_any}
use Rattle.spv_blocks.specs.Blocks.{Code, has, seconds}
use Rattle.spv_walk.specs.Contexts.{InSelection, InArm, InBody, InNext, Context, is_fall}
use Rattle.spv_walking.specs.Places.{outer_of, falls_here}

pub fall_outward : (f : Code) (c : Context) (t : ℕ) → is_fall f c t ≡ (falls_here f c t || is_fall f (outer_of c) t)
fall_outward f [] t = refl
fall_outward f (InSelection m ∷ c) t = refl
fall_outward f (InArm h m a ∷ c) t = refl
fall_outward f (InBody h m n ∷ c) t = refl
fall_outward f (InNext h m ∷ c) t = refl

-- induction on the pairs
pub has_seconds : (ps : List (ℕ × ℕ)) (t : ℕ) → list_any (λ (p : ℕ × ℕ). p.1 == t) ps ≡ has (seconds ps) t
has_seconds [] t = refl
has_seconds (p ∷ ps) t = ap (λ z. (p.1 == t) || z) (has_seconds ps t)
