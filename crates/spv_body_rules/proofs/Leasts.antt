-- The least of two lists of rules.
use Rattle.std.proofs.Common.{◌≡◌, ℕ, min, List, [], ◌∷◌, ◌++◌, Option, Some, None, refl, ap, ◌∙◌, arith}
use Rattle.std.proofs.lemmas.Bool.Decides.{nat_tests}
use Rattle.spv_module.specs.First.{least}
use Rattle.spv_body_rules.specs.Least.{lesser}

min_min : (x y z : ℕ) → min x (min y z) ≡ min (min x y) z
min_min x y z = grind (arith, nat_tests)

lesser_on : (x : ℕ) (o p : Option ℕ) → lesser (Some x) (lesser o p) ≡ lesser (lesser (Some x) o) p
lesser_on x None p = refl
lesser_on x (Some y) None = refl
lesser_on x (Some y) (Some z) = ap (λ n. Some n) (min_min x y z)

-- induction on the first list
pub least-both : (xs ys : List ℕ) → least (xs ++ ys) ≡ lesser (least xs) (least ys)
least-both [] ys = refl
least-both (x ∷ xs) ys = ap (lesser (Some x)) (least-both xs ys) ∙ lesser_on x (least xs) (least ys)

-- the least of four lists, by those of each
pub least-of-four : (xs ys zs ws : List ℕ) (a b c d : Option ℕ) → a ≡ least xs → b ≡ least ys → c ≡ least zs → d ≡ least ws →
    lesser a (lesser b (lesser c d)) ≡ least (xs ++ (ys ++ (zs ++ ws)))
least-of-four xs ys zs ws a b c d e f g h = rw (e, f, g, h, least-both xs (ys ++ (zs ++ ws)), least-both ys (zs ++ ws), least-both zs ws) refl
