-- The constituents of a composite.
use Rattle.std.proofs.Common.{◌≡◌, ℕ, suc, Bool, true, false, ◌&&◌, List, [], ◌∷◌, length, refl, ap, ◌∙◌, arith}
use Rattle.std.specs.List.{list_all, zip}
use Rattle.spv_module.specs.Instruction.{Instruction}
use Rattle.spv_typing.specs.Kinds.{has_type}
use Rattle.spv_declarations.specs.Constants.{are_of}

-- where there are as many as types, each has the type at its place
pub are_of-zip : (insts : List Instruction) (ts ids : List ℕ) → length ts ≡ length ids → are_of insts ts ids ≡ list_all (λ pair. has_type insts pair.0 pair.1) (zip ts ids)
are_of-zip insts [] [] h = refl
are_of-zip insts [] (id ∷ ids) h = absurd (omega (arith, h))
are_of-zip insts (t ∷ ts) [] h = absurd (omega (arith, h))
are_of-zip insts (t ∷ ts) (id ∷ ids) h = ap (λ b. has_type insts t id && b) (are_of-zip insts ts ids (omega (arith, h)))

and_false : (b : Bool) → (b && false) ≡ false
and_false true = refl
and_false false = refl

pub are_of-count : (insts : List Instruction) (ts ids : List ℕ) → (length ts ≡ length ids → ⊥) → are_of insts ts ids ≡ false
are_of-count insts [] [] h = absurd (h refl)
are_of-count insts [] (id ∷ ids) h = refl
are_of-count insts (t ∷ ts) [] h = refl
are_of-count insts (t ∷ ts) (id ∷ ids) h = ap (λ b. has_type insts t id && b) (are_of-count insts ts ids (λ e. h (ap suc e))) ∙ and_false (has_type insts t id)
