-- A draft of a module that nothing was done to is the module.
use Rattle.std.proofs.Common.{◌≡◌, ℕ, ◌+◌, ◌<◌, ◌^◌, max, List, [], ◌∷◌, refl, sym, ap, ◌∙◌, arith}
use Rattle.spv_base.specs.declared.header.Header.{Header}
use Rattle.spv_module.specs.Code.{Code, code_of, spelling}
use Rattle.spv_module.specs.Instruction.{Instruction}
use Rattle.spv_module.proofs.Decoding.{bound_fits}
use Rattle.spv_bound.specs.Bound as own
use Rattle.spv_draft.specs.Drafted.{Drafted, finished}
use Rattle.spv_draft.specs.Named as named
use Rattle.spv_profile.specs.Profile.{IsModule}
use Rattle.spv_ir.specs.Module.{IsSealable}

same_greatest : (xs : List ℕ) → named.greatest xs ≡ own.greatest xs
same_greatest [] = refl
same_greatest (x ∷ xs) = ap (max x) (same_greatest xs)

same_bound : (insts : List Instruction) → named.bound_of_ids insts ≡ own.bound_of_ids insts
unfolding named.bound_of_ids own.bound_of_ids
same_bound insts = ap (λ (n : ℕ). n + 1) (same_greatest (named.named_ids insts))

pub unchanged : (code : Code) (draft : Drafted) → IsModule code → draft ≡ (record { header = code.header; insts = code.insts; given = [] }) → finished draft ≡ code
unchanged code draft h e =
    ap finished e
    ∙ ap (λ (b : ℕ). let c : Code = record { header = record code.header { bound = b }; insts = code.insts } in c) (same_bound code.insts)
    ∙ ap (λ (header : Header). let c : Code = record { header = header; insts = code.insts } in c) (sym h.normal.header)

-- the bound of a draft that is a module is a word
pub small_bound : (draft : Drafted) → IsSealable (finished draft) → named.bound_of_ids draft.insts < 2 ^ 32
small_bound draft h =
    let fits = bound_fits (spelling (code_of (spelling (finished draft)))) h.profile.structured.front.front.decoded in
    omega (arith, fits.1)
