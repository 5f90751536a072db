-- The blocks of the functions of a module, as one list.
use Rattle.std.proofs.Common.{◌≡◌, ℕ, zero, suc, ◌<◌, List, [], ◌∷◌, map, length, Option, Some, inl, inr, refl, sym, ap, ap₂, subst, ◌∙◌, arith}
use Rattle.std.specs.List.{count_by, slice_get}
use Rattle.std.specs.Option.{option_map}
use Rattle.std.proofs.lemmas.List.{length-map}
use Rattle.std.proofs.lemmas.Option.{slice_get-map, slice_get_cases, slice_get_within}
use Rattle.spv_module.specs.Code.{is_function}
use Rattle.spv_module.specs.Instruction.{Instruction}
use Rattle.spv_blocks.specs.Blocks.{Code}
use Rattle.spv_blocks.specs.Cutting.{blocks_of, function_at, function_insts, starts}
use Rattle.spv_blocks.proofs.FoundLaws.{are_counted}
use Rattle.spv_functions.specs.Functions.{AreShapes}
use Rattle.spv_functions.proofs.Declared.{function_is}

-- lists of one length are the same where each element of the one stands in the other; induction on both
same_lists : {X : Type 0} (xs ys : List X) → length xs ≡ length ys → ((k : ℕ) (x : X) → slice_get xs k ≡ Some x → slice_get ys k ≡ Some x) → xs ≡ ys
same_lists [] [] count each = refl
same_lists [] (y ∷ ys) count each = absurd (omega arith)
same_lists (x ∷ xs) [] count each = absurd (omega arith)
same_lists (x ∷ xs) (y ∷ ys) count each =
    let here : Some y ≡ Some x = each zero x refl in
    let first : x ≡ y = cc (here) in
    ap₂ (λ z zs. z ∷ zs) first (same_lists xs ys (omega arith) (λ k z e. each (suc k) z e))

module _ (insts : List Instruction) (shapes : List Code) (are : AreShapes insts shapes) where
  shape_there : (k : ℕ) (g : Code) → slice_get shapes k ≡ Some g → slice_get (map (λ first. blocks_of (function_at first insts)) (starts insts)) k ≡ Some g
  shape_there k g e =
      let count = are.count in
      let within = slice_get_within shapes k g e in
      let all = are_counted insts in
      elim (slice_get_cases (starts insts) k).1 [
        | inl (first, _, at, _) ↦
            slice_get-map (λ n. blocks_of (function_at n insts)) (starts insts) k ∙ ap (option_map (λ n. blocks_of (function_at n insts))) at
            ∙ ap Some (sym (are.each k g e ∙ ap blocks_of (function_is insts k first at)))
        | inr (past, _) ↦ absurd (omega arith)
      ]

  pub shapes_are_functions : shapes ≡ map (λ first. blocks_of (function_at first insts)) (starts insts)
  shapes_are_functions =
      same_lists shapes (map (λ first. blocks_of (function_at first insts)) (starts insts))
      (are.count ∙ sym (length-map (starts insts) (λ first. blocks_of (function_at first insts)) ∙ are_counted insts)) shape_there
