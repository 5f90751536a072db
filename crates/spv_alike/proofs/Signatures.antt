-- Rules on functions, calls and returns are broken alike.
use Rattle.std.proofs.Common.{◌≡◌, ℕ, Bool, true, false, ◌==◌, ◌&&◌, ◌||◌, not, List, [], ◌∷◌, length, drop, Option, refl, ap, ap₂, ◌∙◌}
use Rattle.std.proofs.Math.Path.{fun_ext}
use Rattle.std.specs.List.{list_all, zip, slice_index}
use Rattle.spv_opcodes.specs.declared.op.TheConstants as op
use Rattle.spv_opcodes.specs.declared.decoration.TheConstants as decoration
use Rattle.spv_module.specs.Instruction.{Instruction, opcode}
use Rattle.spv_typing.specs.Kinds.{type_of}
use Rattle.spv_signatures.specs.declared.parameters.Parameter.{Parameter}
use Rattle.spv_signatures.specs.Functions.{parameters_of, names_function, function_fits}
use Rattle.spv_signatures.specs.Calls.{is_volatile, are_same, pointer_fits, argument_fits, arguments_fit, call_fits}
use Rattle.spv_signatures.specs.Contexts.{result_fits, return_fits}
use Rattle.spv_alike.specs.Alike.{AreAlike}
use Rattle.spv_alike.proofs.Lookups.{by_both, same_test, same_one_of, same_word, firm_test, same_void, same_pointer, same_value_of, same_has_decoration}
use Rattle.spv_alike.proofs.Guarded.{branch}
use Rattle.spv_alike.proofs.Seconds.{same_second}

or_on : (b c x y : Bool) → b ≡ c → (c ≡ true → x ≡ y) → (not b || x) ≡ (not c || y)
or_on b true x y e p = ap (λ (t : Bool). not t || x) e ∙ p refl
or_on b false x y e p = ap (λ (t : Bool). not t || x) e

module _ (before after : List Instruction) (alike : AreAlike before after) where
  same_names_function : (f : ℕ) → names_function after f ≡ names_function before f
  same_names_function = same_test before after alike op.FUNCTION refl

  pub same_function : (i : Instruction) → function_fits after i ≡ function_fits before i
  unfolding function_fits
  same_function i =
      ap (λ (b : Bool). not (opcode i == op.FUNCTION) || b)
      (by_both before after alike (λ (n : ℕ) k w ws. k == op.TYPE_FUNCTION && length (ws 3) == n) false
      (length (parameters_of after (slice_index i.words 2))) (length (parameters_of before (slice_index i.words 2)))
      (ap (λ (ps : List Parameter). length ps) (alike.parameters (slice_index i.words 2))) (λ w ws. (refl, refl, refl, refl)) (slice_index i.words 4))

  -- a function's result type is that of its type, and that of a call the callee's
  same_callee : (f t : ℕ) → (not (names_function after f) || type_of after f == t) ≡ (not (names_function before f) || type_of before f == t)
  same_callee f t =
      or_on (names_function after f) (names_function before f) (type_of after f == t) (type_of before f == t) (same_names_function f)
      (λ h. ap (λ (w : ℕ → ℕ). w 1 == t) (same_word before after alike f (firm_test before after alike op.FUNCTION refl f h)))

  pub same_result : (next_type : Option ℕ) (i : Instruction) → result_fits after next_type i ≡ result_fits before next_type i
  unfolding result_fits
  same_result next_type i =
      branch (opcode i == op.FUNCTION) _ _ _ _
      (ap (λ (t : ℕ). t == slice_index i.words 1) (same_second before after alike (slice_index i.words 4)))
      (branch (opcode i == op.FUNCTION_PARAMETER) _ _ _ _ refl
      (branch (opcode i == op.FUNCTION_CALL) _ _ _ _ (same_callee (slice_index i.words 3) (slice_index i.words 1))
      refl))

  same_volatile : (id : ℕ) → is_volatile after id ≡ is_volatile before id
  same_volatile id = same_has_decoration before after alike id decoration.VOLATILE

  same_pointer_fits : (p a : ℕ) → pointer_fits after p a ≡ pointer_fits before p a
  same_pointer_fits p a =
      ap₂ (λ (x y : Bool). x && y) (same_one_of before after alike (op.VARIABLE ∷ op.FUNCTION_PARAMETER ∷ []) refl a)
      (ap₂ are_same (same_volatile p) (same_volatile a))

  same_argument : (p : Parameter) (a : ℕ) → argument_fits after p a ≡ argument_fits before p a
  unfolding argument_fits
  same_argument p a =
      ap₂ (λ (x y : Bool). x && y) (same_value_of before after alike p.ty a)
      (ap₂ (λ (x y : Bool). not x || y) (same_pointer before after alike p.ty) (same_pointer_fits p.id a))

  same_arguments : (f : ℕ) (arguments : List ℕ) → arguments_fit after (parameters_of after f) arguments ≡ arguments_fit before (parameters_of before f) arguments
  same_arguments f arguments =
      ap₂ (λ (ps : List Parameter) (fit : Parameter → ℕ → Bool). length ps == length arguments && list_all (λ pair. fit pair.0 pair.1) (zip ps arguments))
      (alike.parameters f) (fun_ext (λ p. fun_ext (same_argument p)))

  pub same_call : (i : Instruction) → call_fits after i ≡ call_fits before i
  unfolding call_fits
  same_call i =
      ap₂ (λ (x y : Bool). not (opcode i == op.FUNCTION_CALL) || (x && y)) (same_names_function (slice_index i.words 3))
      (same_arguments (slice_index i.words 3) (drop 4 i.words))

  pub same_returns : (t : ℕ) (i : Instruction) → return_fits after t i ≡ return_fits before t i
  unfolding return_fits
  same_returns t i =
      branch (opcode i == op.RETURN) _ _ _ _ (same_void before after alike t)
      (branch (opcode i == op.RETURN_VALUE) _ _ _ _
      (ap₂ (λ (x y : Bool). not x && y) (same_void before after alike t) (same_value_of before after alike t (slice_index i.words 1)))
      refl)
