-- Rules on functions, calls and returns are broken alike.
use Rattle.std.proofs.Common.{◌≡◌, ℕ, Bool, true, false, ◌==◌, ◌&&◌, ◌||◌, not, List, [], ◌∷◌, length, drop, Option, refl, ap, ap₂, ◌∙◌, eqb-true}
use Rattle.std.specs.List.{AllByRecursion, list_any, slice_index}
use Rattle.spv_opcodes.specs.declared.op.TheConstants as op
use Rattle.spv_opcodes.specs.declared.decoration.TheConstants as decoration
use Rattle.spv_grammar.specs.Table.{row_of}
use Rattle.spv_module.specs.Instruction.{Instruction, opcode}
use Rattle.spv_typing.specs.Kinds.{type_of}
use Rattle.spv_signatures.specs.declared.parameters.Parameter.{Parameter}
use Rattle.spv_signatures.specs.Functions.{is_function_type, parameter_types, parameters_of, names_function, function_fits}
use Rattle.spv_signatures.specs.Calls.{is_volatile, are_same, pointer_fits, argument_fits, arguments_fit, call_fits}
use Rattle.spv_signatures.specs.Contexts.{result_fits, return_fits}
use Rattle.spv_alike_uses.specs.Laws.{UsesWhatStays}
use Rattle.spv_alike_uses.proofs.Lookups.{Case, In, where_true, by_one, same_test, word_at, same_void, same_pointer, same_value_of, same_has_decoration}
use Rattle.spv_alike_uses.proofs.Thirds.{same_third}
use Rattle.spv_alike_uses.proofs.Words.{word, words, zip_on}

or_on : (b c x y : Bool) → b ≡ c → (c ≡ true → x ≡ y) → (not b || x) ≡ (not c || y)
or_on b true x y e p = ap (λ (t : Bool). not t || x) e ∙ p refl
or_on b false x y e p = ap (λ (t : Bool). not t || x) e

module _ (c : Case) where
  same_names_function : (f : ℕ) → In c f → names_function c.after f ≡ names_function c.before f
  same_names_function = same_test c op.FUNCTION refl

  same_function_type : (t f : ℕ) → In c t → In c f
      → (is_function_type c.after t && length (parameter_types c.after t) == length (parameters_of c.after f))
      ≡ (is_function_type c.before t && length (parameter_types c.before t) == length (parameters_of c.before f))
  same_function_type t f gt gf =
      by_one c (λ test w ws. test op.TYPE_FUNCTION && length (ws 3) == length (parameters_of c.after f)) false (λ w ws. refl) t gt
      ∙ ap (λ (ps : List Parameter). is_function_type c.before t && length (parameter_types c.before t) == length ps) (c.alike.parameters f gf)

  -- a function's result type is that of its type, and that of a call the callee's
  same_callee : (f t : ℕ) → In c f → (not (names_function c.after f) || type_of c.after f == t) ≡ (not (names_function c.before f) || type_of c.before f == t)
  same_callee f t g =
      or_on (names_function c.after f) (names_function c.before f) (type_of c.after f == t) (type_of c.before f == t) (same_names_function f g)
      (λ h. ap (λ (u : ℕ). u == t) (word_at c op.FUNCTION 1 refl f g h))

  -- ---- calls

  same_volatile : (id : ℕ) → In c id → is_volatile c.after id ≡ is_volatile c.before id
  same_volatile id = same_has_decoration c id decoration.VOLATILE

  same_pointer_fits : (p a : ℕ) → In c p → In c a → pointer_fits c.after p a ≡ pointer_fits c.before p a
  same_pointer_fits p a gp ga =
      ap₂ (λ (x y : Bool). x && y) (by_one c (λ test w ws. list_any test (op.VARIABLE ∷ op.FUNCTION_PARAMETER ∷ [])) false (λ w ws. refl) a ga)
      (ap₂ are_same (same_volatile p gp) (same_volatile a ga))

  abbrev Whole : Parameter → Type 0
  Whole p = In c p.id × In c p.ty

  same_argument : (p : Parameter) (a : ℕ) → Whole p → In c a → argument_fits c.after p a ≡ argument_fits c.before p a
  unfolding argument_fits
  same_argument p a gp ga =
      ap₂ (λ (x y : Bool). x && y) (same_value_of c p.ty a ga)
      (ap₂ (λ (x y : Bool). not x || y) (same_pointer c p.ty gp.1) (same_pointer_fits p.id a gp.0 ga))

  same_arguments : (f : ℕ) (arguments : List ℕ) → In c f → AllByRecursion (In c) arguments
      → arguments_fit c.after (parameters_of c.after f) arguments ≡ arguments_fit c.before (parameters_of c.before f) arguments
  same_arguments f arguments g all =
      ap (λ (ps : List Parameter). arguments_fit c.after ps arguments) (c.alike.parameters f g)
      ∙ ap (λ (b : Bool). length (parameters_of c.before f) == length arguments && b)
      (zip_on (In c) Whole (argument_fits c.after) (argument_fits c.before) same_argument (parameters_of c.before f) arguments (c.alike.parameters_stay f g) all)

  -- ---- by the instruction

  module _ (i : Instruction) (uses : UsesWhatStays c.gone i) where
    pub same_function : function_fits c.after i ≡ function_fits c.before i
    unfolding function_fits row_of
    same_function =
        or_on (opcode i == op.FUNCTION) (opcode i == op.FUNCTION) _ _ refl
        (λ h. same_function_type (slice_index i.words 4) (slice_index i.words 2) (word c i uses 3 op.FUNCTION refl h)
        (uses.function (eqb-true (opcode i) op.FUNCTION h)))

    pub same_result : (next_type : Option ℕ) → result_fits c.after next_type i ≡ result_fits c.before next_type i
    unfolding result_fits row_of
    same_result next_type =
        where_true (opcode i == op.FUNCTION) _ _ _ _
        (λ h. ap (λ (t : ℕ). t == slice_index i.words 1) (same_third c (slice_index i.words 4) (word c i uses 3 op.FUNCTION refl h)))
        (where_true (opcode i == op.FUNCTION_PARAMETER) _ _ _ _ (λ h. refl)
        (where_true (opcode i == op.FUNCTION_CALL) _ _ _ _
        (λ h. same_callee (slice_index i.words 3) (slice_index i.words 1) (word c i uses 2 op.FUNCTION_CALL refl h))
        refl))

    pub same_call : call_fits c.after i ≡ call_fits c.before i
    unfolding call_fits row_of
    same_call =
        or_on (opcode i == op.FUNCTION_CALL) (opcode i == op.FUNCTION_CALL) _ _ refl
        (λ h. let f = word c i uses 2 op.FUNCTION_CALL refl h in
        ap₂ (λ (x y : Bool). x && y) (same_names_function (slice_index i.words 3) f)
        (same_arguments (slice_index i.words 3) (drop 4 i.words) f (words c i uses 3 op.FUNCTION_CALL refl h)))

    pub same_returns : (t : ℕ) → In c t → return_fits c.after t i ≡ return_fits c.before t i
    unfolding return_fits row_of
    same_returns t g =
        where_true (opcode i == op.RETURN) _ _ _ _ (λ h. same_void c t g)
        (where_true (opcode i == op.RETURN_VALUE) _ _ _ _
        (λ h. ap₂ (λ (x y : Bool). not x && y) (same_void c t g) (same_value_of c t (slice_index i.words 1) (word c i uses 0 op.RETURN_VALUE refl h)))
        refl)
