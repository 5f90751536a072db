-- Where the rules on layout, declarations and bodies find nothing, the types that OpFunction, OpFunctionParameter and OpPhi name are known.
use Rattle.std.proofs.Common.{◌≡◌, ℕ, ◌<◌, Bool, true, false, cond, ◌==◌, ◌||◌, List, [], ◌∷◌, take, Some, None, refl, ap, ◌∙◌}
use Rattle.std.specs.Prelude.{count_by}
use Rattle.std.specs.List.{Contains, list_all, list_any, slice_get, slice_index}
use Rattle.spv_opcodes.specs.declared.op.TheConstants as op
use Rattle.spv_grammar.specs.Table.{row_of}
use Rattle.spv_module.specs.Code.{is_function, is_line}
use Rattle.spv_module.specs.First.{first}
use Rattle.spv_module.specs.Instruction.{Instruction, IsInstruction, opcode, roles}
use Rattle.spv_module.specs.Layout.{group_2}
use Rattle.spv_ids.specs.Ids.{used_ids}
use Rattle.spv_declarations.specs.Broken.{group_3}
use Rattle.spv_declarations.specs.Laws.{IsUnbroken}
use Rattle.spv_signatures.specs.Contexts.{next_type_at}
use Rattle.spv_body_rules.specs.Broken.{body_rules}
use Rattle.spv_fine_trees.specs.Laws.{KnowsTypes}
use Rattle.spv_label_uses.proofs.Begun.{begun_before, stands_outside}
use Rattle.spv_label_uses.proofs.Free.{or_cases, same_by}
use Rattle.spv_label_uses.proofs.Rules.{Keeps, kept}
use Rattle.spv_label_uses.proofs.Signatures.{FunctionsFit}
use Rattle.spv_norm_available.proofs.TypesNamed.{function_names_types, parameter_names_types, phi_names_types}
use Rattle.spv_norm_available.proofs.TypesOutside.{is_type, types_are_known}

-- OpPhi and OpFunctionParameter do not stand outside functions
phi_inside : stands_outside op.PHI ≡ false
unfolding row_of
phi_inside = refl

parameter_inside : stands_outside op.FUNCTION_PARAMETER ≡ false
parameter_inside = refl

module _ (insts : List Instruction) (end : ℕ) (whole : (k : ℕ) (i : Instruction) → slice_get insts k ≡ Some i → IsInstruction i.words (roles i))
    (laid_out : first (group_2 end insts) ≡ None) (declared : first (group_3 insts) ≡ None)
    (fit : (k : ℕ) (i : Instruction) → slice_get insts k ≡ Some i → (rule : ℕ) → Contains (body_rules insts k i) rule → ⊥) where
  unbroken : IsUnbroken insts
  unbroken = record { whole = whole; unrefused = declared }

  -- what an instruction of functions keeps to
  inside : (k : ℕ) (i : Instruction) (o : ℕ) → slice_get insts k ≡ Some i → opcode i ≡ o → (o == op.LINE || o == op.NO_LINE) ≡ false
      → stands_outside o ≡ false → Keeps insts k i
  inside k i o at e loud within =
      let plain : is_line i ≡ false = ap (λ n. n == op.LINE || n == op.NO_LINE) e ∙ loud in
      let begun : list_any is_function (take k insts) ≡ true = begun_before end insts laid_out k i at plain (ap stands_outside e ∙ within) in
      kept insts k i (ap (λ b. b || is_function i) begun) plain (fit k i at)

  any_second : (a b : Bool) → b ≡ true → (a || b) ≡ true
  any_second true b h = refl
  any_second false b h = h

  begins : (k : ℕ) (i : Instruction) → slice_get insts k ≡ Some i → opcode i ≡ op.FUNCTION → Keeps insts k i
  begins k i at e =
      kept insts k i (any_second (list_any is_function (take k insts)) (is_function i) (ap (λ o. o == op.FUNCTION) e))
      (ap (λ o. o == op.LINE || o == op.NO_LINE) e) (fit k i at)

  functions_fit : FunctionsFit insts
  functions_fit k i at e = let it = begins k i at e in (it.function, it.result)

  -- each that such an instruction names is a type
  named_types : (k : ℕ) (i : Instruction) → slice_get insts k ≡ Some i → (p f : Bool) → (opcode i == op.PHI) ≡ p
      → (is_function i || opcode i == op.FUNCTION_PARAMETER) ≡ f
      → list_all (is_type insts) (cond p (slice_index i.words 1 ∷ []) (cond f (used_ids i) [])) ≡ true
  named_types k i at true f hp hf =
      let e = same_by (opcode i) op.PHI hp in
      phi_names_types insts i e (inside k i op.PHI at e refl phi_inside).composite_results
  named_types k i at false true hp hf =
      or_cases (is_function i) (opcode i == op.FUNCTION_PARAMETER) hf
      (λ h. let e = same_by (opcode i) op.FUNCTION h in
      function_names_types insts unbroken (next_type_at insts k) i (whole k i at) e (begins k i at e).function (begins k i at e).result)
      (λ h. let e = same_by (opcode i) op.FUNCTION_PARAMETER h in
      parameter_names_types insts unbroken functions_fit k i (whole k i at) e (inside k i op.FUNCTION_PARAMETER at e refl parameter_inside).result)
  named_types k i at false false hp hf = refl

  known_there : (k : ℕ) → KnowsTypes insts k
  known_there k n i at within =
      types_are_known end insts laid_out
      (cond (opcode i == op.PHI) (slice_index i.words 1 ∷ []) (cond (is_function i || opcode i == op.FUNCTION_PARAMETER) (used_ids i) []))
      (named_types n i at (opcode i == op.PHI) (is_function i || opcode i == op.FUNCTION_PARAMETER) refl refl)

pub types_known : (insts : List Instruction) (end : ℕ) → ((k : ℕ) (i : Instruction) → slice_get insts k ≡ Some i → IsInstruction i.words (roles i))
    → first (group_2 end insts) ≡ None → first (group_3 insts) ≡ None
    → ((k : ℕ) (i : Instruction) → slice_get insts k ≡ Some i → (rule : ℕ) → Contains (body_rules insts k i) rule → ⊥)
    → (k : ℕ) → k < count_by is_function insts → KnowsTypes insts k
types_known insts end whole laid_out declared fit k below = known_there insts end whole laid_out declared fit k
