-- The small trees, by computation.
use Rattle.std.proofs.Common.{◌≡◌, inl, inr, ℕ, Bool, true, false, [], ◌∷◌, refl, sym, subst, ◌∙◌}
use Rattle.spv_grammar.specs.Operands.{roles_of}
use Rattle.spv_grammar.specs.Table.{row_of}
use Rattle.spv_arithmetic.specs.Operands.{operands_fit}
use Rattle.spv_arithmetic.specs.Results.{result_fits}
use Rattle.spv_composites.specs.Composites.{composite_operands_fit, composite_result_fits}
use Rattle.spv_composites.specs.Memory.{atomic_operands_fit, atomic_result_fits, memory_operands_fit, memory_result_fits}
use Rattle.spv_composites.specs.Vectors.{vector_operands_fit, vector_result_fits}
use Rattle.spv_usage.specs.Orderings.{ordering_fits}
use Rattle.spv_usage.specs.declared.stages.Stage.{Stage}
use Rattle.spv_usage.specs.declared.stages.Stage.TheVariants.{Further, Opening}
use Rattle.spv_usage.specs.Storage.{storage_fits}
use Rattle.spv_typing.specs.Kinds.{is_closed}
use Rattle.spv_values.specs.Values.{is_bools, is_value_of}
use Rattle.spv_signatures.specs.Calls.{call_fits}
use Rattle.spv_signatures.specs.Contexts.{return_fits, result_fits as function_result_fits}
use Rattle.spv_typed_trees.specs.Facts.{AreTyped, NotTyped, front, sum, told, variable}
use Rattle.spv_typed_trees.specs.Typed.{Sends, StepFits, as_instruction}

sum_value : is_value_of told 3 10 ≡ true
unfolding roles_of row_of
sum_value = refl

constant_value : is_value_of told 3 20 ≡ true
unfolding roles_of row_of
constant_value = refl

phi_value : is_value_of told 3 11 ≡ true
unfolding roles_of row_of
phi_value = refl

no_value : is_value_of told 3 5 ≡ false
unfolding roles_of row_of
no_value = refl

closed : is_closed told 3 ≡ true
unfolding roles_of row_of
closed = refl

condition : is_bools told 1 5 ≡ true
unfolding roles_of row_of
condition = refl

no_condition : is_bools told 1 20 ≡ false
unfolding roles_of row_of
no_condition = refl

sum_fits : (s : Stage) → StepFits told s sum
unfolding roles_of row_of operands_fit result_fits vector_operands_fit vector_result_fits composite_operands_fit composite_result_fits memory_operands_fit
    memory_result_fits atomic_operands_fit atomic_result_fits storage_fits ordering_fits function_result_fits call_fits
sum_fits s = record { arithmetic = refl; composites = refl; storage = refl; ordering = refl; result = refl; call = refl }

variable_fits : StepFits told Opening variable
unfolding roles_of row_of operands_fit result_fits vector_operands_fit vector_result_fits composite_operands_fit composite_result_fits memory_operands_fit
    memory_result_fits atomic_operands_fit atomic_result_fits storage_fits ordering_fits function_result_fits call_fits
variable_fits = record { arithmetic = refl; composites = refl; storage = refl; ordering = refl; result = refl; call = refl }

late_variable : storage_fits told Further (as_instruction variable) ≡ false
unfolding storage_fits
late_variable = refl

returns : (value : ℕ) → is_value_of told 3 value ≡ true → return_fits told 3 (as_instruction (0x0002_00FE ∷ value ∷ [])) ≡ true
unfolding return_fits roles_of row_of
returns value e = e

returned : (value : ℕ) → return_fits told 3 (as_instruction (0x0002_00FE ∷ value ∷ [])) ≡ is_value_of told 3 value
unfolding return_fits roles_of row_of
returned value = refl

apart : (b : Bool) → b ≡ true → b ≡ false → ⊥
apart true e f = absurd (cc f)
apart false e f = absurd (cc e)

sends : (value : ℕ) → is_value_of told 3 value ≡ true → Sends told (front ∷ []) (record { target = 7; values = value ∷ [] })
sends value e = record { front = front; in_scope = inl refl; there = refl; carries = (e, tt) }

pub are_typed : AreTyped
are_typed = record {
  chosen = (condition, (closed, tt), (sum_fits Further, sends 10 sum_value), sends 20 constant_value, returns 11 phi_value);
  head = (variable_fits, (sum_fits Opening, returns 10 sum_value));
}

-- the only front round the arms
sent_value : (value : ℕ) → Sends told (front ∷ []) (record { target = 7; values = value ∷ [] }) → is_value_of told 3 value ≡ true
sent_value value s = by s.front s.in_scope s.carries
  where
    by : (f : Rattle.spv_bodies.specs.Bodies.Front) → Rattle.spv_trees.specs.Standing.OneOf f (front ∷ [])
        → Rattle.spv_typed_trees.specs.Typed.Carries told f.parameters (value ∷ []) → is_value_of told 3 value ≡ true
    by f (inl e) c = (subst (λ (z : Rattle.spv_bodies.specs.Bodies.Front). Rattle.spv_typed_trees.specs.Typed.Carries told z.parameters (value ∷ [])) e c).0
    by f (inr o) c = absurd o

pub not_typed : NotTyped
not_typed = record {
  carried = λ h. apart (is_value_of told 3 5) (sent_value 5 h.3) no_value;
  condition = λ h. apart (is_bools told 1 20) h.0 no_condition;
  nowhere = λ h. h.in_scope;
  returned = λ h. apart (is_value_of told 3 5) (sym (returned 5) ∙ h) no_value;
  late = λ h. apart (storage_fits told Further (as_instruction variable)) h.1.0.storage late_variable;
}
