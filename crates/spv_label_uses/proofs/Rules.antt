-- What an instruction keeps to that breaks no rule on bodies and none on entry points.
use Rattle.std.proofs.Common.{◌≡◌, ℕ, true, false, cond, not, ◌&&◌, ◌||◌, List, [], ◌∷◌, ◌++◌, take, refl, sym, ap, ◌∙◌, arith}
use Rattle.std.specs.List.{Contains, list_any}
use Rattle.std.proofs.lemmas.Bool.{and_parts}
use Rattle.spv_module.specs.Code.{is_function, is_line}
use Rattle.spv_module.specs.First.{unless}
use Rattle.spv_module.specs.Instruction.{Instruction}
use Rattle.spv_module.proofs.Ids.{first_nil, second_nil}
use Rattle.spv_arithmetic.specs.Broken.{arithmetic_rules}
use Rattle.spv_arithmetic.specs.Operands as arithmetic_operands
use Rattle.spv_arithmetic.specs.Results as arithmetic_results
use Rattle.spv_composites.specs.Broken as composites
use Rattle.spv_composites.specs.Broken.{composite_rules}
use Rattle.spv_composites.specs.Vectors.{vector_operands_fit, vector_result_fits}
use Rattle.spv_composites.specs.Composites.{composite_operands_fit, composite_result_fits}
use Rattle.spv_composites.specs.Memory.{memory_operands_fit, memory_result_fits, atomic_operands_fit, atomic_result_fits}
use Rattle.spv_usage.specs.Broken.{usage_rules}
use Rattle.spv_usage.specs.Stages.{stage_of}
use Rattle.spv_usage.specs.Storage.{storage_fits}
use Rattle.spv_usage.specs.Orderings.{ordering_fits}
use Rattle.spv_signatures.specs.Broken.{signature_rules}
use Rattle.spv_signatures.specs.Functions.{function_fits}
use Rattle.spv_signatures.specs.Contexts.{next_type_at, result_type_at, result_fits, return_fits}
use Rattle.spv_signatures.specs.Calls.{call_fits}
use Rattle.spv_body_rules.specs.Broken.{body_rules, is_of_functions, rules_in_functions}
use Rattle.spv_entries.specs.Bindings.{binding_fits}
use Rattle.spv_entries.specs.Broken.{entry_rules}
use Rattle.spv_entries.specs.Functions as entries
use Rattle.spv_entries.specs.Names.{name_fits}
use Rattle.spv_entries.specs.Sizes.{size_fits}
use Rattle.spv_label_uses.proofs.Placed.{passes}

-- a list that has nothing is empty
nothing_in : (xs : List ℕ) → ((x : ℕ) → Contains xs x → ⊥) → xs ≡ []
nothing_in [] h = refl
nothing_in (x ∷ xs) h = absurd (h x (0, omega arith, refl))

pub record Keeps (insts : List Instruction) (k : ℕ) (i : Instruction) : Type 0 where
  pub arithmetic : arithmetic_operands.operands_fit insts i ≡ true
  pub arithmetic_result : arithmetic_results.result_fits insts i ≡ true
  pub vectors : vector_operands_fit insts i ≡ true
  pub vector_results : vector_result_fits insts i ≡ true
  pub composites : composite_operands_fit insts i ≡ true
  pub composite_results : composite_result_fits insts i ≡ true
  pub memory : memory_operands_fit insts i ≡ true
  pub memory_results : memory_result_fits insts i ≡ true
  pub atomics : atomic_operands_fit insts i ≡ true
  pub atomic_results : atomic_result_fits insts i ≡ true
  pub storage : storage_fits insts (stage_of insts k) i ≡ true
  pub ordering : ordering_fits insts i ≡ true
  pub function : function_fits insts i ≡ true
  pub result : result_fits insts (next_type_at insts k) i ≡ true
  pub call : call_fits insts i ≡ true
  pub returns : return_fits insts (result_type_at insts k) i ≡ true

kept_rules : (insts : List Instruction) (k : ℕ) (i : Instruction) → rules_in_functions insts k i ≡ [] → Keeps insts k i
kept_rules insts k i h =
    let behind_arithmetic : List ℕ = composite_rules insts i ++ (usage_rules insts k i ++ signature_rules insts k i) in
    let a = first_nil (arithmetic_rules insts i) behind_arithmetic h in
    let rest_1 = second_nil (arithmetic_rules insts i) behind_arithmetic h in
    let c = first_nil (composite_rules insts i) (usage_rules insts k i ++ signature_rules insts k i) rest_1 in
    let rest_2 = second_nil (composite_rules insts i) (usage_rules insts k i ++ signature_rules insts k i) rest_1 in
    let u = first_nil (usage_rules insts k i) (signature_rules insts k i) rest_2 in
    let s = second_nil (usage_rules insts k i) (signature_rules insts k i) rest_2 in
    let operands = passes (composites.operands_fit insts i) 501
    (first_nil (unless (composites.operands_fit insts i) 501) (unless (composites.result_fits insts i) 502) c) in
    let results = passes (composites.result_fits insts i) 502
    (second_nil (unless (composites.operands_fit insts i) 501) (unless (composites.result_fits insts i) 502) c) in
    let o_1 = and_parts (vector_operands_fit insts i) (composite_operands_fit insts i &&
    (memory_operands_fit insts i && atomic_operands_fit insts i)) operands in
    let o_2 = and_parts (composite_operands_fit insts i) (memory_operands_fit insts i && atomic_operands_fit insts i) o_1.1 in
    let o_3 = and_parts (memory_operands_fit insts i) (atomic_operands_fit insts i) o_2.1 in
    let r_1 = and_parts (vector_result_fits insts i) (composite_result_fits insts i && (memory_result_fits insts i && atomic_result_fits insts i)) results in
    let r_2 = and_parts (composite_result_fits insts i) (memory_result_fits insts i && atomic_result_fits insts i) r_1.1 in
    let r_3 = and_parts (memory_result_fits insts i) (atomic_result_fits insts i) r_2.1 in
    let returned : List ℕ = unless (return_fits insts (result_type_at insts k) i) 507 in
    let called : List ℕ = unless (call_fits insts i) 506 ++ returned in
    let typed : List ℕ = unless (result_fits insts (next_type_at insts k) i) 502 ++ called in
    let s_1 = second_nil (unless (function_fits insts i) 501) typed s in
    let s_2 = second_nil (unless (result_fits insts (next_type_at insts k) i) 502) called s_1 in
    record {
      arithmetic = passes (arithmetic_operands.operands_fit insts i) 501
          (first_nil (unless (arithmetic_operands.operands_fit insts i) 501) (unless (arithmetic_results.result_fits insts i) 502) a);
      arithmetic_result = passes (arithmetic_results.result_fits insts i) 502
          (second_nil (unless (arithmetic_operands.operands_fit insts i) 501) (unless (arithmetic_results.result_fits insts i) 502) a);
      vectors = o_1.0;
      vector_results = r_1.0;
      composites = o_2.0;
      composite_results = r_2.0;
      memory = o_3.0;
      memory_results = r_3.0;
      atomics = o_3.1;
      atomic_results = r_3.1;
      storage = passes (storage_fits insts (stage_of insts k) i) 504
          (first_nil (unless (storage_fits insts (stage_of insts k) i) 504) (unless (ordering_fits insts i) 505) u);
      ordering = passes (ordering_fits insts i) 505 (second_nil (unless (storage_fits insts (stage_of insts k) i) 504)
          (unless (ordering_fits insts i) 505) u);
      function = passes (function_fits insts i) 501 (first_nil (unless (function_fits insts i) 501) typed s);
      result = passes (result_fits insts (next_type_at insts k) i) 502 (first_nil (unless (result_fits insts (next_type_at insts k) i) 502) called s_1);
      call = passes (call_fits insts i) 506 (first_nil (unless (call_fits insts i) 506) returned s_2);
      returns = passes (return_fits insts (result_type_at insts k) i) 507 (second_nil (unless (call_fits insts i) 506) returned s_2);
    }

-- an instruction of functions that breaks no rule on bodies
pub kept : (insts : List Instruction) (k : ℕ) (i : Instruction) → (list_any is_function (take k insts) || is_function i) ≡ true → is_line i ≡ false
    → ((rule : ℕ) → Contains (body_rules insts k i) rule → ⊥) → Keeps insts k i
unfolding body_rules
kept insts k i begun plain h =
    let inside : is_of_functions insts k i ≡ true =
    ap (λ b. b && not (is_line i)) begun ∙ ap not plain in
    let none : cond (is_of_functions insts k i) (rules_in_functions insts k i) [] ≡ [] = nothing_in
    (cond (is_of_functions insts k i) (rules_in_functions insts k i) []) h in
    kept_rules insts k i (sym (ap (λ b. cond b (rules_in_functions insts k i) []) inside) ∙ none)

-- an instruction that breaks no rule on entry points
pub entries_kept : (insts : List Instruction) (k : ℕ) (i : Instruction) → ((rule : ℕ) → Contains (entry_rules insts k i) rule → ⊥)
    → (size_fits insts i ≡ true) × (entries.function_fits insts i ≡ true)
entries_kept insts k i h =
    let last : List ℕ = unless (entries.function_fits insts i) 606 in
    let sized : List ℕ = unless (size_fits insts i) 605 ++ last in
    let named : List ℕ = unless (name_fits (take k insts) i) 604 ++ sized in
    let all = nothing_in (entry_rules insts k i) h in
    let behind = second_nil (unless (name_fits (take k insts) i) 604) sized (second_nil (unless (binding_fits insts (take k insts) i) 603) named all) in (
      passes (size_fits insts i) 605 (first_nil (unless (size_fits insts i) 605) last behind),
      passes (entries.function_fits insts i) 606 (second_nil (unless (size_fits insts i) 605) last behind),
    )
