-- What the rules on bodies ask of an instruction: each test, at a stage, in a function of a result type, where the next parameter has a type.
use Rattle.std.proofs.Common.{◌≡◌, ℕ, Bool, true, false, cond, ◌==◌, ◌&&◌, ◌||◌, not, List, [], ◌∷◌, ◌++◌, drop, Option, refl, sym, ap, subst, ◌∙◌, arith}
use Rattle.std.specs.Prelude.{nat_eq, slice_index}
use Rattle.std.specs.List.{Contains}
use Rattle.std.specs.Option.{option_map_or}
use Rattle.spv_opcodes.specs.declared.op.TheConstants as op
use Rattle.spv_module.specs.First.{unless}
use Rattle.spv_module.specs.Instruction.{Instruction, opcode}
use Rattle.spv_typing.specs.Kinds.{is_one_of, is_void, type_of}
use Rattle.spv_values.specs.Values.{is_value_of}
use Rattle.spv_declarations.specs.Laws.{IsUnbroken}
use Rattle.spv_arithmetic.specs.Operands.{operands_fit}
use Rattle.spv_arithmetic.specs.Results.{result_fits}
use Rattle.spv_composites.specs.Broken.{composite_rules}
use Rattle.spv_usage.specs.Broken.{usage_rules}
use Rattle.spv_usage.specs.Orderings.{ordering_fits}
use Rattle.spv_usage.specs.declared.stages.Stage.{Stage}
use Rattle.spv_usage.specs.declared.stages.Stage.TheVariants.{Further}
use Rattle.spv_usage.specs.Stages.{is_opening, is_outside, stage_of}
use Rattle.spv_usage.specs.Storage.{asked_fits, atomic_fits, atomics, storage_fits, store_fits, variable_fits}
use Rattle.spv_signatures.specs.Broken.{signature_rules}
use Rattle.spv_signatures.specs.Calls.{call_fits}
use Rattle.spv_signatures.specs.Contexts.{next_type_at, result_type_at, return_fits, result_fits as function_result_fits}
use Rattle.spv_signatures.specs.Functions.{function_fits, names_function, return_type}
use Rattle.spv_body_rules.specs.Broken.{rules_in_functions}
use Rattle.spv_alike.specs.Alike.{AreAlike}
use Rattle.spv_alike.specs.Laws.{RulesStay}

pub record Fits (m : List Instruction) (stage : Stage) (t : ℕ) (next : Option ℕ) (i : Instruction) : Type 0 where
  pub arithmetic : operands_fit m i ≡ true
  pub arithmetic_result : result_fits m i ≡ true
  pub composites : composite_rules m i ≡ []
  pub storage : storage_fits m stage i ≡ true
  pub ordering : ordering_fits m i ≡ true
  pub function : function_fits m i ≡ true
  pub results : function_result_fits m next i ≡ true
  pub call : call_fits m i ≡ true
  pub returns : return_fits m t i ≡ true

-- ---- as lists of rules

pub nothing_left : (rules : List ℕ) → ((rule : ℕ) → Contains rules rule → ⊥) → rules ≡ []
nothing_left [] h = refl
nothing_left (r ∷ rs) h = absurd (h r (0, omega arith, refl))

pub none_in : (rules : List ℕ) → rules ≡ [] → (rule : ℕ) → Contains rules rule → ⊥
none_in [] e rule h = let less = h.1 in absurd (omega (arith, less))
none_in (r ∷ rs) e rule h = absurd (cc e)

record Nothing (xs ys : List ℕ) : Type 0 where
  left : xs ≡ []
  right : ys ≡ []

nothing_both : (xs ys : List ℕ) → xs ++ ys ≡ [] → Nothing xs ys
nothing_both [] ys h = record { left = refl; right = h }
nothing_both (x ∷ xs) ys h = absurd (cc h)

both_nothing : (xs ys : List ℕ) → xs ≡ [] → ys ≡ [] → xs ++ ys ≡ []
both_nothing xs ys h g = ap (λ z. z ++ ys) h ∙ g

nothing_unless : (b : Bool) (rule : ℕ) → unless b rule ≡ [] → b ≡ true
nothing_unless true rule h = refl
nothing_unless false rule h = absurd (cc h)

unless_nothing : (b : Bool) (rule : ℕ) → b ≡ true → unless b rule ≡ []
unless_nothing b rule h = ap (λ (x : Bool). unless x rule) h

-- ---- the rules that the k-th instruction breaks in a function

module _ (m : List Instruction) (k : ℕ) (i : Instruction) where
  pub fits_of_rules : rules_in_functions m k i ≡ [] → Fits m (stage_of m k) (result_type_at m k) (next_type_at m k) i
  fits_of_rules h =
      let one = unless (operands_fit m i) 501 in
      let two = unless (result_fits m i) 502 in
      let four = unless (storage_fits m (stage_of m k) i) 504 in
      let five = unless (ordering_fits m i) 505 in
      let six = unless (function_fits m i) 501 in
      let seven = unless (function_result_fits m (next_type_at m k) i) 502 in
      let eight = unless (call_fits m i) 506 in
      let nine = unless (return_fits m (result_type_at m k) i) 507 in
      let a = nothing_both (one ++ two) (composite_rules m i ++ (usage_rules m k i ++ signature_rules m k i)) h in
      let b = nothing_both one two a.left in
      let c = nothing_both (composite_rules m i) (usage_rules m k i ++ signature_rules m k i) a.right in
      let d = nothing_both (four ++ five) (signature_rules m k i) c.right in
      let e = nothing_both four five d.left in
      let f = nothing_both six (seven ++ (eight ++ nine)) d.right in
      let g = nothing_both seven (eight ++ nine) f.right in
      let l = nothing_both eight nine g.right in
      record {
        arithmetic = nothing_unless (operands_fit m i) 501 b.left;
        arithmetic_result = nothing_unless (result_fits m i) 502 b.right;
        composites = c.left;
        storage = nothing_unless (storage_fits m (stage_of m k) i) 504 e.left;
        ordering = nothing_unless (ordering_fits m i) 505 e.right;
        function = nothing_unless (function_fits m i) 501 f.left;
        results = nothing_unless (function_result_fits m (next_type_at m k) i) 502 g.left;
        call = nothing_unless (call_fits m i) 506 l.left;
        returns = nothing_unless (return_fits m (result_type_at m k) i) 507 l.right;
      }

  pub rules_of_fits : Fits m (stage_of m k) (result_type_at m k) (next_type_at m k) i → rules_in_functions m k i ≡ []
  rules_of_fits f =
      let one = unless (operands_fit m i) 501 in
      let two = unless (result_fits m i) 502 in
      let four = unless (storage_fits m (stage_of m k) i) 504 in
      let five = unless (ordering_fits m i) 505 in
      let six = unless (function_fits m i) 501 in
      let seven = unless (function_result_fits m (next_type_at m k) i) 502 in
      let eight = unless (call_fits m i) 506 in
      let nine = unless (return_fits m (result_type_at m k) i) 507 in
      both_nothing (one ++ two) (composite_rules m i ++ (usage_rules m k i ++ signature_rules m k i))
      (both_nothing one two (unless_nothing (operands_fit m i) 501 f.arithmetic) (unless_nothing (result_fits m i) 502 f.arithmetic_result))
      (both_nothing (composite_rules m i) (usage_rules m k i ++ signature_rules m k i) f.composites
      (both_nothing (four ++ five) (signature_rules m k i)
      (both_nothing four five (unless_nothing (storage_fits m (stage_of m k) i) 504 f.storage) (unless_nothing (ordering_fits m i) 505 f.ordering))
      (both_nothing six (seven ++ (eight ++ nine)) (unless_nothing (function_fits m i) 501 f.function)
      (both_nothing seven (eight ++ nine) (unless_nothing (function_result_fits m (next_type_at m k) i) 502 f.results)
      (both_nothing eight nine (unless_nothing (call_fits m i) 506 f.call) (unless_nothing (return_fits m (result_type_at m k) i) 507 f.returns))))))

-- ---- the same words in a module that is alike

pub stay : RulesStay → (before after : List Instruction) → IsUnbroken before → AreAlike before after → (i j : Instruction) → j.words ≡ i.words
    → (stage : Stage) (t : ℕ) (next : Option ℕ) → Fits before stage t next i → Fits after stage t next j
stay rules_stay before after unbroken alike i j same stage t next f =
    let s = rules_stay before after unbroken alike i j same in
    record {
      arithmetic = s.arithmetic ∙ f.arithmetic;
      arithmetic_result = s.arithmetic_result ∙ f.arithmetic_result;
      composites = s.composites ∙ f.composites;
      storage = s.storage stage ∙ f.storage;
      ordering = s.ordering ∙ f.ordering;
      function = s.function ∙ f.function;
      results = s.results next ∙ f.results;
      call = s.call ∙ f.call;
      returns = s.returns t ∙ f.returns;
    }

-- ---- at another place

pub fits_same : (m : List Instruction) (i : Instruction) (s r : Stage) (t u : ℕ) (n k : Option ℕ) → s ≡ r → t ≡ u → n ≡ k → Fits m s t n i → Fits m r u k i
fits_same m i s r t u n k a b c f =
    subst (λ z. Fits m r u z i) c (subst (λ z. Fits m r z n i) b (subst (λ z. Fits m z t n i) a f))

module _ (m : List Instruction) (i : Instruction) where
  -- the stage is asked of variables alone
  pub storage_at : (s r : Stage) → (opcode i == op.VARIABLE) ≡ false → storage_fits m s i ≡ storage_fits m r i
  unfolding storage_fits
  storage_at s r e = ap (at s) e ∙ sym (ap (at r) e)
    where
      at : Stage → Bool → Bool
      at stage b =
          cond b (is_outside stage || (is_opening stage && variable_fits m (slice_index i.words 1) (slice_index i.words 3) (drop 4 i.words)))
          (cond (opcode i == op.STORE) (store_fits m (slice_index i.words 1))
          (cond (opcode i == op.ARRAY_LENGTH) (asked_fits m (slice_index i.words 3))
          (cond (opcode i == op.ATOMIC_STORE) (atomic_fits m (slice_index i.words 1))
          (cond (is_one_of atomics (opcode i)) (atomic_fits m (slice_index i.words 3))
          true))))

  -- the type of the next parameter of parameters alone
  pub results_at : (n k : Option ℕ) → (opcode i == op.FUNCTION_PARAMETER) ≡ false → function_result_fits m n i ≡ function_result_fits m k i
  unfolding function_result_fits
  results_at n k e = ap (at n) e ∙ sym (ap (at k) e)
    where
      at : Option ℕ → Bool → Bool
      at next b =
          cond (opcode i == op.FUNCTION) (return_type m (slice_index i.words 4) == slice_index i.words 1)
          (cond b (option_map_or (nat_eq (slice_index i.words 1)) next false)
          (cond (opcode i == op.FUNCTION_CALL)
          (not (names_function m (slice_index i.words 3)) || type_of m (slice_index i.words 3) == slice_index i.words 1)
          true))

  pub moved : (s r : Stage) (t : ℕ) (n k : Option ℕ) → (opcode i == op.VARIABLE) ≡ false → (opcode i == op.FUNCTION_PARAMETER) ≡ false
      → Fits m s t n i → Fits m r t k i
  moved s r t n k v p f = record {
    arithmetic = f.arithmetic;
    arithmetic_result = f.arithmetic_result;
    composites = f.composites;
    storage = storage_at r s v ∙ f.storage;
    ordering = f.ordering;
    function = f.function;
    results = results_at k n p ∙ f.results;
    call = f.call;
    returns = f.returns;
  }

  pub next_moved : (s : Stage) (t : ℕ) (n k : Option ℕ) → (opcode i == op.FUNCTION_PARAMETER) ≡ false → Fits m s t n i → Fits m s t k i
  next_moved s t n k p f = record {
    arithmetic = f.arithmetic;
    arithmetic_result = f.arithmetic_result;
    composites = f.composites;
    storage = f.storage;
    ordering = f.ordering;
    function = f.function;
    results = results_at k n p ∙ f.results;
    call = f.call;
    returns = f.returns;
  }

  -- no variable fits behind the head of the first block
  pub variable_late : (opcode i == op.VARIABLE) ≡ true → storage_fits m Further i ≡ false
  unfolding storage_fits
  variable_late v = rw v refl

  -- and the result type of the function of returns alone
  pub function_returns : (t u : ℕ) → opcode i ≡ op.FUNCTION → return_fits m u i ≡ true
  unfolding return_fits
  function_returns t u e =
      ap (λ o. cond (o == op.RETURN) (is_void m u) (cond (o == op.RETURN_VALUE) (not (is_void m u) && is_value_of m u (slice_index i.words 1)) true)) e

  pub function_moved : (s r : Stage) (t u : ℕ) (n k : Option ℕ) → opcode i ≡ op.FUNCTION → Fits m s t n i → Fits m r u k i
  function_moved s r t u n k e f = record {
    arithmetic = f.arithmetic;
    arithmetic_result = f.arithmetic_result;
    composites = f.composites;
    storage = storage_at r s (ap (λ o. o == op.VARIABLE) e) ∙ f.storage;
    ordering = f.ordering;
    function = f.function;
    results = results_at k n (ap (λ o. o == op.FUNCTION_PARAMETER) e) ∙ f.results;
    call = f.call;
    returns = function_returns t u e;
  }
