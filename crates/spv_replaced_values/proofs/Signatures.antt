-- Calls and returns fit where they fit before values are replaced.
use Rattle.std.proofs.Common.{◌≡◌, ℕ, Bool, true, false, cond, ◌==◌, ◌&&◌, ◌||◌, not, nat_eq, List, [], ◌∷◌, length, drop, Option, Some, None, refl, sym, ap, ◌∙◌, true≢false, eqb-true}
use Rattle.std.specs.List.{list_all, slice_index, zip}
use Rattle.std.specs.Option.{is_some, option_and_then, option_map_or}
use Rattle.spv_opcodes.specs.declared.op.TheConstants as op
use Rattle.spv_grammar.specs.Table.{row_of}
use Rattle.spv_module.specs.Instruction.{Instruction, opcode}
use Rattle.spv_ids.specs.Ids.{kind}
use Rattle.spv_typing.specs.Kinds.{is_one_of, is_pointer, is_void, type_of}
use Rattle.spv_values.specs.Values.{as_pointer, is_pointer_value, is_value_of, value_type}
use Rattle.spv_signatures.specs.declared.parameters.Parameter.{Parameter}
use Rattle.spv_signatures.specs.Functions.{names_function, parameters_of}
use Rattle.spv_signatures.specs.Calls.{are_same, argument_fits, arguments_fit, call_fits, is_volatile, pointer_fits}
use Rattle.spv_signatures.specs.Contexts.{result_fits, return_fits}
use Rattle.spv_alike.proofs.Lookups.{and_left}
use Rattle.spv_alike_uses.proofs.Lookups.{on}
use Rattle.spv_typed_trees.specs.Typed.{as_instruction}
use Rattle.spv_replaced_values.proofs.Standing.{Near, NearAll, function_stays, near_at, near_drop, near_length, none, pointer_stays, same_names, same_value_of}
use Rattle.spv_replaced_values.proofs.Fixed.{Case, code, near_words, same_code, word}
use Rattle.spv_replaced_values.proofs.Keeping.{keeps_and}

module _ (insts : List Instruction) where
  -- a value of a type of pointers is a pointer
  typed_pointer : (t a : ℕ) → is_value_of insts t a ≡ true → is_pointer insts t ≡ true → is_pointer_value insts a ≡ true
  typed_pointer t a h p = by (value_type insts a) h
    where
      by : (o : Option ℕ) → option_map_or (nat_eq t) o false ≡ true → is_some (option_and_then (as_pointer insts) o) ≡ true
      by None e = absurd (true≢false (sym e))
      by (Some u) e = ap (λ (b : Bool). is_some (cond b (Some u) None)) (ap (is_pointer insts) (sym (eqb-true t u e)) ∙ p)

  keeps_passed : (p : Parameter) (a x : ℕ) → Near insts a x → is_value_of insts p.ty a ≡ true → (not (is_pointer insts p.ty) || pointer_fits insts p.id a) ≡ true
      → (not (is_pointer insts p.ty) || pointer_fits insts p.id x) ≡ true
  keeps_passed p a x g v h = by (is_pointer insts p.ty) refl h
    where
      by : (b : Bool) → is_pointer insts p.ty ≡ b → (not b || pointer_fits insts p.id a) ≡ true → (not (is_pointer insts p.ty) || pointer_fits insts p.id x) ≡ true
      by false e k = ap (λ (b : Bool). not b || pointer_fits insts p.id x) e
      by true e k =
          let passed = and_left (is_one_of (op.VARIABLE ∷ op.FUNCTION_PARAMETER ∷ []) (kind insts a)) (are_same (is_volatile insts p.id) (is_volatile insts a)) k in
          ap (λ (id : ℕ). not (is_pointer insts p.ty) || pointer_fits insts p.id id) (pointer_stays insts a x (typed_pointer p.ty a v e) passed g) ∙ h

  keeps_argument : (p : Parameter) (a x : ℕ) → Near insts a x → argument_fits insts p a ≡ true → argument_fits insts p x ≡ true
  unfolding argument_fits
  keeps_argument p a x g h =
      let value = and_left (is_value_of insts p.ty a) (not (is_pointer insts p.ty) || pointer_fits insts p.id a) h in
      keeps_and (is_value_of insts p.ty a) (not (is_pointer insts p.ty) || pointer_fits insts p.id a) _ _
      (λ k. same_value_of insts p.ty a x g ∙ k) (keeps_passed p a x g value) h

  -- induction on the parameters and the arguments
  keeps_each : (ps : List Parameter) (ids xs : List ℕ) → NearAll insts ids xs → list_all (λ pair. argument_fits insts pair.0 pair.1) (zip ps ids) ≡ true
      → list_all (λ pair. argument_fits insts pair.0 pair.1) (zip ps xs) ≡ true
  keeps_each ps [] xs n h = ap (λ (xs : List ℕ). list_all (λ pair. argument_fits insts pair.0 pair.1) (zip ps xs)) (none insts xs n) ∙ h
  keeps_each ps (a ∷ ids) [] n h = absurd n
  keeps_each [] (a ∷ ids) (x ∷ xs) n h = refl
  keeps_each (p ∷ ps) (a ∷ ids) (x ∷ xs) n h =
      keeps_and (argument_fits insts p a) (list_all (λ pair. argument_fits insts pair.0 pair.1) (zip ps ids)) _ _
      (keeps_argument p a x n.0) (keeps_each ps ids xs n.1) h

  keeps_arguments : (ps : List Parameter) (ids xs : List ℕ) → NearAll insts ids xs → arguments_fit insts ps ids ≡ true → arguments_fit insts ps xs ≡ true
  keeps_arguments ps ids xs n =
      keeps_and (length ps == length ids) (list_all (λ pair. argument_fits insts pair.0 pair.1) (zip ps ids)) _ _
      (λ h. ap (λ (m : ℕ). length ps == m) (near_length insts ids xs n) ∙ h) (keeps_each ps ids xs n)

  -- the callee is a function, and stays
  keeps_called : (f g : ℕ) (ids xs : List ℕ) → Near insts f g → NearAll insts ids xs → (names_function insts f && arguments_fit insts (parameters_of insts f) ids) ≡ true
      → (names_function insts g && arguments_fit insts (parameters_of insts g) xs) ≡ true
  keeps_called f g ids xs h n k =
      let is = and_left (names_function insts f) (arguments_fit insts (parameters_of insts f) ids) k in
      ap (λ (id : ℕ). names_function insts id && arguments_fit insts (parameters_of insts id) xs) (function_stays insts f g is h)
      ∙ keeps_and (names_function insts f) (arguments_fit insts (parameters_of insts f) ids) _ _ (λ e. e) (keeps_arguments (parameters_of insts f) ids xs n) k

  same_callee : (t f g : ℕ) → Near insts f g → (not (names_function insts g) || type_of insts g == t) ≡ (not (names_function insts f) || type_of insts f == t)
  same_callee t f g h = ap (λ (b : Bool). not b || type_of insts g == t) (same_names insts f g h) ∙ by (names_function insts f) refl
    where
      by : (b : Bool) → names_function insts f ≡ b → (not b || type_of insts g == t) ≡ (not b || type_of insts f == t)
      by true e = ap (λ (id : ℕ). type_of insts id == t) (function_stays insts f g e h)
      by false e = refl

keeps_or : (a b x y : Bool) → b ≡ a → (a ≡ true → x ≡ true → y ≡ true) → (not a || x) ≡ true → (not b || y) ≡ true
keeps_or true b x y e f h = ap (λ (b : Bool). not b || y) e ∙ f refl h
keeps_or false b x y e f h = ap (λ (b : Bool). not b || y) e

-- ---- by the instruction

module _ (c : Case) where
  abbrev at : ℕ → ℕ
  at k = slice_index c.words k

  abbrev put : ℕ → ℕ
  put k = slice_index c.others k

  near : (k : ℕ) → Near c.insts (at k) (put k)
  near k = near_at c.insts k c.words c.others (near_words c)

  is : (o : ℕ) → (opcode (as_instruction c.others) == o) ≡ (code c == o)
  is o = ap (λ (n : ℕ). n == o) (same_code c)

  pub keeps_call : call_fits c.insts (as_instruction c.words) ≡ true → call_fits c.insts (as_instruction c.others) ≡ true
  unfolding call_fits
  keeps_call =
      keeps_or (code c == op.FUNCTION_CALL) _ _ _ (is op.FUNCTION_CALL)
      (λ h. keeps_called c.insts (at 3) (put 3) (drop 4 c.words) (drop 4 c.others) (near 3) (near_drop c.insts 4 c.words c.others (near_words c)))

  pub same_function_result : result_fits c.insts None (as_instruction c.others) ≡ result_fits c.insts None (as_instruction c.words)
  unfolding result_fits row_of
  same_function_result =
      on _ _ _ _ _ _ (is op.FUNCTION) (λ h. absurd (true≢false (sym h ∙ c.replaces.inside)))
      (on _ _ _ _ _ _ (is op.FUNCTION_PARAMETER) (λ h. refl)
      (on _ _ _ _ _ _ (is op.FUNCTION_CALL)
      (λ h. ap (λ (t : ℕ). not (names_function c.insts (put 3)) || type_of c.insts (put 3) == t) (word c 0 op.FUNCTION_CALL refl h)
      ∙ same_callee c.insts (at 1) (at 3) (put 3) (near 3))
      refl))

  pub same_returns : (t : ℕ) → return_fits c.insts t (as_instruction c.others) ≡ return_fits c.insts t (as_instruction c.words)
  unfolding return_fits
  same_returns t =
      on _ _ _ _ _ _ (is op.RETURN) (λ h. refl)
      (on _ _ _ _ _ _ (is op.RETURN_VALUE) (λ h. ap (λ (b : Bool). not (is_void c.insts t) && b) (same_value_of c.insts t (at 1) (put 1) (near 1)))
      refl)
