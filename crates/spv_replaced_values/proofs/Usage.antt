-- Storage classes, scopes and memory semantics fit where they fit before values are replaced.
use Rattle.std.proofs.Common.{◌≡◌, ℕ, Bool, true, false, ◌==◌, ◌&&◌, ◌||◌, not, nat_eq, List, [], ◌∷◌, drop, Option, Some, None, refl, sym, ap, ap₂, ◌∙◌, true≢false}
use Rattle.std.specs.List.{slice_index}
use Rattle.std.specs.Option.{option_map, option_map_or}
use Rattle.spv_opcodes.specs.declared.op.TheConstants as op
use Rattle.spv_opcodes.specs.declared.storage_class.TheConstants as storage_class
use Rattle.spv_grammar.specs.Table.{row_of}
use Rattle.spv_module.specs.Instruction.{Instruction, opcode}
use Rattle.spv_typing.specs.Kinds.{has_type, is_constant, is_one_of, pointee, pointer_class, type_of}
use Rattle.spv_declarations.specs.Laws.{IsUnbroken}
use Rattle.spv_usage.specs.declared.stages.Stage.{Stage}
use Rattle.spv_usage.specs.Stages.{is_opening, is_outside}
use Rattle.spv_usage.specs.Storage.{asked_fits, atomic_fits, class_fits, class_of, initialiser_fits, length_fits, storage_fits, store_fits, variable_fits}
use Rattle.spv_usage.specs.Storage as storage
use Rattle.spv_usage.specs.Orderings.{access_fits, are_semantics, execution_fits, is_execution_scope, is_memory_scope, known_integer, ordering_fits, scope_fits, semantics_fit}
use Rattle.spv_alike.proofs.Lookups.{and_left}
use Rattle.spv_typed_trees.specs.Typed.{as_instruction}
use Rattle.spv_replaced_values.proofs.Standing.{Near, NearAll, constant_stays, cut, known_stays, near_at, near_drop, none, same_pointer}
use Rattle.spv_replaced_values.proofs.Fixed.{Case, code, near_words, same_code, word}
use Rattle.spv_replaced_values.proofs.Keeping.{keeps_and, keeps_on}

module _ (insts : List Instruction) where
  same_class_of : (x y : ℕ) → Near insts x y → class_of insts y ≡ class_of insts x
  same_class_of x y h = ap (λ (o : Option ℕ). option_map (pointer_class insts) o) (same_pointer insts x y h)

  same_store : (x y : ℕ) → Near insts x y → store_fits insts y ≡ store_fits insts x
  same_store x y h =
      ap (λ (o : Option ℕ). not (option_map_or (is_one_of (storage_class.INPUT ∷ storage_class.UNIFORM ∷ storage_class.PUSH_CONSTANT ∷ [])) o false))
      (same_class_of x y h)

  same_atomic : (x y : ℕ) → Near insts x y → atomic_fits insts y ≡ atomic_fits insts x
  same_atomic x y h =
      ap (λ (o : Option ℕ). option_map_or (is_one_of (storage_class.STORAGE_BUFFER ∷ storage_class.WORKGROUP ∷ [])) o true) (same_class_of x y h)

  same_asked : (x y : ℕ) → Near insts x y → asked_fits insts y ≡ asked_fits insts x
  same_asked x y h = ap (λ (o : Option ℕ). option_map_or (nat_eq storage_class.STORAGE_BUFFER) o true) (same_class_of x y h)

  -- an initialiser is a constant, and stays
  keeps_initialiser : (t : ℕ) (ids others : List ℕ) → NearAll insts ids others → initialiser_fits insts t ids ≡ true → initialiser_fits insts t others ≡ true
  keeps_initialiser t [] others n h = ap (initialiser_fits insts t) (none insts others n)
  keeps_initialiser t (id ∷ rest) others n h =
      let p = cut insts id rest others n in
      ap (initialiser_fits insts t) p.is
      ∙ ap (has_type insts t) (constant_stays insts id p.word (and_left (is_constant insts id) (type_of insts id == t) h) p.near) ∙ h

  keeps_variable : (t class : ℕ) (ids others : List ℕ) → NearAll insts ids others → variable_fits insts t class ids ≡ true → variable_fits insts t class others ≡ true
  keeps_variable t class ids others n =
      keeps_and (class_fits insts t class) (length_fits insts (pointee insts t) && initialiser_fits insts (pointee insts t) ids) _ _ (λ h. h)
      (keeps_and (length_fits insts (pointee insts t)) (initialiser_fits insts (pointee insts t) ids) _ _ (λ h. h)
      (keeps_initialiser (pointee insts t) ids others n))

  keeps_stage : (a b x y : Bool) → (x ≡ true → y ≡ true) → (a || (b && x)) ≡ true → (a || (b && y)) ≡ true
  keeps_stage true b x y f h = refl
  keeps_stage false b x y f h = keeps_and b x b y (λ h. h) f h

  -- ---- scopes and semantics are constants, and stay

  module _ (u : IsUnbroken insts) where
    keeps_known : (f : ℕ → Bool) (x y : ℕ) → Near insts x y → option_map_or f (known_integer insts x) false ≡ true → option_map_or f (known_integer insts y) false ≡ true
    keeps_known f x y g h = by (known_integer insts x) refl h
      where
        by : (o : Option ℕ) → known_integer insts x ≡ o → option_map_or f o false ≡ true → option_map_or f (known_integer insts y) false ≡ true
        by None e k = absurd (true≢false (sym k))
        by (Some w) e k = ap (λ (id : ℕ). option_map_or f (known_integer insts id) false) (known_stays insts u x y w e g) ∙ h

    keeps_access : (s m x y : ℕ) → Near insts s x → Near insts m y → access_fits insts s m ≡ true → access_fits insts x y ≡ true
    keeps_access s m x y g h =
        keeps_and (scope_fits insts s) (semantics_fit insts m) _ _ (keeps_known is_memory_scope s x g) (keeps_known are_semantics m y h)

-- ---- by the instruction

module _ (c : Case) where
  abbrev at : ℕ → ℕ
  at k = slice_index c.words k

  abbrev put : ℕ → ℕ
  put k = slice_index c.others k

  near : (k : ℕ) → Near c.insts (at k) (put k)
  near k = near_at c.insts k c.words c.others (near_words c)

  is : (o : ℕ) → (opcode (as_instruction c.others) == o) ≡ (code c == o)
  is o = ap (λ (n : ℕ). n == o) (same_code c)

  atomic : is_one_of storage.atomics (opcode (as_instruction c.others)) ≡ is_one_of storage.atomics (code c)
  atomic = ap (is_one_of storage.atomics) (same_code c)

  pub keeps_storage : (stage : Stage) → storage_fits c.insts stage (as_instruction c.words) ≡ true → storage_fits c.insts stage (as_instruction c.others) ≡ true
  unfolding storage_fits row_of
  keeps_storage stage =
      keeps_on _ _ _ _ _ _ (is op.VARIABLE)
      (λ h k. ap₂ (λ (t class : ℕ). is_outside stage || (is_opening stage && variable_fits c.insts t class (drop 4 c.others)))
      (word c 0 op.VARIABLE refl h) (word c 2 op.VARIABLE refl h)
      ∙ keeps_stage c.insts (is_outside stage) (is_opening stage) _ _
      (keeps_variable c.insts (at 1) (at 3) (drop 4 c.words) (drop 4 c.others) (near_drop c.insts 4 c.words c.others (near_words c))) k)
      (keeps_on _ _ _ _ _ _ (is op.STORE) (λ h k. same_store c.insts (at 1) (put 1) (near 1) ∙ k)
      (keeps_on _ _ _ _ _ _ (is op.ARRAY_LENGTH) (λ h k. same_asked c.insts (at 3) (put 3) (near 3) ∙ k)
      (keeps_on _ _ _ _ _ _ (is op.ATOMIC_STORE) (λ h k. same_atomic c.insts (at 1) (put 1) (near 1) ∙ k)
      (keeps_on _ _ _ _ _ _ atomic (λ h k. same_atomic c.insts (at 3) (put 3) (near 3) ∙ k)
      (λ h. h)))))

  pub keeps_ordering : IsUnbroken c.insts → ordering_fits c.insts (as_instruction c.words) ≡ true → ordering_fits c.insts (as_instruction c.others) ≡ true
  unfolding ordering_fits
  keeps_ordering u =
      keeps_on _ _ _ _ _ _ (is op.CONTROL_BARRIER)
      (λ h. keeps_and (execution_fits c.insts (at 1)) (access_fits c.insts (at 2) (at 3)) _ _ (keeps_known c.insts u is_execution_scope (at 1) (put 1) (near 1))
      (keeps_access c.insts u (at 2) (at 3) (put 2) (put 3) (near 2) (near 3)))
      (keeps_on _ _ _ _ _ _ (is op.MEMORY_BARRIER) (λ h. keeps_access c.insts u (at 1) (at 2) (put 1) (put 2) (near 1) (near 2))
      (keeps_on _ _ _ _ _ _ (is op.ATOMIC_STORE) (λ h. keeps_access c.insts u (at 2) (at 3) (put 2) (put 3) (near 2) (near 3))
      (keeps_on _ _ _ _ _ _ (is op.ATOMIC_COMPARE_EXCHANGE)
      (λ h. keeps_and (access_fits c.insts (at 4) (at 5)) (semantics_fit c.insts (at 6)) _ _
      (keeps_access c.insts u (at 4) (at 5) (put 4) (put 5) (near 4) (near 5)) (keeps_known c.insts u are_semantics (at 6) (put 6) (near 6)))
      (keeps_on _ _ _ _ _ _ atomic (λ h. keeps_access c.insts u (at 4) (at 5) (put 4) (put 5) (near 4) (near 5))
      (λ h. h)))))
