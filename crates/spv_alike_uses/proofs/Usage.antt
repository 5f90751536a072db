-- Rules on storage classes, scopes and memory semantics are broken alike.
use Rattle.std.proofs.Common.{◌≡◌, ℕ, Bool, true, false, cond, ◌==◌, ◌&&◌, ◌||◌, not, nat_eq, List, [], ◌∷◌, drop, Option, None, refl, ap, ap₂, ◌∙◌}
use Rattle.std.specs.List.{AllByRecursion, slice_index}
use Rattle.std.specs.Option.{option_map_or}
use Rattle.spv_opcodes.specs.declared.op.TheConstants as op
use Rattle.spv_opcodes.specs.declared.storage_class.TheConstants as storage_class
use Rattle.spv_grammar.specs.Table.{row_of}
use Rattle.spv_module.specs.Instruction.{Instruction, opcode}
use Rattle.spv_typing.specs.Kinds.{is_one_of, is_pointer, pointer_class, pointee}
use Rattle.spv_usage.specs.declared.stages.Stage.{Stage}
use Rattle.spv_usage.specs.Stages.{is_outside, is_opening}
use Rattle.spv_usage.specs.Storage.{class_fits, length_fits, initialiser_fits, variable_fits, class_of, store_fits, atomic_fits, asked_fits, storage_fits}
use Rattle.spv_usage.specs.Storage as storage
use Rattle.spv_usage.specs.Orderings.{known_integer, is_execution_scope, is_memory_scope, are_semantics, execution_fits, semantics_fit, access_fits, ordering_fits}
use Rattle.spv_alike_uses.specs.Laws.{UsesWhatStays}
use Rattle.spv_alike_uses.proofs.Lookups.{Case, In, and_on, where_true, by_one, map_pointer, same_runtime_array, same_ends_open, same_pointer_class, same_pointee, pointee_stays, same_has_type, same_ints}
use Rattle.spv_alike_uses.proofs.Words.{word, words, one_word}

-- a variable's storage class fits only where its type is a pointer
of_pointer : (insts : List Instruction) (t class : ℕ) → class_fits insts t class ≡ true → is_pointer insts t ≡ true
of_pointer insts t class h = by (class == storage_class.FUNCTION) (is_pointer insts t) (pointer_class insts t == class) h
  where
    by : (a b c : Bool) → (a && (b && c)) ≡ true → b ≡ true
    by true true c e = refl
    by true false c e = e
    by false true c e = refl
    by false false c e = e

module _ (c : Case) where
  same_class_fits : (t class : ℕ) → In c t → class_fits c.after t class ≡ class_fits c.before t class
  same_class_fits t class g =
      ap (λ (b : Bool). class == storage_class.FUNCTION && b) (by_one c (λ test w ws. test op.TYPE_POINTER && w 2 == class) false (λ w ws. refl) t g)

  same_length_fits : (t : ℕ) → In c t → length_fits c.after t ≡ length_fits c.before t
  same_length_fits t g = ap₂ (λ (a b : Bool). not (a || b)) (same_runtime_array c t g) (same_ends_open c t g)

  same_initialiser : (t : ℕ) (ids : List ℕ) → AllByRecursion (In c) ids → initialiser_fits c.after t ids ≡ initialiser_fits c.before t ids
  same_initialiser t [] all = refl
  same_initialiser t (id ∷ rest) all = same_has_type c t id all.0

  same_variable : (t class : ℕ) (ids : List ℕ) → In c t → AllByRecursion (In c) ids → variable_fits c.after t class ids ≡ variable_fits c.before t class ids
  same_variable t class ids g all =
      and_on (class_fits c.after t class) (class_fits c.before t class) _ _ (same_class_fits t class g)
      (λ h. let is = of_pointer c.before t class h in
      ap (λ (u : ℕ). length_fits c.after u && initialiser_fits c.after u ids) (same_pointee c t g is)
      ∙ ap₂ (λ (a b : Bool). a && b) (same_length_fits (pointee c.before t) (pointee_stays c t g is)) (same_initialiser (pointee c.before t) ids all))

  same_class_of : (id : ℕ) → In c id → class_of c.after id ≡ class_of c.before id
  same_class_of = map_pointer c (pointer_class c.after) (pointer_class c.before) (same_pointer_class c)

  same_store : (p : ℕ) → In c p → store_fits c.after p ≡ store_fits c.before p
  same_store p g =
      ap (λ (o : Option ℕ). not (option_map_or (is_one_of (storage_class.INPUT ∷ storage_class.UNIFORM ∷ storage_class.PUSH_CONSTANT ∷ [])) o false))
      (same_class_of p g)

  same_atomic : (p : ℕ) → In c p → atomic_fits c.after p ≡ atomic_fits c.before p
  same_atomic p g =
      ap (λ (o : Option ℕ). option_map_or (is_one_of (storage_class.STORAGE_BUFFER ∷ storage_class.WORKGROUP ∷ [])) o true) (same_class_of p g)

  same_asked : (p : ℕ) → In c p → asked_fits c.after p ≡ asked_fits c.before p
  same_asked p g = ap (λ (o : Option ℕ). option_map_or (nat_eq storage_class.STORAGE_BUFFER) o true) (same_class_of p g)

  -- ---- scopes and semantics

  same_known_integer : (id : ℕ) → In c id → known_integer c.after id ≡ known_integer c.before id
  unfolding known_integer
  same_known_integer id g = ap₂ (λ (b : Bool) (o : Option ℕ). cond b o None) (same_ints c 1 id g) (c.alike.known id 0 g)

  same_execution : (id : ℕ) → In c id → execution_fits c.after id ≡ execution_fits c.before id
  same_execution id g = ap (λ (o : Option ℕ). option_map_or is_execution_scope o false) (same_known_integer id g)

  same_access : (s m : ℕ) → In c s → In c m → access_fits c.after s m ≡ access_fits c.before s m
  same_access s m gs gm =
      ap₂ (λ (o p : Option ℕ). option_map_or is_memory_scope o false && option_map_or are_semantics p false) (same_known_integer s gs) (same_known_integer m gm)

  same_semantics : (m : ℕ) → In c m → semantics_fit c.after m ≡ semantics_fit c.before m
  same_semantics m g = ap (λ (o : Option ℕ). option_map_or are_semantics o false) (same_known_integer m g)

  -- ---- by the instruction

  module _ (i : Instruction) (uses : UsesWhatStays c.gone i) where
    pub same_storage : (stage : Stage) → storage_fits c.after stage i ≡ storage_fits c.before stage i
    unfolding storage_fits row_of
    same_storage stage =
        where_true (opcode i == op.VARIABLE) _ _ _ _
        (λ h. ap (λ (b : Bool). is_outside stage || (is_opening stage && b))
        (same_variable (slice_index i.words 1) (slice_index i.words 3) (drop 4 i.words) (word c i uses 0 op.VARIABLE refl h) (words c i uses 3 op.VARIABLE refl h)))
        (where_true (opcode i == op.STORE) _ _ _ _ (λ h. same_store (slice_index i.words 1) (word c i uses 0 op.STORE refl h))
        (where_true (opcode i == op.ARRAY_LENGTH) _ _ _ _ (λ h. same_asked (slice_index i.words 3) (word c i uses 2 op.ARRAY_LENGTH refl h))
        (where_true (opcode i == op.ATOMIC_STORE) _ _ _ _ (λ h. same_atomic (slice_index i.words 1) (word c i uses 0 op.ATOMIC_STORE refl h))
        (where_true (is_one_of storage.atomics (opcode i)) _ _ _ _ (λ h. same_atomic (slice_index i.words 3) (one_word c i uses 2 storage.atomics refl h))
        refl))))

    pub same_ordering : ordering_fits c.after i ≡ ordering_fits c.before i
    unfolding ordering_fits row_of
    same_ordering =
        where_true (opcode i == op.CONTROL_BARRIER) _ _ _ _
        (λ h. ap₂ (λ (a b : Bool). a && b) (same_execution (slice_index i.words 1) (word c i uses 0 op.CONTROL_BARRIER refl h))
        (same_access (slice_index i.words 2) (slice_index i.words 3) (word c i uses 1 op.CONTROL_BARRIER refl h) (word c i uses 2 op.CONTROL_BARRIER refl h)))
        (where_true (opcode i == op.MEMORY_BARRIER) _ _ _ _
        (λ h. same_access (slice_index i.words 1) (slice_index i.words 2) (word c i uses 0 op.MEMORY_BARRIER refl h) (word c i uses 1 op.MEMORY_BARRIER refl h))
        (where_true (opcode i == op.ATOMIC_STORE) _ _ _ _
        (λ h. same_access (slice_index i.words 2) (slice_index i.words 3) (word c i uses 1 op.ATOMIC_STORE refl h) (word c i uses 2 op.ATOMIC_STORE refl h))
        (where_true (opcode i == op.ATOMIC_COMPARE_EXCHANGE) _ _ _ _
        (λ h. ap₂ (λ (a b : Bool). a && b)
        (same_access (slice_index i.words 4) (slice_index i.words 5)
        (word c i uses 3 op.ATOMIC_COMPARE_EXCHANGE refl h) (word c i uses 4 op.ATOMIC_COMPARE_EXCHANGE refl h))
        (same_semantics (slice_index i.words 6) (word c i uses 5 op.ATOMIC_COMPARE_EXCHANGE refl h)))
        (where_true (is_one_of storage.atomics (opcode i)) _ _ _ _
        (λ h. same_access (slice_index i.words 4) (slice_index i.words 5) (one_word c i uses 3 storage.atomics refl h) (one_word c i uses 4 storage.atomics refl h))
        refl))))
