-- Rules on storage classes, scopes and memory semantics are broken alike.
use Rattle.std.proofs.Common.{◌≡◌, ℕ, Bool, true, false, cond, ◌==◌, ◌&&◌, ◌||◌, not, nat_eq, List, [], ◌∷◌, drop, Option, None, refl, ap, ap₂, ◌∙◌}
use Rattle.std.specs.List.{slice_index}
use Rattle.std.specs.Option.{option_map_or}
use Rattle.spv_opcodes.specs.declared.op.TheConstants as op
use Rattle.spv_opcodes.specs.declared.storage_class.TheConstants as storage_class
use Rattle.spv_module.specs.Instruction.{Instruction, opcode}
use Rattle.spv_typing.specs.Kinds.{is_one_of, is_pointer, pointer_class, pointee}
use Rattle.spv_usage.specs.declared.stages.Stage.{Stage}
use Rattle.spv_usage.specs.Stages.{is_outside, is_opening}
use Rattle.spv_usage.specs.Storage.{class_fits, length_fits, initialiser_fits, variable_fits, class_of, store_fits, atomic_fits, asked_fits, storage_fits}
use Rattle.spv_usage.specs.Storage as storage
use Rattle.spv_usage.specs.Orderings.{known_integer, is_execution_scope, is_memory_scope, are_semantics, execution_fits, semantics_fit, access_fits, ordering_fits}
use Rattle.spv_alike.specs.Alike.{AreAlike}
use Rattle.spv_alike.proofs.Lookups.{by_one, same_runtime_array, same_ends_open, same_pointee, same_has_type, same_ints}
use Rattle.spv_alike.proofs.Guarded.{branch, and_on, same_class_of}

-- a variable's storage class fits only where its type is a pointer
of_pointer : (insts : List Instruction) (t class : ℕ) → class_fits insts t class ≡ true → is_pointer insts t ≡ true
of_pointer insts t class h = by (class == storage_class.FUNCTION) (is_pointer insts t) (pointer_class insts t == class) h
  where
    by : (a b c : Bool) → (a && (b && c)) ≡ true → b ≡ true
    by true true c e = refl
    by true false c e = e
    by false true c e = refl
    by false false c e = e

module _ (before after : List Instruction) (alike : AreAlike before after) where
  same_class_fits : (t class : ℕ) → class_fits after t class ≡ class_fits before t class
  same_class_fits t class =
      ap (λ (b : Bool). class == storage_class.FUNCTION && b)
      (by_one before after alike (λ k w ws. k == op.TYPE_POINTER && w 2 == class) false (λ w ws. (refl, refl, refl, refl)) t)

  same_length_fits : (t : ℕ) → length_fits after t ≡ length_fits before t
  same_length_fits t = ap₂ (λ (a b : Bool). not (a || b)) (same_runtime_array before after alike t) (same_ends_open before after alike t)

  same_initialiser : (t : ℕ) (ids : List ℕ) → initialiser_fits after t ids ≡ initialiser_fits before t ids
  same_initialiser t [] = refl
  same_initialiser t (id ∷ rest) = same_has_type before after alike t id

  same_variable : (t class : ℕ) (ids : List ℕ) → variable_fits after t class ids ≡ variable_fits before t class ids
  same_variable t class ids =
      and_on (class_fits after t class) (class_fits before t class) _ _ (same_class_fits t class)
      (λ h. ap (λ (u : ℕ). length_fits after u && initialiser_fits after u ids) (same_pointee before after alike t (of_pointer before t class h))
      ∙ ap₂ (λ (a b : Bool). a && b) (same_length_fits (pointee before t)) (same_initialiser (pointee before t) ids))

  same_store : (p : ℕ) → store_fits after p ≡ store_fits before p
  same_store p =
      ap (λ (o : Option ℕ). not (option_map_or (is_one_of (storage_class.INPUT ∷ storage_class.UNIFORM ∷ storage_class.PUSH_CONSTANT ∷ [])) o false))
      (same_class_of before after alike p)

  same_atomic : (p : ℕ) → atomic_fits after p ≡ atomic_fits before p
  same_atomic p =
      ap (λ (o : Option ℕ). option_map_or (is_one_of (storage_class.STORAGE_BUFFER ∷ storage_class.WORKGROUP ∷ [])) o true) (same_class_of before after alike p)

  same_asked : (p : ℕ) → asked_fits after p ≡ asked_fits before p
  same_asked p = ap (λ (o : Option ℕ). option_map_or (nat_eq storage_class.STORAGE_BUFFER) o true) (same_class_of before after alike p)

  pub same_storage : (stage : Stage) (i : Instruction) → storage_fits after stage i ≡ storage_fits before stage i
  unfolding storage_fits
  same_storage stage i =
      branch (opcode i == op.VARIABLE) _ _ _ _
      (ap (λ (b : Bool). is_outside stage || (is_opening stage && b)) (same_variable (slice_index i.words 1) (slice_index i.words 3) (drop 4 i.words)))
      (branch (opcode i == op.STORE) _ _ _ _ (same_store (slice_index i.words 1))
      (branch (opcode i == op.ARRAY_LENGTH) _ _ _ _ (same_asked (slice_index i.words 3))
      (branch (opcode i == op.ATOMIC_STORE) _ _ _ _ (same_atomic (slice_index i.words 1))
      (branch (is_one_of storage.atomics (opcode i)) _ _ _ _ (same_atomic (slice_index i.words 3))
      refl))))

  -- ---- scopes and semantics

  same_known_integer : (id : ℕ) → known_integer after id ≡ known_integer before id
  unfolding known_integer
  same_known_integer id = ap₂ (λ (b : Bool) (o : Option ℕ). cond b o None) (same_ints before after alike 1 id) (alike.known id 0)

  same_execution : (id : ℕ) → execution_fits after id ≡ execution_fits before id
  same_execution id = ap (λ (o : Option ℕ). option_map_or is_execution_scope o false) (same_known_integer id)

  same_access : (s m : ℕ) → access_fits after s m ≡ access_fits before s m
  same_access s m =
      ap₂ (λ (o p : Option ℕ). option_map_or is_memory_scope o false && option_map_or are_semantics p false) (same_known_integer s) (same_known_integer m)

  same_semantics : (m : ℕ) → semantics_fit after m ≡ semantics_fit before m
  same_semantics m = ap (λ (o : Option ℕ). option_map_or are_semantics o false) (same_known_integer m)

  pub same_ordering : (i : Instruction) → ordering_fits after i ≡ ordering_fits before i
  unfolding ordering_fits
  same_ordering i =
      branch (opcode i == op.CONTROL_BARRIER) _ _ _ _
      (ap₂ (λ (a b : Bool). a && b) (same_execution (slice_index i.words 1)) (same_access (slice_index i.words 2) (slice_index i.words 3)))
      (branch (opcode i == op.MEMORY_BARRIER) _ _ _ _ (same_access (slice_index i.words 1) (slice_index i.words 2))
      (branch (opcode i == op.ATOMIC_STORE) _ _ _ _ (same_access (slice_index i.words 2) (slice_index i.words 3))
      (branch (opcode i == op.ATOMIC_COMPARE_EXCHANGE) _ _ _ _
      (ap₂ (λ (a b : Bool). a && b) (same_access (slice_index i.words 4) (slice_index i.words 5)) (same_semantics (slice_index i.words 6)))
      (branch (is_one_of storage.atomics (opcode i)) _ _ _ _ (same_access (slice_index i.words 4) (slice_index i.words 5))
      refl))))
