-- In a module that breaks no rule, and uses no label as a value, each id that an instruction uses as a value is defined in one that is alike.
use Rattle.std.proofs.Common.{◌≡◌, ◌≢◌, ℕ, suc, ◌<◌, Bool, true, false, List, [], ◌∷◌, take, Some, None, refl, arith}
use Rattle.std.specs.List.{AllByRecursion, Contains, slice_get}
use Rattle.spv_opcodes.specs.declared.op.TheConstants as op
use Rattle.spv_module.specs.Code.{is_line}
use Rattle.spv_module.specs.First.{first}
use Rattle.spv_module.specs.Instruction.{Instruction, opcode}
use Rattle.spv_ids.specs.Ids.{is_declaration, is_defined, kind, used_ids}
use Rattle.spv_typing.specs.Kinds.{is_one_of}
use Rattle.spv_values.specs.Values.{value_type}
use Rattle.spv_declarations.specs.Broken.{group_3}
use Rattle.spv_declarations.specs.Declarations.{declared_before}
use Rattle.spv_declarations.proofs.Modules.{unbroken}
use Rattle.spv_walk.proofs.Unique.{false_equal}
use Rattle.spv_norm_declarations.proofs.Defined.{IsFormed, stays_defined}
use Rattle.spv_norm_declarations.proofs.Lookups.{LooksAlike}
use Rattle.spv_norm_declarations.proofs.Outside.{Knows, known_all}
use Rattle.spv_norm_declarations.proofs.Rules.{KeepsAll, keeps_all}
use Rattle.spv_norm_declarations.proofs.Uses.{values, values_all}

pub all_contained : (P : ℕ → Type 0) (xs : List ℕ) → ((x : ℕ) → Contains xs x → P x) → AllByRecursion P xs
all_contained P [] h = tt
all_contained P (x ∷ xs) h = (h x (0, omega arith, refl), all_contained P xs (λ y c. h y (suc c.0, (let less = c.1 in omega (arith, less)), c.2)))

pub all_numbered : (P : Instruction → Type 0) (is : List Instruction) → ((k : ℕ) (i : Instruction) → slice_get is k ≡ Some i → P i) → AllByRecursion P is
all_numbered P [] h = tt
all_numbered P (i ∷ is) h = (h 0 i refl, all_numbered P is (λ k j e. h (suc k) j e))

-- instructions that say what any id is called, or in which file a source or a line is
abbrev pub naming : List ℕ
naming = op.NAME ∷ op.MEMBER_NAME ∷ op.SOURCE ∷ op.LINE ∷ []

-- no other instruction uses a label as a value
abbrev pub NoLabelValues : List Instruction → Type 0
NoLabelValues insts =
    (k : ℕ) (i : Instruction) → slice_get insts k ≡ Some i → is_one_of naming (opcode i) ≡ false → (id : ℕ) → Contains (values i) id
    → kind insts id ≢ op.LABEL

module _ (insts again : List Instruction) (alike : LooksAlike insts again) (types : (id : ℕ) → value_type again id ≡ value_type insts id)
    (formed : AllByRecursion IsFormed insts) (clean : first (group_3 insts) ≡ None) where
  abbrev pub IsThere : ℕ → Type 0
  IsThere id = is_defined again id ≡ true

  abbrev pub IsKnown : ℕ → Type 0
  IsKnown id = is_defined insts id ≡ true

  only_known : (early : Bool) (before : List Instruction) (ids : List ℕ) → AllByRecursion (Knows insts early before) ids → AllByRecursion IsKnown ids
  only_known early before [] h = tt
  only_known early before (id ∷ ids) h = (h.0.0, only_known early before ids h.1)

  -- what an instruction names is defined
  pub known_at : (k : ℕ) (i : Instruction) → slice_get insts k ≡ Some i → is_line i ≡ false → AllByRecursion IsKnown (used_ids i)
  known_at k i at plain =
      let below : k < suc k = omega arith in
      let d = declared_before insts k in
      let keeps : KeepsAll insts d k i = keeps_all insts d k i plain (unbroken insts (suc k) clean k i below at) in
      only_known (is_declaration d.begun i) (take k insts) (used_ids i) (known_all insts (is_declaration d.begun i) (take k insts)
      (used_ids i) keeps.kept.known)

  pub all_known_at : AllByRecursion (λ i. is_line i ≡ false → AllByRecursion IsKnown (used_ids i)) insts
  all_known_at = all_numbered (λ i. is_line i ≡ false → AllByRecursion IsKnown (used_ids i)) insts known_at

  there_all : (ids : List ℕ) → AllByRecursion IsKnown ids → AllByRecursion (λ id. kind insts id ≢ op.LABEL) ids → AllByRecursion IsThere ids
  there_all [] h g = tt
  there_all (id ∷ ids) h g =
      (stays_defined insts again alike types formed id h.0 (false_equal (kind insts id) op.LABEL g.0), there_all ids h.1 g.1)

  pub values_at : NoLabelValues insts → (k : ℕ) (i : Instruction) → slice_get insts k ≡ Some i → IsFormed i → is_line i ≡ false → is_one_of naming
      (opcode i) ≡ false
      → AllByRecursion IsThere (values i)
  values_at free k i at whole plain names =
      there_all (values i) (values_all IsKnown i whole (known_at k i at plain))
      (all_contained (λ id. kind insts id ≢ op.LABEL) (values i) (λ id c. free k i at names id c))

  pub all_values_at : NoLabelValues insts → AllByRecursion (λ i. IsFormed i → is_line i ≡ false → is_one_of naming (opcode i) ≡ false
      → AllByRecursion IsThere (values i)) insts
  all_values_at free =
      all_numbered (λ i. IsFormed i → is_line i ≡ false → is_one_of naming (opcode i) ≡ false → AllByRecursion IsThere (values i)) insts (values_at free)
