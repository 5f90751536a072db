-- What is kept while instructions are looked through: the keys of those that were seen.
use Rattle.std.specs.Prelude.{◌≡◌, ℕ, Bool, false, ◌==◌, ◌&&◌, ◌||◌, nat_eq, List, [], ◌∷◌, ◌++◌, drop, slice_index, Option, Some, None}
use Rattle.std.specs.Global.{Vec}
use Rattle.std.specs.declared.cmp.Ordering.{Ordering}
use Rattle.std.specs.BTreeSet.{BTreeSet, contains}
use Rattle.std.specs.Cmp.Lexicographic.{pointwise, slice_cmp}
use Rattle.std.specs.List.{list_any}
use Rattle.std.specs.Ordering.{eq_by_cmp, nat_cmp, ordering_then}
use Rattle.spv_module.specs.Instruction.{Instruction, opcode}
use Rattle.spv_repeats.specs.declared.decorations.Decorations.{Decorations}
use Rattle.spv_repeats.specs.Repeats.{is_unique_type, is_decorate, is_member_decorate, is_spec_id, is_workgroup_size}

-- a test holds of the key, if there is one
abbrev pub is_some_and : {K : Type 0} → (K → Bool) → Option K → Bool
is_some_and test None = false
is_some_and test (Some key) = test key

-- adding a key to a set, if there is one: whether it was there
pub record Adds {K : Type 0} (cmp : K → K → Ordering) (old new : BTreeSet K) (key : Option K) (answer : Bool) : Type 0 where
  pub known : answer ≡ is_some_and (contains cmp old) key
  pub keys : (q : K) → contains cmp new q ≡ (contains cmp old q || is_some_and (eq_by_cmp cmp q) key)

-- the set has the keys of these instructions
pub record HasKeys {K : Type 0} (cmp : K → K → Ordering) (is_key_of : K → Instruction → Bool) (set : BTreeSet K) (insts : List Instruction) : Type 0 where
  pub has : (key : K) → contains cmp set key ≡ list_any (is_key_of key) insts

-- what is kept of the instructions before is kept of one more, and the answer is a test's on it and those before it
pub record Follows {S : Type 0} (Keeps : S → List Instruction → Type 0) (test : List Instruction → Instruction → Bool) (old new : S) (i : Instruction) (answer : Bool) : Type 0 where
  pub answers : (before : List Instruction) → Keeps old before → answer ≡ test before i
  pub kept : (before : List Instruction) → Keeps old before → Keeps new (before ++ i ∷ [])

-- ---- types

-- the opcode, and the words behind the result
abbrev pub type_words : Instruction → List ℕ
type_words i = opcode i ∷ drop 2 i.words

abbrev pub is_type : Vec ℕ → Instruction → Bool
is_type key j = is_unique_type j && pointwise nat_eq key.items (type_words j)

abbrev pub vec_cmp : Vec ℕ → Vec ℕ → Ordering
vec_cmp x y = slice_cmp nat_cmp x.items y.items

abbrev pub HasTypes : BTreeSet (Vec ℕ) → List Instruction → Type 0
HasTypes = HasKeys vec_cmp is_type

-- ---- decorations

abbrev pub pair_cmp : ℕ × ℕ → ℕ × ℕ → Ordering
pair_cmp x y = ordering_then (nat_cmp x.0 y.0) (nat_cmp x.1 y.1)

abbrev pub triple_cmp : ℕ × ℕ × ℕ → ℕ × ℕ × ℕ → Ordering
triple_cmp x y = ordering_then (ordering_then (nat_cmp x.0 y.0) (nat_cmp x.1 y.1)) (nat_cmp x.2 y.2)

-- the target and the decoration; the struct, the member and the decoration; the SpecId
abbrev pub is_on_target : ℕ × ℕ → Instruction → Bool
is_on_target key j = is_decorate j && (key.0 == slice_index j.words 1 && key.1 == slice_index j.words 2)

abbrev pub is_on_member : ℕ × ℕ × ℕ → Instruction → Bool
is_on_member key j = is_member_decorate j && (key.0 == slice_index j.words 1 && key.1 == slice_index j.words 2 && key.2 == slice_index j.words 3)

abbrev pub is_with_id : ℕ → Instruction → Bool
is_with_id key j = is_spec_id j && key == slice_index j.words 3

abbrev pub HasTargets : BTreeSet (ℕ × ℕ) → List Instruction → Type 0
HasTargets = HasKeys pair_cmp is_on_target

abbrev pub HasMembers : BTreeSet (ℕ × ℕ × ℕ) → List Instruction → Type 0
HasMembers = HasKeys triple_cmp is_on_member

abbrev pub HasSpecIds : BTreeSet ℕ → List Instruction → Type 0
HasSpecIds = HasKeys nat_cmp is_with_id

-- whether the workgroup size is among them
abbrev pub HasWorkgroupSize : Bool → List Instruction → Type 0
HasWorkgroupSize known insts = known ≡ list_any is_workgroup_size insts

pub record HasDecorations (seen : Decorations) (insts : List Instruction) : Type 0 where
  pub targets : HasTargets seen.targets insts
  pub members : HasMembers seen.members insts
  pub spec_ids : HasSpecIds seen.spec_ids insts
  pub workgroup_size : HasWorkgroupSize seen.workgroup_size insts
