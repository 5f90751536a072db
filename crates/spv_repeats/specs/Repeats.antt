-- What may stand once in a module and stands again: types (303 BadType), and decorations (306 BadDecoration).
use Rattle.std.specs.Prelude.{ℕ, Bool, ◌==◌, ◌&&◌, ◌||◌, nat_eq, List, [], ◌∷◌, take, drop, slice_index}
use Rattle.std.specs.List.{list_any}
use Rattle.std.specs.Cmp.Lexicographic.{pointwise}
use Rattle.spv_opcodes.specs.declared.op.TheConstants as op
use Rattle.spv_opcodes.specs.declared.decoration.TheConstants as decoration
use Rattle.spv_opcodes.specs.declared.builtin.TheConstants as builtin
use Rattle.spv_module.specs.Instruction.{Instruction, opcode}

abbrev pub is_one_of : List ℕ → ℕ → Bool
is_one_of xs x = list_any (nat_eq x) xs

-- ---- types

-- types of which there is one of each kind: void, bool, int, vector and function types
abbrev pub unique_types : List ℕ
unique_types = op.TYPE_VOID ∷ op.TYPE_BOOL ∷ op.TYPE_INT ∷ op.TYPE_VECTOR ∷ op.TYPE_FUNCTION ∷ []

abbrev pub is_unique_type : Instruction → Bool
is_unique_type i = is_one_of unique_types (opcode i)

-- the same instruction but for its result
abbrev pub is_same_type : Instruction → Instruction → Bool
is_same_type i j = opcode i == opcode j && pointwise nat_eq (drop 2 i.words) (drop 2 j.words)

-- such a type occurs among those before
abbrev pub occurs : (before : List Instruction) → Instruction → Bool
occurs before i = is_unique_type i && list_any (is_same_type i) before

-- such a type occurs before the k-th instruction
abbrev pub occurs_before : List Instruction → (k : ℕ) → Instruction → Bool
occurs_before insts k i = occurs (take k insts) i

-- ---- decorations: OpDecorate has its target, the decoration and a literal as its words 1 to 3; OpMemberDecorate its struct, the member, the
-- decoration and a literal as its words 1 to 4

-- decorations of which there is one on a target or member
abbrev pub single_decorations : List ℕ
single_decorations = decoration.OFFSET ∷ decoration.ARRAY_STRIDE ∷ decoration.SPEC_ID ∷ decoration.BUILTIN ∷ decoration.BINDING ∷ decoration.DESCRIPTOR_SET ∷ []

abbrev pub is_decorate : Instruction → Bool
is_decorate i = opcode i == op.DECORATE

abbrev pub is_member_decorate : Instruction → Bool
is_member_decorate i = opcode i == op.MEMBER_DECORATE

abbrev pub is_spec_id : Instruction → Bool
is_spec_id i = is_decorate i && slice_index i.words 2 == decoration.SPEC_ID

abbrev pub is_workgroup_size : Instruction → Bool
is_workgroup_size i = is_decorate i && (slice_index i.words 2 == decoration.BUILTIN && slice_index i.words 3 == builtin.WORKGROUP_SIZE)

-- the second is the same decoration on the same target, on the same member, and the same SpecId
abbrev pub is_same_decoration : Instruction → Instruction → Bool
is_same_decoration i j = is_decorate j && (slice_index i.words 1 == slice_index j.words 1 && slice_index i.words 2 == slice_index j.words 2)

abbrev pub is_same_member_decoration : Instruction → Instruction → Bool
is_same_member_decoration i j =
    is_member_decorate j && (slice_index i.words 1 == slice_index j.words 1 && slice_index i.words 2 == slice_index j.words 2 && slice_index i.words 3 == slice_index j.words 3)

abbrev pub is_same_spec_id : Instruction → Instruction → Bool
is_same_spec_id i j = is_spec_id j && slice_index i.words 3 == slice_index j.words 3

-- it stands before on its target, on its member, on any target, and anywhere
abbrev pub repeats_on_target : (before : List Instruction) → Instruction → Bool
repeats_on_target before i = is_decorate i && list_any (is_same_decoration i) before && is_one_of single_decorations (slice_index i.words 2)

abbrev pub repeats_on_member : (before : List Instruction) → Instruction → Bool
repeats_on_member before i = is_member_decorate i && list_any (is_same_member_decoration i) before && is_one_of single_decorations (slice_index i.words 3)

abbrev pub repeats_spec_id : (before : List Instruction) → Instruction → Bool
repeats_spec_id before i = is_spec_id i && list_any (is_same_spec_id i) before

abbrev pub repeats_workgroup_size : (before : List Instruction) → Instruction → Bool
repeats_workgroup_size before i = is_workgroup_size i && list_any is_workgroup_size before

-- a decoration that may stand once on its target, a SpecId, or the workgroup size, stands among those before too
abbrev pub repeats : (before : List Instruction) → Instruction → Bool
repeats before i = repeats_on_target before i || repeats_on_member before i || repeats_spec_id before i || repeats_workgroup_size before i

-- it stands before the k-th instruction too
abbrev pub repeats_before : List Instruction → (k : ℕ) → Instruction → Bool
repeats_before insts k i = repeats (take k insts) i
