-- 306 BadDecoration, but for what stands twice: each decoration stands on a target that takes it.
use Rattle.std.specs.Prelude.{ℕ, Bool, true, cond, ◌==◌, ◌&&◌, ◌||◌, nat_lt, List, [], ◌∷◌, length, slice_index}
use Rattle.spv_opcodes.specs.declared.op.TheConstants as op
use Rattle.spv_opcodes.specs.declared.decoration.TheConstants as decoration
use Rattle.spv_opcodes.specs.declared.builtin.TheConstants as builtin
use Rattle.spv_opcodes.specs.declared.storage_class.TheConstants as storage_class
use Rattle.spv_module.specs.Instruction.{Instruction, opcode}
use Rattle.spv_ids.specs.Ids.{kind}
use Rattle.spv_typing.specs.Kinds.{is_one_of, is_array, is_runtime_array, is_struct, is_triple, members, is_constant, type_of, is_variable_of}

-- how a memory is used: on variables, parameters and members of structs
abbrev pub memory_decorations : List ℕ
memory_decorations =
    decoration.RESTRICT ∷ decoration.ALIASED ∷ decoration.VOLATILE ∷ decoration.COHERENT ∷ decoration.NON_WRITABLE ∷ decoration.NON_READABLE ∷ []

-- WorkgroupSize stands on a constant that is a vector of three integers, every other built-in on an Input variable
abbrev pub builtin_suits : List Instruction → (target builtin : ℕ) → Bool
builtin_suits insts target b =
    cond (b == builtin.WORKGROUP_SIZE)
    (is_constant insts target && is_triple insts (type_of insts target))
    (is_variable_of insts storage_class.INPUT target)

-- a target takes a decoration, behind which the literal stands
abbrev pub suits : List Instruction → (target decoration literal : ℕ) → Bool
suits insts target d literal =
    cond (d == decoration.SPEC_ID) (is_one_of (op.SPEC_CONSTANT_TRUE ∷ op.SPEC_CONSTANT_FALSE ∷ op.SPEC_CONSTANT ∷ []) (kind insts target))
    (cond (d == decoration.BLOCK) (is_struct insts target)
    (cond (d == decoration.ARRAY_STRIDE) (is_array insts target || is_runtime_array insts target)
    (cond (d == decoration.BUILTIN) (builtin_suits insts target literal)
    (cond (d == decoration.BINDING || d == decoration.DESCRIPTOR_SET)
    (is_variable_of insts storage_class.UNIFORM target || is_variable_of insts storage_class.STORAGE_BUFFER target)
    (is_one_of memory_decorations d && is_one_of (op.VARIABLE ∷ op.FUNCTION_PARAMETER ∷ []) (kind insts target))))))

-- a member of a struct takes an Offset, and how its memory is used
abbrev pub suits_member : List Instruction → (target member decoration : ℕ) → Bool
suits_member insts target member d =
    is_one_of (decoration.OFFSET ∷ memory_decorations) d && (is_struct insts target && nat_lt member (length (members insts target)))

-- a decoration stands on a target that takes it; every other instruction passes
unfoldable pub decoration_fits : List Instruction → Instruction → Bool
decoration_fits insts i =
    cond (opcode i == op.DECORATE) (suits insts (slice_index i.words 1) (slice_index i.words 2) (slice_index i.words 3))
    (cond (opcode i == op.MEMBER_DECORATE) (suits_member insts (slice_index i.words 1) (slice_index i.words 2) (slice_index i.words 3))
    true)
