-- The enumerants and masks that the profile has.
use Rattle.std.specs.Prelude.{ℕ, ◌+◌, Bool, ◌==◌, not, List, [], ◌∷◌, Option, Some, None, bit_and, if◌then◌else◌}
use Rattle.std.specs.List.{list_any}
use Rattle.spv_grammar.specs.declared.kind.Enumerant.{Enumerant}
use Rattle.spv_grammar.specs.declared.kind.Enumerant.TheVariants.{Capability, AddressingModel, MemoryModel, ExecutionModel, LiteralMode, IdMode, StorageClass, FunctionControl, LoopControl, SelectionControl}
use Rattle.spv_opcodes.specs.declared.addressing_model.TheConstants as addressing_model
use Rattle.spv_opcodes.specs.declared.builtin.TheConstants as builtin
use Rattle.spv_opcodes.specs.declared.capability.TheConstants as capability
use Rattle.spv_opcodes.specs.declared.decoration.TheConstants as decoration
use Rattle.spv_opcodes.specs.declared.execution_mode.TheConstants as execution_mode
use Rattle.spv_opcodes.specs.declared.execution_model.TheConstants as execution_model
use Rattle.spv_opcodes.specs.declared.ext.TheConstants as ext
use Rattle.spv_opcodes.specs.declared.function_control.TheConstants as function_control
use Rattle.spv_opcodes.specs.declared.loop_control.TheConstants as loop_control
use Rattle.spv_opcodes.specs.declared.memory_model.TheConstants as memory_model
use Rattle.spv_opcodes.specs.declared.memory_operand.TheConstants as memory_operand
use Rattle.spv_opcodes.specs.declared.selection_control.TheConstants as selection_control
use Rattle.spv_opcodes.specs.declared.storage_class.TheConstants as storage_class

-- one of these numbers
abbrev pub is_one_of : List ℕ → ℕ → Bool
is_one_of xs w = list_any (λ x. w == x) xs

-- no bit is set but those of `bits`
abbrev pub has_only : ℕ → ℕ → Bool
has_only bits w = bit_and w bits == w

abbrev pub is_known : Enumerant → ℕ → Bool
is_known Capability w = w == capability.SHADER
is_known AddressingModel w = w == addressing_model.LOGICAL
is_known MemoryModel w = w == memory_model.GLSL450
is_known ExecutionModel w = w == execution_model.GL_COMPUTE
is_known LiteralMode w = w == execution_mode.LOCAL_SIZE
is_known IdMode w = w == execution_mode.LOCAL_SIZE_ID
is_known StorageClass w = is_one_of (storage_class.INPUT ∷ storage_class.UNIFORM ∷ storage_class.WORKGROUP ∷ storage_class.PRIVATE ∷ storage_class.FUNCTION ∷ storage_class.PUSH_CONSTANT ∷ storage_class.STORAGE_BUFFER ∷ []) w
is_known FunctionControl w = has_only (function_control.INLINE + function_control.DONT_INLINE + function_control.PURE + function_control.CONST) w
is_known LoopControl w = has_only (loop_control.UNROLL + loop_control.DONT_UNROLL) w
is_known SelectionControl w = has_only (selection_control.FLATTEN + selection_control.DONT_FLATTEN) w

abbrev pub is_memory_operands : ℕ → Bool
is_memory_operands w = has_only (memory_operand.VOLATILE + memory_operand.ALIGNED + memory_operand.NONTEMPORAL) w

-- the bit of memory operands that a literal word, the alignment, follows
abbrev pub is_aligned : ℕ → Bool
is_aligned w = not (bit_and w memory_operand.ALIGNED == 0)

-- decorations without a literal word, and those with a number behind them
abbrev pub is_bare_decoration : ℕ → Bool
is_bare_decoration w = is_one_of (decoration.BLOCK ∷ decoration.RESTRICT ∷ decoration.ALIASED ∷ decoration.VOLATILE ∷ decoration.COHERENT ∷ decoration.NON_WRITABLE ∷ decoration.NON_READABLE ∷ []) w

abbrev pub is_numbered_decoration : ℕ → Bool
is_numbered_decoration w = is_one_of (decoration.SPEC_ID ∷ decoration.ARRAY_STRIDE ∷ decoration.BINDING ∷ decoration.DESCRIPTOR_SET ∷ decoration.OFFSET ∷ []) w

abbrev pub is_builtin : ℕ → Bool
is_builtin w = is_one_of (builtin.NUM_WORKGROUPS ∷ builtin.WORKGROUP_SIZE ∷ builtin.WORKGROUP_ID ∷ builtin.LOCAL_INVOCATION_ID ∷ builtin.GLOBAL_INVOCATION_ID ∷ builtin.LOCAL_INVOCATION_INDEX ∷ []) w

-- how many operands an instruction of GLSL.std.450 has, if the profile has it
abbrev pub ext_operands : ℕ → Option ℕ
ext_operands w =
    if is_one_of (ext.S_ABS ∷ ext.S_SIGN ∷ ext.FIND_I_LSB ∷ ext.FIND_S_MSB ∷ ext.FIND_U_MSB ∷ []) w then Some 1
    else (if is_one_of (ext.U_MIN ∷ ext.S_MIN ∷ ext.U_MAX ∷ ext.S_MAX ∷ []) w then Some 2
    else (if is_one_of (ext.U_CLAMP ∷ ext.S_CLAMP ∷ []) w then Some 3
    else None))
