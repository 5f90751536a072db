-- 603 Binding: the descriptor sets and bindings of buffers. OpVariable has its type, its id and its storage class as its words 1 to 3.
use Rattle.std.specs.Prelude.{ℕ, Bool, false, cond, ◌==◌, ◌&&◌, ◌||◌, not, List, slice_index, Option, Some, None}
use Rattle.std.specs.List.{list_any}
use Rattle.std.specs.Option.{option_map_or}
use Rattle.spv_opcodes.specs.declared.op.TheConstants as op
use Rattle.spv_opcodes.specs.declared.decoration.TheConstants as decoration
use Rattle.spv_opcodes.specs.declared.storage_class.TheConstants as storage_class
use Rattle.spv_module.specs.Code.{is_function}
use Rattle.spv_module.specs.Instruction.{Instruction, opcode}
use Rattle.spv_decorations.specs.Decorations.{decoration_of}

-- a descriptor set, a binding in it, and the storage class of what is bound there
abbrev pub Slot : Type 0
Slot = ℕ × ℕ × ℕ

abbrev pub slot_in : (set binding : Option ℕ) → (class : ℕ) → Option Slot
slot_in (Some set) (Some binding) class = Some (set, binding, class)
slot_in set binding class = None

-- that of a variable; none where it lacks DescriptorSet or Binding
abbrev pub slot_of : List Instruction → Instruction → Option Slot
slot_of insts i =
    cond (opcode i == op.VARIABLE)
    (slot_in (decoration_of insts (slice_index i.words 2) decoration.DESCRIPTOR_SET) (decoration_of insts (slice_index i.words 2) decoration.BINDING) (slice_index i.words 3))
    None

abbrev pub is_same_slot : Slot → Slot → Bool
is_same_slot x y = x.0 == y.0 && x.1 == y.1 && x.2 == y.2

-- the instruction is a variable there
abbrev pub stands_at : List Instruction → Slot → Instruction → Bool
stands_at insts slot i = option_map_or (is_same_slot slot) (slot_of insts i) false

-- Uniform and StorageBuffer
abbrev pub other_class : (class : ℕ) → ℕ
other_class class = cond (class == storage_class.UNIFORM) storage_class.STORAGE_BUFFER storage_class.UNIFORM

-- a Uniform or StorageBuffer variable
abbrev pub is_buffer : Instruction → Bool
is_buffer i = opcode i == op.VARIABLE && (slice_index i.words 3 == storage_class.UNIFORM || slice_index i.words 3 == storage_class.STORAGE_BUFFER)

-- there is a slot, and no variable before of the other class has this set and binding
abbrev pub slot_fits : (insts before : List Instruction) → Option Slot → Bool
slot_fits insts before None = false
slot_fits insts before (Some slot) = not (list_any (stands_at insts (slot.0, slot.1, other_class slot.2)) before)

-- a Uniform or StorageBuffer variable outside functions has a set and a binding, at which no variable before it is of the other class; every other
-- instruction passes
unfoldable pub binding_fits : (insts before : List Instruction) → Instruction → Bool
binding_fits insts before i = list_any is_function before || (not (is_buffer i) || slot_fits insts before (slot_of insts i))
