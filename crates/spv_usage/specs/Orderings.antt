-- 505 ScopeOrSemantics: the scopes and memory semantics of barriers and atomics.
use Rattle.std.specs.Prelude.{ℕ, Bool, true, false, cond, ◌==◌, ◌&&◌, bit_and, List, [], ◌∷◌, slice_index, Option, None}
use Rattle.std.specs.Option.{option_map_or}
use Rattle.spv_opcodes.specs.declared.op.TheConstants as op
use Rattle.spv_opcodes.specs.declared.scope.TheConstants as scope
use Rattle.spv_module.specs.Instruction.{Instruction, opcode}
use Rattle.spv_typing.specs.Kinds.{is_one_of}
use Rattle.spv_types.specs.Lookup.{known_word}
use Rattle.spv_values.specs.Values.{is_ints}
use Rattle.spv_usage.specs.Storage.{atomics}

-- the word of a Known constant that is an integer; none for everything else
unfoldable pub known_integer : List Instruction → (id : ℕ) → Option ℕ
known_integer insts id = cond (is_ints insts 1 id) (known_word insts id 0) None

-- an execution scope is Workgroup
abbrev pub is_execution_scope : (value : ℕ) → Bool
is_execution_scope value = value == scope.WORKGROUP

-- a memory scope is Device, Workgroup or Invocation
abbrev pub is_memory_scope : (value : ℕ) → Bool
is_memory_scope value = is_one_of (scope.DEVICE ∷ scope.WORKGROUP ∷ scope.INVOCATION ∷ []) value

-- semantics have bits of 0xFDE alone, and of Acquire 2, Release 4, AcquireRelease 8 and SequentiallyConsistent 16 at most one
abbrev pub are_semantics : (value : ℕ) → Bool
are_semantics value = bit_and value 0xFDE == value && is_one_of (0 ∷ 2 ∷ 4 ∷ 8 ∷ 16 ∷ []) (bit_and value 0x1E)

-- the operands are Known integer constants that pass
abbrev pub execution_fits : List Instruction → (id : ℕ) → Bool
execution_fits insts id = option_map_or is_execution_scope (known_integer insts id) false

abbrev pub scope_fits : List Instruction → (id : ℕ) → Bool
scope_fits insts id = option_map_or is_memory_scope (known_integer insts id) false

abbrev pub semantics_fit : List Instruction → (id : ℕ) → Bool
semantics_fit insts id = option_map_or are_semantics (known_integer insts id) false

-- a memory scope and semantics
abbrev pub access_fits : List Instruction → (scope semantics : ℕ) → Bool
access_fits insts s m = scope_fits insts s && semantics_fit insts m

-- the scopes and semantics of an instruction fit; one that has none passes
unfoldable pub ordering_fits : List Instruction → Instruction → Bool
ordering_fits insts i =
    cond (opcode i == op.CONTROL_BARRIER)
    (execution_fits insts (slice_index i.words 1) && access_fits insts (slice_index i.words 2) (slice_index i.words 3))
    (cond (opcode i == op.MEMORY_BARRIER) (access_fits insts (slice_index i.words 1) (slice_index i.words 2))
    (cond (opcode i == op.ATOMIC_STORE) (access_fits insts (slice_index i.words 2) (slice_index i.words 3))
    (cond (opcode i == op.ATOMIC_COMPARE_EXCHANGE)
    (access_fits insts (slice_index i.words 4) (slice_index i.words 5) && semantics_fit insts (slice_index i.words 6))
    (cond (is_one_of atomics (opcode i)) (access_fits insts (slice_index i.words 4) (slice_index i.words 5))
    true))))
