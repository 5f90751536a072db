-- 605 LocalSize: the workgroup sizes of entry points. OpExecutionMode and OpExecutionModeId have a function, a mode, and the three sizes behind their first
-- word: as literals, and as ids.
use Rattle.std.specs.Prelude.{ℕ, Bool, false, cond, ◌==◌, ◌&&◌, ◌||◌, not, nat_eq, nat_lt, List, drop, slice_index, count_by, Option, Some, None}
use Rattle.std.specs.List.{list_any}
use Rattle.std.specs.Option.{option_map_or}
use Rattle.spv_opcodes.specs.declared.op.TheConstants as op
use Rattle.spv_opcodes.specs.declared.execution_mode.TheConstants as execution_mode
use Rattle.spv_module.specs.Instruction.{Instruction, opcode}
use Rattle.spv_module.specs.Layout.{is_entry_point}
use Rattle.spv_repeats.specs.Repeats.{is_workgroup_size}
use Rattle.spv_typing.specs.Kinds.{is_constant, type_of}
use Rattle.spv_typing.specs.Operations.{shape, has_shape}

-- the id is this one, where there is one
abbrev pub names : Option ℕ → (id : ℕ) → Bool
names named id = option_map_or (nat_eq id) named false

-- the function of an entry point; that of a LocalSize; that of a LocalSizeId
abbrev pub entry_function : Instruction → Option ℕ
entry_function i = cond (is_entry_point i) (Some (slice_index i.words 2)) None

abbrev pub literal_function : Instruction → Option ℕ
literal_function i = cond (opcode i == op.EXECUTION_MODE && slice_index i.words 2 == execution_mode.LOCAL_SIZE) (Some (slice_index i.words 1)) None

abbrev pub id_function : Instruction → Option ℕ
id_function i = cond (opcode i == op.EXECUTION_MODE_ID && slice_index i.words 2 == execution_mode.LOCAL_SIZE_ID) (Some (slice_index i.words 1)) None

-- the id is no constant that is an integer
abbrev pub is_no_size : List Instruction → (id : ℕ) → Bool
is_no_size insts id = not (is_constant insts id && has_shape false 1 (shape insts (type_of insts id)))

-- a literal size is 0, or an id is no integer constant
abbrev pub sizes_unfit : List Instruction → Instruction → Bool
sizes_unfit insts i = cond (opcode i == op.EXECUTION_MODE) (list_any (nat_eq 0) (drop 3 i.words)) (list_any (is_no_size insts) (drop 3 i.words))

-- the function of a LocalSize or LocalSizeId whose sizes do not fit
abbrev pub unfit_function : List Instruction → Instruction → Option ℕ
unfit_function insts i =
    cond (sizes_unfit insts i && (names (literal_function i) (slice_index i.words 1) || names (id_function i) (slice_index i.words 1))) (Some (slice_index i.words 1)) None

-- a constant is decorated as the built-in WorkgroupSize
abbrev pub sizes_all : List Instruction → Instruction → Bool
sizes_all insts i = is_workgroup_size i && is_constant insts (slice_index i.words 1)

-- some instruction is of the kind and names the function; two are
abbrev pub some_names : (Instruction → Option ℕ) → List Instruction → (id : ℕ) → Bool
some_names kind insts id = list_any (λ i. names (kind i) id) insts

abbrev pub two_name : (Instruction → Option ℕ) → List Instruction → (id : ℕ) → Bool
two_name kind insts id = nat_lt 1 (count_by (λ i. names (kind i) id) insts)

-- a function has a LocalSize, a LocalSizeId, or the WorkgroupSize of the module; at most one of each of the first two; and their sizes fit
abbrev pub is_sized : List Instruction → (function : ℕ) → Bool
is_sized insts f =
    (some_names literal_function insts f || (some_names id_function insts f || list_any (sizes_all insts) insts))
    && (not (two_name literal_function insts f) && (not (two_name id_function insts f) && not (some_names (unfit_function insts) insts f)))

abbrev pub is_mode : Instruction → Bool
is_mode i = opcode i == op.EXECUTION_MODE || opcode i == op.EXECUTION_MODE_ID

-- the function of an entry point has its size, and a mode names the function of one; every other instruction passes
unfoldable pub size_fits : List Instruction → Instruction → Bool
size_fits insts i =
    cond (is_entry_point i) (is_sized insts (slice_index i.words 2)) (not (is_mode i) || some_names entry_function insts (slice_index i.words 1))
