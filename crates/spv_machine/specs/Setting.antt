-- A module under a dispatch: what each of its invocations finds.
use Rattle.std.specs.Prelude.{ℕ, ◌+◌, ◌*◌, ◌/◌, ◌%◌, ◌^◌, ◌≤◌, cond, ◌==◌, ◌&&◌, nat_eq, List, [], ◌∷◌, slice_index, Option, Some, None, IfSome, IsSome}
use Rattle.std.specs.List.{AllByRecursion}
use Rattle.std.specs.Option.{unwrap_or}
use Rattle.std.specs.Cmp.Lexicographic.{pointwise}
use Rattle.spv_opcodes.specs.declared.decoration.TheConstants as decoration
use Rattle.spv_opcodes.specs.declared.builtin.TheConstants as builtin
use Rattle.spv_meaning.specs.Statements as says
use Rattle.spv_meaning.specs.Statements.{Statement}
use Rattle.spv_machine.specs.Places.{Triple}
use Rattle.spv_machine.specs.Dispatch.{Dispatch, volume, triple_at, words_of_triple}
use Rattle.spv_meaning.specs.Constants.{Table, table_of, words_at, length_at}

-- the function of the entry point with a name; of two of one name the first counts
abbrev pub entry_function : List Statement → (name : List ℕ) → Option ℕ
entry_function [] name = None
entry_function (says.EntryPoint function its_name ∷ rest) name = cond (pointwise nat_eq its_name name) (Some function) (entry_function rest name)
entry_function (s ∷ rest) name = entry_function rest name

abbrev pub or_else : {X : Type 0} → Option X → Option X → Option X
or_else None other = other
or_else (Some x) other = Some x

abbrev pub triple_in : List ℕ → Triple
triple_in ws = record { x = slice_index ws 0; y = slice_index ws 1; z = slice_index ws 2 }

-- the constant that is decorated as the workgroup size
abbrev pub size_by_constant : List Statement → Table → Option Triple
size_by_constant [] table = None
size_by_constant (says.Decorate target kind literals ∷ rest) table =
    cond (kind == decoration.BUILTIN && slice_index literals 0 == builtin.WORKGROUP_SIZE) (Some (triple_in (words_at table target)))
    (size_by_constant rest table)
size_by_constant (s ∷ rest) table = size_by_constant rest table

abbrev pub first_word : Table → (id : ℕ) → ℕ
first_word table id = slice_index (words_at table id) 0

-- the sizes by three constants
abbrev pub triple_of : Table → (ids : List ℕ) → Triple
triple_of table ids = record { x = first_word table (slice_index ids 0); y = first_word table (slice_index ids 1); z = first_word table (slice_index ids 2) }

abbrev pub size_by_ids : List Statement → Table → (function : ℕ) → Option Triple
size_by_ids [] table function = None
size_by_ids (says.LocalSizeId of ids ∷ rest) table function =
    cond (of == function) (Some (triple_of table ids)) (size_by_ids rest table function)
size_by_ids (s ∷ rest) table function = size_by_ids rest table function

abbrev pub size_by_literals : List Statement → (function : ℕ) → Option Triple
size_by_literals [] function = None
size_by_literals (says.LocalSize of sizes ∷ rest) function = cond (of == function) (Some (triple_in sizes)) (size_by_literals rest function)
size_by_literals (s ∷ rest) function = size_by_literals rest function

-- the workgroup size of an entry point: the constant WorkgroupSize, else LocalSizeId, else LocalSize
abbrev pub size_for : List Statement → Table → (function : ℕ) → Option Triple
size_for all table function = or_else (size_by_constant all table) (or_else (size_by_ids all table function) (size_by_literals all function))

abbrev pub size_for_entry : List Statement → Table → (function : Option ℕ) → Option Triple
size_for_entry all table None = None
size_for_entry all table (Some function) = size_for all table function

abbrev pub no_triple : Triple
no_triple = record { x = 0; y = 0; z = 0 }

-- the statements of a module, the meanings of its ids, the dispatch, the function that is entered, and the workgroup size
pub record Setting : Type 0 where
  pub all : List Statement
  pub table : Table
  pub dispatch : Dispatch
  pub function : Option ℕ
  pub size : Triple

abbrev pub size_in : List Statement → Dispatch → Option Triple
size_in all d = size_for_entry all (table_of all d.specialisation) (entry_function all d.entry)

unfoldable pub setting : List Statement → Dispatch → Setting
setting all d = record {
  all = all;
  table = table_of all d.specialisation;
  dispatch = d;
  function = entry_function all d.entry;
  size = unwrap_or (size_in all d) no_triple;
}

-- the lengths of all array types
abbrev pub array_lengths : List Statement → Table → List ℕ
array_lengths [] table = []
array_lengths (says.TypeArray r element length ∷ rest) table = length_at table length ∷ array_lengths rest table
array_lengths (s ∷ rest) table = array_lengths rest table

pub record IsSize (size : Triple) : Type 0 where
  pub x : 1 ≤ size.x
  pub y : 1 ≤ size.y
  pub z : 1 ≤ size.z

-- there is such an entry point, it has a workgroup size, and each length and size is at least 1
pub record FitsStatements (all : List Statement) (d : Dispatch) : Type 0 where
  pub entry : IsSome (entry_function all d.entry)
  pub sized : IsSome (size_in all d)
  pub size : IfSome (size_in all d) IsSize
  pub lengths : AllByRecursion (λ n. 1 ≤ n) (array_lengths all (table_of all d.specialisation))

-- Invocations are numbered workgroup by workgroup.
abbrev pub group_number : Setting → ℕ → ℕ
group_number c i = i / volume c.size

-- the WorkgroupId and the LocalInvocationId of an invocation
abbrev pub workgroup_id : Setting → ℕ → Triple
workgroup_id c i = triple_at c.dispatch.groups (group_number c i)

abbrev pub local_id : Setting → ℕ → Triple
local_id c i = triple_at c.size (i % volume c.size)

-- how many invocations there are
abbrev pub invocations : Setting → ℕ
invocations c = volume c.dispatch.groups * volume c.size

abbrev pub global_id : Setting → (group local : Triple) → Triple
global_id c group local = record {
  x = (group.x * c.size.x + local.x) % 2 ^ 32;
  y = (group.y * c.size.y + local.y) % 2 ^ 32;
  z = (group.z * c.size.z + local.z) % 2 ^ 32;
}

abbrev pub local_index : Setting → (local : Triple) → ℕ
local_index c local = (local.z * c.size.x * c.size.y + local.y * c.size.x + local.x) % 2 ^ 32

-- the words of each built-in
abbrev pub builtin_words : Setting → (group local : Triple) → ℕ → List ℕ
builtin_words c group local kind =
    cond (kind == builtin.NUM_WORKGROUPS) (words_of_triple c.dispatch.groups)
    (cond (kind == builtin.WORKGROUP_SIZE) (words_of_triple c.size)
    (cond (kind == builtin.WORKGROUP_ID) (words_of_triple group)
    (cond (kind == builtin.LOCAL_INVOCATION_ID) (words_of_triple local)
    (cond (kind == builtin.GLOBAL_INVOCATION_ID) (words_of_triple (global_id c group local))
    (cond (kind == builtin.LOCAL_INVOCATION_INDEX) (local_index c local ∷ []) [])))))
