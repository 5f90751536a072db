-- The words of facts on small shaders.
use Rattle.std.specs.Prelude.{ℕ, zero, suc, ◌++◌, Bool, false, List, [], ◌∷◌, map, replicate, codes, Option, Some, None}
use Rattle.interleaving.specs.Trace.{Traces}
use Rattle.spv_opcodes.specs.declared.op.TheConstants as op
use Rattle.spv_opcodes.specs.declared.decoration.TheConstants as decoration
use Rattle.spv_opcodes.specs.declared.builtin.TheConstants as builtin
use Rattle.spv_opcodes.specs.declared.storage_class.TheConstants as storage_class
use Rattle.spv_meaning.specs.Statements as says
use Rattle.spv_meaning.specs.Statements.{Statement}
use Rattle.spv_meaning.specs.Computations.{Evaluates}
use Rattle.spv_meaning.specs.Types.{DataType, Integer, Vector, RuntimeArray, Struct, NoMember, Member}
use Rattle.spv_machine.specs.Places.{Triple, Memory, Buffer, Place, object_at}
use Rattle.spv_machine.specs.Access.{Action, Loads, Stores, Atomics, Access}
use Rattle.spv_machine.specs.Setting.{Setting, setting}
use Rattle.spv_machine.specs.State.{Data}
use Rattle.spv_machine.specs.Effects.{Shared}
use Rattle.spv_machine.specs.Machine.{trace_in}
use Rattle.spv_machine.specs.Doubling.{on, buffer}

-- the first n invocations, one after another, take so many steps each
abbrev pub one_by_one : (n steps : ℕ) → List ℕ
one_by_one zero steps = []
one_by_one (suc n) steps = one_by_one n steps ++ replicate steps n

abbrev pub volatilities : List Access → List Bool
volatilities accesses = map (λ a. a.volatile) accesses

-- ---- accesses

-- a word of the buffer
abbrev pub at_word : ℕ → Option Place
at_word k = Some (record { memory = Buffer 0 0; first = k; positions = k ∷ [] })

-- the load and the store of the doubling shader
abbrev pub doubling_load : Option Place → Access
doubling_load place = record {
  action = Loads;
  opcode = op.LOAD;
  place = place;
  count = 1;
  operands = [];
  scopes = [];
  semantics = [];
  memory = [];
  volatile = false;
  id = 20;
}

abbrev pub doubling_store : Option Place → (word : ℕ) → Access
doubling_store place word = record {
  action = Stores;
  opcode = op.STORE;
  place = place;
  count = 1;
  operands = word ∷ [];
  scopes = [];
  semantics = [];
  memory = [];
  volatile = false;
  id = 0;
}

-- an atomic of these values
abbrev pub atomic : (opcode : ℕ) → Option Place → (values : List ℕ) → Access
atomic opcode place values = record {
  action = Atomics;
  opcode = opcode;
  place = place;
  count = 1;
  operands = values;
  scopes = (1 ∷ []) ∷ [];
  semantics = (0 ∷ []) ∷ [];
  memory = [];
  volatile = false;
  id = 1;
}

-- a store of these words at these positions
abbrev pub storing : Memory → (positions words : List ℕ) → Access
storing memory positions words = record {
  action = Stores;
  opcode = op.STORE;
  place = Some (record { memory = memory; first = 0; positions = positions });
  count = 1;
  operands = words;
  scopes = [];
  semantics = [];
  memory = [];
  volatile = false;
  id = 0;
}

-- a load of the word at a position
abbrev pub loading : Memory → (position : ℕ) → Access
loading memory position = doubling_load (Some (record { memory = memory; first = position; positions = position ∷ [] }))

-- the shared memory with these words in the buffer, and nothing written in Workgroup variables
abbrev pub holding : List ℕ → Shared
holding words = record { buffers = buffer words; cells = [] }

-- a variable of the first workgroup, and of the second
abbrev pub group : ℕ → Triple
group n = record { x = n; y = 0; z = 0 }

-- ---- places

abbrev pub uint : DataType
uint = Integer 32 false

-- a member of one word, and an array of pairs behind it
abbrev pub pairs_type : DataType
pairs_type = Struct (Member (Some 0) false uint (Member (Some 4) false (RuntimeArray (Some 8) (Vector 2 uint)) NoMember))

abbrev pub pairs : Option Place
pairs = Some (object_at storage_class.STORAGE_BUFFER (Buffer 0 0) 0 pairs_type)

-- ---- control

-- what the only invocation does in these functions, behind integers of one word, booleans, pointers to an integer and the constants 1, 2, true and false
abbrev pub module_of : List Statement → List Statement
module_of functions =
    says.EntryPoint 1 (codes "main")
    ∷ says.LocalSize 1 (1 ∷ 1 ∷ 1 ∷ [])
    ∷ says.TypeInt 20 32 0
    ∷ says.TypeBool 21
    ∷ says.TypePointer 22 storage_class.STORAGE_BUFFER 20
    ∷ says.TypePointer 23 storage_class.FUNCTION 20
    ∷ says.TypePointer 24 storage_class.PRIVATE 20
    ∷ says.Constant 20 31 (1 ∷ [])
    ∷ says.Constant 20 32 (2 ∷ [])
    ∷ says.Constant 21 33 (1 ∷ [])
    ∷ says.ConstantNull 21 34
    ∷ says.Variable 22 30 storage_class.STORAGE_BUFFER []
    ∷ functions

abbrev pub alone_in : List Statement → Traces Access
alone_in functions = trace_in (setting (module_of functions) (on (0 ∷ []))) 0

-- a loop of two turns whose OpPhi give each other their values
abbrev pub swapping : List Statement
swapping =
    says.Function 1
    ∷ says.Label 2
    ∷ says.Branch 3
    ∷ says.Label 3
    ∷ says.Phi 20 10 ((31, 2) ∷ (11, 3) ∷ [])
    ∷ says.Phi 20 11 ((32, 2) ∷ (10, 3) ∷ [])
    ∷ says.Phi 21 12 ((33, 2) ∷ (34, 3) ∷ [])
    ∷ says.Merge
    ∷ says.BranchConditional 12 3 4
    ∷ says.Label 4
    ∷ says.Store 30 11 []
    ∷ says.Return
    ∷ says.FunctionEnd
    ∷ []

-- a function that adds to its variable is called twice, and the second result is stored, then the first
abbrev pub calling : List Statement
calling =
    says.Function 1
    ∷ says.Label 2
    ∷ says.FunctionCall 20 10 5 (31 ∷ [])
    ∷ says.FunctionCall 20 11 5 (32 ∷ [])
    ∷ says.Store 30 11 []
    ∷ says.Store 30 10 []
    ∷ says.Return
    ∷ says.FunctionEnd
    ∷ says.Function 5
    ∷ says.FunctionParameter 20 6
    ∷ says.Label 7
    ∷ says.Variable 23 8 storage_class.FUNCTION []
    ∷ says.Load 20 9 8 []
    ∷ says.Operation (Evaluates op.I_ADD) 20 13 (9 ∷ 6 ∷ [])
    ∷ says.Store 8 13 []
    ∷ says.Load 20 14 8 []
    ∷ says.ReturnValue 14
    ∷ says.FunctionEnd
    ∷ []

-- two Private variables, one with an initialiser, are loaded; the first word and the second are stored
abbrev pub beginning : List Statement
beginning =
    says.Variable 24 41 storage_class.PRIVATE (32 ∷ [])
    ∷ says.Variable 24 42 storage_class.PRIVATE []
    ∷ says.Function 1
    ∷ says.Label 2
    ∷ says.Load 20 10 41 []
    ∷ says.Store 30 10 []
    ∷ says.Load 20 11 42 []
    ∷ says.Store 30 11 []
    ∷ says.Store 42 31 []
    ∷ says.Load 20 12 42 []
    ∷ says.Store 30 12 []
    ∷ says.Return
    ∷ says.FunctionEnd
    ∷ []

-- an atomic addition, whose result is stored; then a fence and a barrier
abbrev pub ordering : List Statement
ordering =
    says.Function 1
    ∷ says.Label 2
    ∷ says.Atomic op.ATOMIC_I_ADD (20 ∷ []) (10 ∷ []) 30 31 (32 ∷ []) (31 ∷ [])
    ∷ says.Store 30 10 []
    ∷ says.MemoryBarrier 31 32
    ∷ says.ControlBarrier 32 31 32
    ∷ says.Return
    ∷ says.FunctionEnd
    ∷ []

-- a fence or a barrier of these scopes and semantics
abbrev pub order : Action → (opcode : ℕ) → (scopes semantics : List (List ℕ)) → Access
order action opcode scopes semantics = record {
  action = action;
  opcode = opcode;
  place = None;
  count = 0;
  operands = [];
  scopes = scopes;
  semantics = semantics;
  memory = [];
  volatile = false;
  id = 0;
}

-- a callee loads through its parameter, which is decorated as volatile, and the caller through the variable, which is not
abbrev pub passing : List Statement
passing =
    says.Decorate 6 decoration.VOLATILE []
    ∷ says.Function 1
    ∷ says.Label 2
    ∷ says.FunctionCall 20 10 5 (30 ∷ [])
    ∷ says.Load 20 11 30 []
    ∷ says.Return
    ∷ says.FunctionEnd
    ∷ says.Function 5
    ∷ says.FunctionParameter 22 6
    ∷ says.Label 7
    ∷ says.Load 20 9 6 []
    ∷ says.Return
    ∷ says.FunctionEnd
    ∷ []

-- a block whose only other instruction says nothing that a machine can do
abbrev pub unknown : List Statement
unknown = says.Function 1 ∷ says.Label 2 ∷ says.Unknown ∷ says.Return ∷ says.FunctionEnd ∷ []

-- ---- dispatches

-- two workgroup sizes of the function 1 by modes, behind constants of one word
abbrev pub sized_by_modes : List Statement
sized_by_modes =
    says.LocalSize 1 (7 ∷ 8 ∷ 9 ∷ [])
    ∷ says.LocalSizeId 1 (31 ∷ 32 ∷ 31 ∷ [])
    ∷ says.TypeInt 20 32 0
    ∷ says.Constant 20 31 (1 ∷ [])
    ∷ says.Constant 20 32 (2 ∷ [])
    ∷ []

-- and a constant that is the workgroup size
abbrev pub sized_by_constant : List Statement
sized_by_constant = says.Decorate 33 decoration.BUILTIN (builtin.WORKGROUP_SIZE ∷ []) ∷ sized_by_modes ++ (says.ConstantComposite 21 33 (32 ∷ 32 ∷ 31 ∷ []) ∷ [])

-- a uniform block of one word, and two words of push constants
abbrev pub reading : Setting
reading = setting [] (record (on []) { uniforms = record { set = 1; binding = 2; words = 5 ∷ [] } ∷ []; push = 6 ∷ 7 ∷ [] })

abbrev pub no_data : Data
no_data = record { frames = []; privates = []; group = group 0; local = group 0 }

abbrev pub at_words : Memory → List ℕ → Option Place
at_words memory positions = Some (record { memory = memory; first = 0; positions = positions })
