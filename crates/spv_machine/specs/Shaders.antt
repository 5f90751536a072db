-- Small shaders in statements, to try the definitions on.
use Rattle.std.specs.Prelude.{ℕ, List, [], ◌∷◌, ◌++◌, map, codes}
use Rattle.spv_opcodes.specs.declared.op.TheConstants as op
use Rattle.spv_opcodes.specs.declared.decoration.TheConstants as decoration
use Rattle.spv_opcodes.specs.declared.builtin.TheConstants as builtin
use Rattle.spv_opcodes.specs.declared.storage_class.TheConstants as storage_class
use Rattle.spv_meaning.specs.Statements as says
use Rattle.spv_meaning.specs.Statements.{Statement}
use Rattle.spv_meaning.specs.Computations.{Extracts, Inserts}
use Rattle.spv_machine.specs.Places.{Triple}
use Rattle.spv_machine.specs.Access.{Access}
use Rattle.spv_machine.specs.Dispatch.{Dispatch}
use Rattle.spv_machine.specs.Setting.{setting}
use Rattle.spv_machine.specs.Machine.{trace_in}
use Rattle.spv_machine.specs.Doubling.{on}

abbrev pub triple : (x y z : ℕ) → Triple
triple x y z = record { x = x; y = y; z = z }

-- so many workgroups on these words
abbrev pub groups_on : (groups : Triple) → List ℕ → Dispatch
groups_on groups words = record (on words) { groups = groups }

-- the words that each access hands over
abbrev pub handed : List Access → List (List ℕ)
handed accesses = map (λ a. a.operands) accesses

-- the semantics of each
abbrev pub ordered : List Access → List (List (List ℕ))
ordered accesses = map (λ a. a.semantics) accesses

-- ---- invocations that share a buffer and a Workgroup variable

-- the number of an invocation is 11, its own word of the buffer is at 12, and a Workgroup variable at 7; a workgroup has so many invocations
abbrev pub sharing : (size : ℕ) → (body : List Statement) → List Statement
sharing size body =
    says.EntryPoint 1 (codes "main")
    ∷ says.LocalSize 1 (size ∷ 1 ∷ 1 ∷ [])
    ∷ says.Decorate 5 decoration.BUILTIN (builtin.GLOBAL_INVOCATION_ID ∷ [])
    ∷ says.Decorate 40 decoration.ARRAY_STRIDE (4 ∷ [])
    ∷ says.MemberDecorate 41 0 decoration.OFFSET (0 ∷ [])
    ∷ says.TypeInt 20 32 0
    ∷ says.TypeVector 21 20 3
    ∷ says.TypeRuntimeArray 40 20
    ∷ says.TypeStruct 41 (40 ∷ [])
    ∷ says.TypePointer 22 storage_class.STORAGE_BUFFER 20
    ∷ says.TypePointer 23 storage_class.INPUT 21
    ∷ says.TypePointer 24 storage_class.INPUT 20
    ∷ says.TypePointer 25 storage_class.WORKGROUP 20
    ∷ says.TypePointer 42 storage_class.STORAGE_BUFFER 41
    ∷ says.Constant 20 30 (0 ∷ [])
    ∷ says.Constant 20 31 (1 ∷ [])
    ∷ says.Constant 20 32 (2 ∷ [])
    ∷ says.Variable 23 5 storage_class.INPUT []
    ∷ says.Variable 42 6 storage_class.STORAGE_BUFFER []
    ∷ says.Variable 25 7 storage_class.WORKGROUP []
    ∷ says.Function 1
    ∷ says.Label 2
    ∷ says.AccessChain 24 10 5 (30 ∷ [])
    ∷ says.Load 20 11 10 []
    ∷ says.AccessChain 22 12 6 (30 ∷ 11 ∷ [])
    ∷ body ++ (says.Return ∷ says.FunctionEnd ∷ [])

-- each adds 1 to word 2 and stores what was there in its own word
abbrev pub counting : List Statement
counting =
    sharing 2
    (says.AccessChain 22 13 6 (30 ∷ 32 ∷ [])
    ∷ says.Atomic op.ATOMIC_I_ADD (20 ∷ []) (14 ∷ []) 13 31 (30 ∷ []) (31 ∷ [])
    ∷ says.Store 12 14 []
    ∷ [])

-- each stores what it finds in the Workgroup variable in its own word, and leaves 2 there
abbrev pub finding : (size : ℕ) → List Statement
finding size = sharing size (says.Load 20 14 7 [] ∷ says.Store 7 32 [] ∷ says.Store 12 14 [] ∷ [])

-- each adds 1 to the Workgroup variable, waits for the other, and stores what is there then
abbrev pub meeting : List Statement
meeting =
    sharing 2
    (says.Atomic op.ATOMIC_I_ADD (20 ∷ []) (14 ∷ []) 7 32 (30 ∷ []) (31 ∷ [])
    ∷ says.ControlBarrier 32 32 30
    ∷ says.Load 20 15 7 []
    ∷ says.Store 12 15 []
    ∷ [])

-- the only one exchanges 1 for a 2 in word 2, and stores what was there in its own word
abbrev pub exchanging : List Statement
exchanging =
    sharing 1
    (says.AccessChain 22 13 6 (30 ∷ 32 ∷ [])
    ∷ says.Atomic op.ATOMIC_COMPARE_EXCHANGE (20 ∷ []) (14 ∷ []) 13 31 (30 ∷ 32 ∷ []) (31 ∷ 32 ∷ [])
    ∷ says.Store 12 14 []
    ∷ [])

-- the only one adds 1 to its word, stores 2 there, reads it, and stores what the addition and the reading found, both as atomics but for the last
abbrev pub stepping : List Statement
stepping =
    sharing 1
    (says.Atomic op.ATOMIC_I_INCREMENT (20 ∷ []) (14 ∷ []) 12 31 (32 ∷ []) []
    ∷ says.Atomic op.ATOMIC_STORE [] [] 12 31 (30 ∷ []) (32 ∷ [])
    ∷ says.Atomic op.ATOMIC_LOAD (20 ∷ []) (15 ∷ []) 12 31 (30 ∷ []) []
    ∷ says.Store 12 14 []
    ∷ says.Store 12 15 []
    ∷ [])

-- what the only invocation hands over within twelve instructions, under a specialisation
abbrev pub stored_under : List (ℕ × List ℕ) → List Statement → List (List ℕ)
stored_under specialisation all =
    handed (trace_in (setting all (record (on (0 ∷ [])) { specialisation = specialisation })) 0 12 ([] ∷ [] ∷ [] ∷ [])).accesses

-- ---- memories

-- a variable of a struct of a word and an array of two, at byte 16 and each 16 bytes; the second element is 10, what it holds is loaded, and is stored in
-- the first word of the buffer
abbrev pub through : (class : ℕ) → (first : List Statement) → List Statement
through class first =
    says.EntryPoint 1 (codes "main")
    ∷ says.LocalSize 1 (1 ∷ 1 ∷ 1 ∷ [])
    ∷ says.Decorate 6 decoration.DESCRIPTOR_SET (2 ∷ [])
    ∷ says.Decorate 6 decoration.BINDING (3 ∷ [])
    ∷ says.Decorate 43 decoration.ARRAY_STRIDE (16 ∷ [])
    ∷ says.MemberDecorate 44 0 decoration.OFFSET (0 ∷ [])
    ∷ says.MemberDecorate 44 1 decoration.OFFSET (16 ∷ [])
    ∷ says.TypeInt 20 32 0
    ∷ says.TypePointer 22 storage_class.STORAGE_BUFFER 20
    ∷ says.Constant 20 31 (1 ∷ [])
    ∷ says.Constant 20 32 (2 ∷ [])
    ∷ says.TypeArray 43 20 32
    ∷ says.TypeStruct 44 (20 ∷ 43 ∷ [])
    ∷ says.TypePointer 25 class 20
    ∷ says.TypePointer 45 class 44
    ∷ says.Variable 45 6 class []
    ∷ says.Variable 22 30 storage_class.STORAGE_BUFFER []
    ∷ says.Function 1
    ∷ says.Label 2
    ∷ first
    ++ (says.AccessChain 25 10 6 (31 ∷ 31 ∷ [])
    ∷ says.Load 20 11 10 []
    ∷ says.Store 30 11 []
    ∷ says.Return
    ∷ says.FunctionEnd
    ∷ [])

-- 2 is stored there first
abbrev pub put_through : (class : ℕ) → List Statement
put_through class = through class (says.AccessChain 25 12 6 (31 ∷ 31 ∷ []) ∷ says.Store 12 32 [] ∷ [])

-- and where the variable is the function's own
abbrev pub put_in_function : List Statement
put_in_function =
    through storage_class.FUNCTION
    (says.Variable 45 6 storage_class.FUNCTION [] ∷ says.AccessChain 25 12 6 (31 ∷ 31 ∷ []) ∷ says.Store 12 32 [] ∷ [])

-- nine words, of which the one at that element is the last
abbrev pub nine_words : List ℕ
nine_words = 1 ∷ 2 ∷ 3 ∷ 4 ∷ 5 ∷ 6 ∷ 7 ∷ 8 ∷ 9 ∷ []

-- as a buffer or a uniform block at the variable's set and binding, or as push constants
abbrev pub in_a_buffer : Dispatch
in_a_buffer = record (on []) { buffers = record { set = 2; binding = 3; words = nine_words } ∷ record { set = 0; binding = 0; words = 0 ∷ [] } ∷ [] }

abbrev pub in_a_block : Dispatch
in_a_block = record (on (0 ∷ [])) { uniforms = record { set = 2; binding = 3; words = nine_words } ∷ [] }

abbrev pub pushed : Dispatch
pushed = record (on (0 ∷ [])) { push = nine_words }

-- what an Input variable of a built-in holds is stored; the workgroups have 4, 2 and 2 invocations
abbrev pub telling : (kind : ℕ) → (type : ℕ) → List Statement
telling kind type =
    says.EntryPoint 1 (codes "main")
    ∷ says.LocalSize 1 (4 ∷ 2 ∷ 2 ∷ [])
    ∷ says.Decorate 5 decoration.BUILTIN (kind ∷ [])
    ∷ says.TypeInt 20 32 0
    ∷ says.TypeVector 21 20 3
    ∷ says.TypePointer 22 storage_class.STORAGE_BUFFER type
    ∷ says.TypePointer 23 storage_class.INPUT type
    ∷ says.Variable 23 5 storage_class.INPUT []
    ∷ says.Variable 22 30 storage_class.STORAGE_BUFFER []
    ∷ says.Function 1
    ∷ says.Label 2
    ∷ says.Load type 10 5 []
    ∷ says.Store 30 10 []
    ∷ says.Return
    ∷ says.FunctionEnd
    ∷ []

-- ---- values

-- behind types of a word, a boolean, a pair, an array of two words and a struct of a word and that array: constants of each, and the variable 30 of a
-- buffer; the array 46 is as long as the constant with the SpecId 7 says
abbrev pub valued : (functions : List Statement) → List Statement
valued functions =
    says.EntryPoint 1 (codes "main")
    ∷ says.LocalSize 1 (1 ∷ 1 ∷ 1 ∷ [])
    ∷ says.Decorate 34 decoration.SPEC_ID (7 ∷ [])
    ∷ says.TypeInt 20 32 0
    ∷ says.TypeBool 21
    ∷ says.Constant 20 31 (1 ∷ [])
    ∷ says.Constant 20 32 (2 ∷ [])
    ∷ says.Constant 20 33 (3 ∷ [])
    ∷ says.SpecConstant 20 34 (2 ∷ [])
    ∷ says.Constant 21 35 (1 ∷ [])
    ∷ says.ConstantNull 21 36
    ∷ says.TypeVector 42 20 2
    ∷ says.TypeArray 43 20 32
    ∷ says.TypeStruct 44 (20 ∷ 43 ∷ [])
    ∷ says.TypeArray 46 20 34
    ∷ says.ConstantComposite 43 37 (31 ∷ 32 ∷ [])
    ∷ says.ConstantComposite 44 38 (33 ∷ 37 ∷ [])
    ∷ says.ConstantNull 44 39
    ∷ says.ConstantComposite 42 41 (31 ∷ 32 ∷ [])
    ∷ says.TypePointer 22 storage_class.STORAGE_BUFFER 20
    ∷ says.TypePointer 23 storage_class.PRIVATE 20
    ∷ says.TypePointer 24 storage_class.PRIVATE 44
    ∷ says.TypePointer 47 storage_class.PRIVATE 46
    ∷ says.Variable 22 30 storage_class.STORAGE_BUFFER []
    ∷ says.Variable 24 40 storage_class.PRIVATE (38 ∷ [])
    ∷ says.Variable 47 48 storage_class.PRIVATE []
    ∷ functions

-- one function of one block, which ends by storing the value 19
abbrev pub storing_value : (body : List Statement) → List Statement
storing_value body = valued (says.Function 1 ∷ says.Label 2 ∷ body ++ (says.Store 30 19 [] ∷ says.Return ∷ says.FunctionEnd ∷ []))

-- what stands at these literals in the value
abbrev pub extracting : (value : ℕ) → (literals : List ℕ) → Statement
extracting value literals = says.Operation (Extracts literals) 20 19 (value ∷ [])

-- a struct goes into a function and comes back; its array is taken out of the parameter there, and out of the result here
abbrev pub passing_struct : List Statement
passing_struct =
    valued
    (says.Function 1
    ∷ says.Label 2
    ∷ says.FunctionCall 44 10 5 (38 ∷ [])
    ∷ extracting 10 (1 ∷ 1 ∷ [])
    ∷ says.Store 30 19 []
    ∷ says.Return
    ∷ says.FunctionEnd
    ∷ says.Function 5
    ∷ says.FunctionParameter 44 6
    ∷ says.Label 7
    ∷ says.Operation (Extracts (1 ∷ 0 ∷ [])) 20 8 (6 ∷ [])
    ∷ says.Operation (Inserts (1 ∷ 1 ∷ [])) 44 9 (8 ∷ 6 ∷ [])
    ∷ says.ReturnValue 9
    ∷ says.FunctionEnd
    ∷ [])

-- an OpPhi takes a struct from the first block
abbrev pub joining_struct : List Statement
joining_struct =
    valued
    (says.Function 1
    ∷ says.Label 2
    ∷ says.Branch 3
    ∷ says.Label 3
    ∷ says.Phi 44 10 ((38, 2) ∷ [])
    ∷ extracting 10 (1 ∷ 1 ∷ [])
    ∷ says.Store 30 19 []
    ∷ says.Return
    ∷ says.FunctionEnd
    ∷ [])

-- an element of the array that is as long as the SpecId 7 says: 3 is stored there and loaded again
abbrev pub indexing : (index : ℕ) → List Statement
indexing index =
    storing_value
    (says.AccessChain 23 10 48 (index ∷ []) ∷ says.Store 10 33 [] ∷ says.AccessChain 23 11 48 (index ∷ []) ∷ says.Load 20 19 11 [] ∷ [])

-- the literals are 1, 2 and again 1; each block stores another constant, the default none
abbrev pub switching : (selector : ℕ) → List Statement
switching selector =
    valued
    (says.Function 1
    ∷ says.Label 2
    ∷ says.Merge
    ∷ says.Switch selector 6 ((1, 3) ∷ (2, 4) ∷ (1, 5) ∷ [])
    ∷ says.Label 3
    ∷ says.Store 30 31 []
    ∷ says.Branch 6
    ∷ says.Label 4
    ∷ says.Store 30 32 []
    ∷ says.Branch 6
    ∷ says.Label 5
    ∷ says.Store 30 33 []
    ∷ says.Branch 6
    ∷ says.Label 6
    ∷ says.Return
    ∷ says.FunctionEnd
    ∷ [])

-- ---- lengths

-- how many pairs there are behind the first word of the buffer
abbrev pub measuring : List Statement
measuring =
    says.EntryPoint 1 (codes "main")
    ∷ says.LocalSize 1 (1 ∷ 1 ∷ 1 ∷ [])
    ∷ says.Decorate 40 decoration.ARRAY_STRIDE (8 ∷ [])
    ∷ says.MemberDecorate 41 0 decoration.OFFSET (0 ∷ [])
    ∷ says.MemberDecorate 41 1 decoration.OFFSET (4 ∷ [])
    ∷ says.TypeInt 20 32 0
    ∷ says.TypeVector 42 20 2
    ∷ says.TypeRuntimeArray 40 42
    ∷ says.TypeStruct 41 (20 ∷ 40 ∷ [])
    ∷ says.TypePointer 22 storage_class.STORAGE_BUFFER 20
    ∷ says.TypePointer 43 storage_class.STORAGE_BUFFER 41
    ∷ says.Constant 20 31 (0 ∷ [])
    ∷ says.Variable 43 6 storage_class.STORAGE_BUFFER []
    ∷ says.Function 1
    ∷ says.Label 2
    ∷ says.ArrayLength 20 10 6 1
    ∷ says.AccessChain 22 11 6 (31 ∷ [])
    ∷ says.Store 11 10 []
    ∷ says.Return
    ∷ says.FunctionEnd
    ∷ []

-- ---- workgroup sizes

-- the mode's literals, a mode's ids, and a constant, each in a module of constants with the SpecIds 7 and 8, and an array as long as the second
abbrev pub sized : (marks : List Statement) → List Statement
sized marks =
    says.EntryPoint 1 (codes "main")
    ∷ marks
    ++ (says.Decorate 31 decoration.SPEC_ID (7 ∷ [])
    ∷ says.Decorate 32 decoration.SPEC_ID (8 ∷ [])
    ∷ says.TypeInt 20 32 0
    ∷ says.TypeVector 21 20 3
    ∷ says.SpecConstant 20 31 (4 ∷ [])
    ∷ says.SpecConstant 20 32 (2 ∷ [])
    ∷ says.ConstantComposite 21 33 (32 ∷ 31 ∷ 31 ∷ [])
    ∷ says.TypeArray 34 20 32
    ∷ [])

abbrev pub by_literals : Statement
by_literals = says.LocalSize 1 (7 ∷ 8 ∷ 9 ∷ [])

abbrev pub by_ids : Statement
by_ids = says.LocalSizeId 1 (31 ∷ 32 ∷ 31 ∷ [])

abbrev pub by_constant : Statement
by_constant = says.Decorate 33 decoration.BUILTIN (builtin.WORKGROUP_SIZE ∷ [])

-- a dispatch under a specialisation
abbrev pub under : List (ℕ × List ℕ) → Dispatch
under specialisation = record (on []) { specialisation = specialisation }
