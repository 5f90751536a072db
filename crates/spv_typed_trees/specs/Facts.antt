-- Small trees that are typed, or are not.
use Rattle.std.specs.Prelude.{ℕ, List, [], ◌∷◌}
use Rattle.spv_module.specs.Instruction.{Instruction}
use Rattle.spv_usage.specs.declared.stages.Stage.TheVariants.{Opening}
use Rattle.spv_bodies.specs.Bodies.{Body, Enters, Finishes, Front, Leaves, Selects, Step}
use Rattle.spv_typed_trees.specs.Typed.{Typed, as_instruction}

-- %10 = OpIAdd %3 %20 %20
abbrev pub sum : List ℕ
sum = 0x0005_0080 ∷ 3 ∷ 10 ∷ 20 ∷ 20 ∷ []

-- %12 = OpVariable %9 Function
abbrev pub variable : List ℕ
variable = 0x0004_003B ∷ 9 ∷ 12 ∷ 7 ∷ []

-- %2 = OpTypeBool, %3 = OpTypeInt 32 0, %9 = OpTypePointer Function %3, %5 = OpConstantTrue %2, %20 = OpConstant %3 7; the sum, and an OpPhi %11 of the type %3
abbrev pub told : List Instruction
told =
    as_instruction (0x0002_0014 ∷ 2 ∷ []) ∷ as_instruction (0x0004_0015 ∷ 3 ∷ 32 ∷ 0 ∷ []) ∷ as_instruction (0x0004_0020 ∷ 9 ∷ 7 ∷ 3 ∷ [])
    ∷ as_instruction (0x0003_0029 ∷ 2 ∷ 5 ∷ []) ∷ as_instruction (0x0004_002B ∷ 3 ∷ 20 ∷ 7 ∷ []) ∷ as_instruction sum
    ∷ as_instruction (0x0005_00F5 ∷ 3 ∷ 11 ∷ 20 ∷ 4 ∷ []) ∷ []

-- OpReturnValue
abbrev pub returning : ℕ → Body
returning value = Finishes (0x0002_00FE ∷ value ∷ [])

abbrev pub leave_with : (target value : ℕ) → Body
leave_with target value = Leaves (record { target = target; values = value ∷ [] })

-- the front %7 with a parameter %11 of the type %3
abbrev pub front : Front
front = record { label = 7; parameters = record { type = 3; result_id = 11; parents = [] } ∷ [] }

-- a selection on a condition: one arm carries the sum to its merge block, the other one a value; behind it the OpPhi is returned
abbrev pub chosen : (condition value : ℕ) → Body
chosen condition value = Selects 0 condition (Enters 6 (Step sum (leave_with 7 10))) (leave_with 7 value) front (returning 11)

-- in a function of the result type %3
abbrev pub IsTypedBody : Body → Type 0
IsTypedBody body = Typed told 3 [] Opening body

pub record AreTyped : Type 0 where
  pub chosen : IsTypedBody (chosen 5 20)
  pub head : IsTypedBody (Step variable (Step sum (returning 10)))

-- an arm that carries a boolean, a condition that is an integer, an exit to no front round it, a boolean that is returned, a variable behind another
-- instruction
pub record NotTyped : Type 0 where
  pub carried : ¬ IsTypedBody (chosen 5 5)
  pub condition : ¬ IsTypedBody (chosen 20 20)
  pub nowhere : ¬ IsTypedBody (leave_with 7 20)
  pub returned : ¬ IsTypedBody (returning 5)
  pub late : ¬ IsTypedBody (Step sum (Step variable (returning 10)))
