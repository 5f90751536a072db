-- The broken rules of the second group: the order of sections and the shape of functions. They look past line marks.
use Rattle.std.specs.Prelude.{◌≡◌, ℕ, zero, suc, ◌+◌, ◌≤◌, Bool, true, false, cond, ◌==◌, ◌&&◌, ◌||◌, not, nat_lt, nat_le, List, [], ◌∷◌, ◌++◌, length, filter, Option, Some, None}
use Rattle.std.specs.List.{list_any, fold}
use Rattle.spv_base.specs.declared.fault.Refusal.{Refusal}
use Rattle.spv_opcodes.specs.declared.op.TheConstants as op
use Rattle.spv_module.specs.Instruction.{Instruction, opcode}
use Rattle.spv_module.specs.declared.layout.Place.{Place}
use Rattle.spv_module.specs.declared.layout.Place.TheVariants.{Outside, Head, Between, Inside}
use Rattle.spv_module.specs.Code.{plain_section, is_function, is_line}
use Rattle.spv_module.specs.First.{here, unless, first}

abbrev pub is_terminator : Instruction → Bool
is_terminator i =
    opcode i == op.BRANCH || opcode i == op.BRANCH_CONDITIONAL || opcode i == op.SWITCH || opcode i == op.RETURN || opcode i == op.RETURN_VALUE || opcode i == op.UNREACHABLE

abbrev pub is_outside : Place → Bool
is_outside Outside = true
is_outside _ = false

abbrev pub is_head : Place → Bool
is_head Head = true
is_head _ = false

abbrev pub is_inside : Place → Bool
is_inside Inside = true
is_inside _ = false

-- the place behind an instruction: a block begins with OpLabel and ends with its terminator
abbrev pub behind : Place → Instruction → Place
behind place i =
    cond (opcode i == op.FUNCTION) Head
    (cond (opcode i == op.FUNCTION_END) Outside
    (cond (opcode i == op.LABEL) Inside
    (cond (is_terminator i) Between
    place)))

abbrev pub place_behind : List Instruction → Place
place_behind insts = fold behind Outside insts

-- the sections of instructions without line marks, and that of an instruction behind them
abbrev pub plain_sections : (begun : Bool) → List Instruction → List ℕ
plain_sections begun [] = []
plain_sections begun (i ∷ is) = plain_section begun i ∷ plain_sections (begun || is_function i) is

abbrev pub section_behind : List Instruction → Instruction → ℕ
section_behind before i = plain_section (list_any is_function before) i

-- 201 LayoutOrder: the section comes before one that has begun
abbrev pub order_rule : List Instruction → Instruction → List ℕ
order_rule before i = unless (not (list_any (λ section. nat_lt (section_behind before i) section) (plain_sections false before))) 201

-- 203 MissingMemoryModel, of a second one
abbrev pub is_memory_model : Instruction → Bool
is_memory_model i = opcode i == op.MEMORY_MODEL

abbrev pub second_model_rule : List Instruction → Instruction → List ℕ
second_model_rule before i = unless (not (is_memory_model i && list_any is_memory_model before)) 203

-- 205 FunctionShape: OpFunction stands inside a function; OpFunctionParameter does not follow OpFunction or another parameter; OpFunctionEnd stands
-- outside a function or ends one without a block; OpLabel stands outside a function; or another instruction of functions stands outside a block
abbrev pub fits_place : Place → ℕ → Instruction → Bool
fits_place place section i =
    cond (opcode i == op.FUNCTION) (is_outside place)
    (cond (opcode i == op.FUNCTION_PARAMETER) (is_head place)
    (cond (opcode i == op.FUNCTION_END) (not (is_outside place) && not (is_head place))
    (cond (opcode i == op.LABEL) (not (is_outside place))
    (cond (section == 11) (is_inside place)
    true))))

abbrev pub shape_rule : List Instruction → Instruction → List ℕ
shape_rule before i = unless (fits_place (place_behind before) (section_behind before i) i) 205

-- the rules that an instruction behind these breaks, and those that all instructions break
abbrev pub layout_rules : List Instruction → Instruction → List ℕ
layout_rules before i = order_rule before i ++ (second_model_rule before i ++ shape_rule before i)

unfoldable pub layout_from : List Instruction → List Instruction → List Refusal
layout_from before [] = []
layout_from before (i ∷ is) = here i.offset (layout_rules before i) ++ layout_from (before ++ i ∷ []) is

-- 202 MissingCapability, 203 MissingMemoryModel, 204 MissingEntryPoint: there is none; the only capability of the profile is Shader
abbrev pub is_capability : Instruction → Bool
is_capability i = opcode i == op.CAPABILITY

abbrev pub is_entry_point : Instruction → Bool
is_entry_point i = opcode i == op.ENTRY_POINT

abbrev pub missing_rules : List Instruction → List ℕ
missing_rules insts = unless (list_any is_capability insts) 202 ++ (unless (list_any is_memory_model insts) 203 ++ unless (list_any is_entry_point insts) 204)

-- 205 FunctionShape: the words end inside a function
abbrev pub end_rule : List Instruction → List ℕ
end_rule insts = unless (is_outside (place_behind insts)) 205

-- what the rules on the layout find; `end` is the place behind the last word
abbrev pub without_lines : List Instruction → List Instruction
without_lines insts = filter (λ i. not (is_line i)) insts

abbrev pub group_2 : (end : ℕ) → List Instruction → List Refusal
group_2 end insts = here 5 (missing_rules (without_lines insts)) ++ (layout_from [] (without_lines insts) ++ here end (end_rule (without_lines insts)))

-- places rise from n on, and all are below the end
abbrev pub RisesTo : (end n : ℕ) → List Instruction → Type 0
RisesTo end n [] = n ≤ end
RisesTo end n (i ∷ is) = (n ≤ i.offset) × RisesTo end (suc i.offset) is
