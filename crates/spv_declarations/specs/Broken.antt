-- The broken rules of the third group: ids, types, constants, decorations and global variables.
use Rattle.std.specs.Prelude.{ℕ, ◌+◌, Bool, true, cond, ◌==◌, ◌&&◌, ◌||◌, not, nat_le, List, [], ◌∷◌, ◌++◌, slice_index, Option, Some, None}
use Rattle.spv_base.specs.declared.fault.Refusal.{Refusal}
use Rattle.spv_opcodes.specs.declared.op.TheConstants as op
use Rattle.spv_module.specs.Code.{is_line}
use Rattle.spv_module.specs.First.{here, unless}
use Rattle.spv_module.specs.Instruction.{Instruction, opcode}
use Rattle.spv_meaning.specs.Constants.{Meaning, IsType, pointer_at}
use Rattle.spv_meaning.specs.Meanings.{is_laid}
use Rattle.spv_ids.specs.Ids.{id_rules}
use Rattle.spv_repeats.specs.Repeats.{occurs_before, repeats_before}
use Rattle.spv_typing.specs.Types.{type_fits}
use Rattle.spv_typing.specs.Operations.{spec_op_fits}
use Rattle.spv_decorations.specs.Targets.{decoration_fits}
use Rattle.spv_decorations.specs.Globals.{global_fits}
use Rattle.spv_declarations.specs.Constants.{constant_fits}
use Rattle.spv_declarations.specs.Declarations.{Declared, nothing_declared, declare, says, entry}
use Rattle.spv_declarations.specs.Depth.{depth, is_laid_out}

-- a type nests at most 255 deep; everything else passes
abbrev pub depth_fits : Option (ℕ × Meaning) → Bool
depth_fits (Some (r, IsType t)) = nat_le (depth t) 255
depth_fits other = true

-- the type of a global StorageBuffer, Uniform or PushConstant variable is laid out; every other instruction passes
abbrev pub layout_fits : Declared → Instruction → Bool
layout_fits d i =
    d.begun || not (opcode i == op.VARIABLE) || not (is_laid (slice_index i.words 3)) || is_laid_out (pointer_at d.table (slice_index i.words 1)).1

-- the rules that the k-th instruction breaks, behind those that declared so much: 303 BadType, 304 BadConstant, 305 BadSpecOp, 306 BadDecoration,
-- 307 BadLayout, 308 BadGlobal, 309 TypeDepth
abbrev pub declaration_rules : List Instruction → Declared → (k : ℕ) → Instruction → List ℕ
declaration_rules insts d k i =
    unless (type_fits insts i && not (occurs_before insts k i)) 303
    ++ (unless (d.begun || constant_fits insts d i) 304
    ++ (unless (spec_op_fits insts i) 305
    ++ (unless (decoration_fits insts i && not (repeats_before insts k i)) 306
    ++ (unless (layout_fits d i) 307
    ++ (unless (global_fits insts d.begun i) 308
    ++ unless (depth_fits (cond d.begun None (entry (says insts) d.table i))) 309)))))

-- with 301 IdTwice and 302 IdUnknown; line marks are looked past
unfoldable pub rules_at : List Instruction → Declared → (k : ℕ) → Instruction → List ℕ
rules_at insts d k i = cond (is_line i) [] (id_rules insts d.begun k i ++ declaration_rules insts d k i)

unfoldable pub group_3_from : (insts : List Instruction) → Declared → (k : ℕ) → List Instruction → List Refusal
group_3_from insts d k [] = []
group_3_from insts d k (i ∷ is) = here i.offset (rules_at insts d k i) ++ group_3_from insts (declare (says insts) d i) (k + 1) is

abbrev pub group_3 : List Instruction → List Refusal
group_3 insts = group_3_from insts nothing_declared 0 insts
