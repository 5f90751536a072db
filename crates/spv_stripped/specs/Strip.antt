-- A module without what says something of its source alone.
use Rattle.std.specs.Prelude.{Bool, ◌==◌, ◌&&◌, not, List, [], ◌∷◌, filter}
use Rattle.std.specs.List.{list_any}
use Rattle.spv_opcodes.specs.declared.op.TheConstants as op
use Rattle.spv_bound.specs.Bound.{bound_of_ids}
use Rattle.spv_module.specs.Code.{Code, is_line}
use Rattle.spv_module.specs.Instruction.{Instruction, opcode}

-- strings, sources, names and notes on how the module was processed
abbrev pub is_debug : Instruction → Bool
is_debug i =
    list_any (λ o. opcode i == o)
    (op.STRING ∷ op.SOURCE ∷ op.SOURCE_CONTINUED ∷ op.SOURCE_EXTENSION ∷ op.NAME ∷ op.MEMBER_NAME ∷ op.MODULE_PROCESSED ∷ [])

-- what stays: neither these nor line marks
abbrev pub stays : Instruction → Bool
stays i = not (is_debug i) && not (is_line i)

abbrev pub stripped_insts : List Instruction → List Instruction
stripped_insts insts = filter stays insts

-- under the bound that its ids ask for
abbrev pub stripped : Code → Code
stripped code = record {
  header = record code.header { bound = bound_of_ids (stripped_insts code.insts) };
  insts = stripped_insts code.insts;
}
