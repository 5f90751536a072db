use Rattle.std.proofs.Common.{◌∙◌, sym}
use Rattle.spv_opcodes.specs.declared.op.TheConstants as op
use Rattle.spv_module.specs.Instruction.{opcode}
use Rattle.spv_module.specs.View.{seen}
use Rattle.spv_walk.proofs.Unique.{equal_true}
use Rattle.spv_sources.proofs.Filled.{filled-other, filled-more}
use Rattle.spv_sources.proofs.Words.{label_words}
use Rattle.spv_sources.proofs.begins.add_block.Goals as goal

pub id_at-requires : goal.id_at-requires
id_at-requires c =
    (label_words c.at-inst.result.words.now c.at-inst.result.roles.now c.at-inst.result.whole (equal_true (opcode (seen c.at-inst.result)) op.LABEL (sym c.is_label.ensures ∙ c.if-is_label.true))).id

pub returns-in_ok-add_begin : goal.returns-in_ok-add_begin
returns-in_ok-add_begin c = λ filled.
    filled-more c.args.insts.now c.args.k (seen c.at-inst.result) c.at-inst.ensures c.requires c.args.begins.now c.add_begin.new.begins c.number.result
    (sym c.is_label.ensures ∙ c.if-is_label.true) (c.number.ensures.same ∙ c.id_at.ensures) c.in_ok-add_begin.ensures filled

pub returns-else-is_label : goal.returns-else-is_label
returns-else-is_label c = λ filled.
    filled-other c.args.insts.now c.args.k (seen c.at-inst.result) c.at-inst.ensures c.requires c.args.begins.now (sym c.is_label.ensures ∙ c.if-is_label.false) filled
