use Rattle.std.proofs.Common.{Option, subst}
use Rattle.std.proofs.lemmas.Result.{IfOk-weaker}
use Rattle.spv_module.specs.View.{seen}
use Rattle.spv_composites.specs.Forms.{Form}
use Rattle.spv_composites.specs.Numbering.{IsNumber, Grows}
use Rattle.spv_composites.proofs.Typing.{form_of-array, form_of-struct}
use Rattle.spv_composites.proofs.numbering.number_of_type.Goals as goal

pub returns-in-28 : goal.returns-in-28
returns-in-28 c =
    let new = c.number_of_array.new.nodes in
    IfOk-weaker c.number_of_array.result _ _
    (λ n numbered table h.
    subst (λ (f : Option Form). Grows c.args.nodes.now new × IsNumber new n f)
    (form_of-array c.args.tables.now table (seen c.args.inst.now) c.opcode.result c.word.result c.word-in-28.result c.opcode.ensures c.in-28.is c.word.ensures c.word-in-28.ensures)
    (numbered table h))
    c.number_of_array.ensures

pub returns-in-30 : goal.returns-in-30
returns-in-30 c =
    let new = c.number_of_struct.new.nodes in
    IfOk-weaker c.number_of_struct.result _ _
    (λ n numbered table h.
    subst (λ (f : Option Form). Grows c.args.nodes.now new × IsNumber new n f)
    (form_of-struct c.args.tables.now table (seen c.args.inst.now) c.opcode.result c.words_from.result.now c.opcode.ensures c.in-30.is c.words_from.ensures)
    (numbered table h))
    c.number_of_struct.ensures
