use Rattle.spv_typing.specs.declared.operations.Form.TheVariants.{Extracts, Ints, Bools, Compares, Selects, Shuffles, Inserts}
use Rattle.spv_types.proofs.FormLemmas.{computes_by, evaluated_as, ints_compute, bools_compute, compares_compute, selects_compute, shuffles_compute, inserts_compute}
use Rattle.std.proofs.Common.{◌∙◌, ap}
use Rattle.spv_typing.specs.Operations.{count_of}
use Rattle.spv_types.proofs.ExtractLemmas.{extracts_compute}
use Rattle.spv_types.proofs.computed_constant.by_form.Goals as goal

pub returns-in-Shuffles : goal.returns-in-Shuffles
returns-in-Shuffles c = λ k i ready before fits known.
    computes_by c.args.kinds.now k c.args.opcode c.args.t c.args.operands.now c.shuffled.result c.args.form Shuffles c.in-Shuffles.is
    (shuffles_compute c.args.kinds.now k i c.args.meanings.now.entries ready c.args.opcode c.args.t c.args.operands.now c.shuffled.result before (c.shuffled.ensures _ _ ready.stand))
    fits known

pub returns-in-Extracts : goal.returns-in-Extracts
returns-in-Extracts c = λ k i ready before fits known.
    computes_by c.args.kinds.now k c.args.opcode c.args.t c.args.operands.now c.extracted.result c.args.form Extracts c.in-Extracts.is
    (extracts_compute c.args.kinds.now k i c.args.meanings.now.entries ready c.args.opcode c.args.t c.count_of.result c.args.operands.now c.extracted.result before (c.count_of.ensures ∙ ap count_of c.shape.ensures)
    (λ u small same few. c.extracted.ensures _ _ u ready.stand ready.composed small same few))
    fits known

pub returns-in-Inserts : goal.returns-in-Inserts
returns-in-Inserts c = λ k i ready before fits known.
    computes_by c.args.kinds.now k c.args.opcode c.args.t c.args.operands.now c.inserted.result c.args.form Inserts c.in-Inserts.is
    (inserts_compute c.args.kinds.now k i c.args.meanings.now.entries ready c.args.opcode c.args.t c.args.operands.now c.inserted.result before (c.inserted.ensures _ _ ready.stand))
    fits known

pub returns-in-Ints : goal.returns-in-Ints
returns-in-Ints c = λ k i ready before fits known.
    computes_by c.args.kinds.now k c.args.opcode c.args.t c.args.operands.now c.evaluated.result c.args.form (Ints c.in-Ints.field-0) c.in-Ints.is
    (ints_compute c.args.kinds.now k i c.args.meanings.now.entries ready c.in-Ints.field-0 c.args.opcode c.args.t c.args.operands.now c.evaluated.result before
    (evaluated_as c.args.kinds.now k c.args.opcode c.args.operands.now c.evaluated.result c.args.form (Ints c.in-Ints.field-0) c.in-Ints.is (λ n small suited. c.evaluated.ensures _ _ n ready.stand small suited)))
    fits known

pub returns-in-Bools : goal.returns-in-Bools
returns-in-Bools c = λ k i ready before fits known.
    computes_by c.args.kinds.now k c.args.opcode c.args.t c.args.operands.now c.evaluated-in-Bools.result c.args.form (Bools c.in-Bools.field-0) c.in-Bools.is
    (bools_compute c.args.kinds.now k i c.args.meanings.now.entries ready c.in-Bools.field-0 c.args.opcode c.args.t c.args.operands.now c.evaluated-in-Bools.result before
    (evaluated_as c.args.kinds.now k c.args.opcode c.args.operands.now c.evaluated-in-Bools.result c.args.form (Bools c.in-Bools.field-0) c.in-Bools.is (λ n small suited. c.evaluated-in-Bools.ensures _ _ n ready.stand small suited)))
    fits known

pub returns-in-Compares : goal.returns-in-Compares
returns-in-Compares c = λ k i ready before fits known.
    computes_by c.args.kinds.now k c.args.opcode c.args.t c.args.operands.now c.evaluated-in-Compares.result c.args.form Compares c.in-Compares.is
    (compares_compute c.args.kinds.now k i c.args.meanings.now.entries ready c.args.opcode c.args.t c.args.operands.now c.evaluated-in-Compares.result before
    (evaluated_as c.args.kinds.now k c.args.opcode c.args.operands.now c.evaluated-in-Compares.result c.args.form Compares c.in-Compares.is (λ n small suited. c.evaluated-in-Compares.ensures _ _ n ready.stand small suited)))
    fits known

pub returns-in-Selects : goal.returns-in-Selects
returns-in-Selects c = λ k i ready before fits known.
    computes_by c.args.kinds.now k c.args.opcode c.args.t c.args.operands.now c.evaluated-in-Selects.result c.args.form Selects c.in-Selects.is
    (selects_compute c.args.kinds.now k i c.args.meanings.now.entries ready c.args.opcode c.args.t c.args.operands.now c.evaluated-in-Selects.result before
    (evaluated_as c.args.kinds.now k c.args.opcode c.args.operands.now c.evaluated-in-Selects.result c.args.form Selects c.in-Selects.is (λ n small suited. c.evaluated-in-Selects.ensures _ _ n ready.stand small suited)))
    fits known
