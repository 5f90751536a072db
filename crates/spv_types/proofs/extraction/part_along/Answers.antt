use Rattle.std.proofs.Common.{subst, Option, Ok, Err, slice_index}
use Rattle.spv_types.specs.declared.meaning.Constant.{Constant}
use Rattle.spv_types.specs.Declaring.{IsOperandOf}
use Rattle.spv_types.specs.Extracting.{IsStep}
use Rattle.spv_types.proofs.Reaching.{reached-first, reached-next, reached-out, reached-end}
use Rattle.spv_types.proofs.extraction.part_along.Goals as goal

pub literals-init : goal.literals-init
literals-init c = λ table specialised t u h composed part leads. reached-first table t u c.args.first c.args.literals.now part leads

pub literals-preserved : goal.literals-preserved
literals-preserved c = λ table specialised t u h composed part leads.
    reached-next table specialised c.args.meanings.now.entries t u c.args.first c.literals.number c.args.count c.in-Ok.part c.args.literals.now c.literals.index-index c.literals-test.true h composed
    (c.literals.invariant table specialised t u h composed part leads)
    (subst (λ (o : Option Constant). IsStep o (slice_index c.args.literals.now c.literals.index-index) c.args.count (Ok c.in-Ok.part)) c.constant_numbered.ensures c.in-Ok.ensures)

pub returns-in-Err : goal.returns-in-Err
returns-in-Err c = λ table specialised t u h composed part leads small same few.
    reached-out table specialised c.args.meanings.now.entries t u c.args.first c.literals.number c.args.count c.in-Err.operand c.args.literals.now c.literals.index-index c.literals-test.true h composed same few
    (c.literals.invariant table specialised t u h composed part leads)
    (subst (λ (o : Option Constant). IsStep o (slice_index c.args.literals.now c.literals.index-index) c.args.count (Err c.in-Err.operand)) c.constant_numbered.ensures c.in-Err.ensures)

pub returns : goal.returns
returns c = λ table specialised t u h composed part leads small same few.
    reached-end table specialised c.args.meanings.now.entries t u c.args.first c.literals.number c.operand_in.result c.args.literals.now c.literals.index-index c.literals-test.false h small
    (c.literals.invariant table specialised t u h composed part leads)
    (subst (λ (o : Option Constant). IsOperandOf o c.operand_in.result) c.constant_numbered-2.ensures c.operand_in.ensures)
