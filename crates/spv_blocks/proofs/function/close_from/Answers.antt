use Rattle.std.proofs.Common.{◌∙◌, sym, arith}
use Rattle.spv_module.specs.View.{seen}
use Rattle.spv_blocks.proofs.BlockSteps.{open-goes_on, open-stops, found-goes_on, found-here, found-none}
use Rattle.spv_blocks.proofs.function.close_from.Goals as goal

pub returns-then-closes-clause-before : goal.returns-then-closes-clause-before
returns-then-closes-clause-before c =
    open-stops c.args.insts.now c.args.from c.instructions.k (seen c.at.result) c.at.ensures (sym c.closes.ensures ∙ c.if-closes.true) c.instructions.invariant.before

pub returns-then-closes-clause-found : goal.returns-then-closes-clause-found
returns-then-closes-clause-found c =
    found-here c.args.insts.now c.args.from c.instructions.k (seen c.at.result) c.at.ensures (sym c.closes.ensures ∙ c.if-closes.true) c.instructions.invariant.found

pub instructions-preserved : goal.instructions-preserved
instructions-preserved c = record {
  before = open-goes_on c.args.insts.now c.args.from c.instructions.k (seen c.at.result) (omega arith) c.at.ensures (sym c.closes.ensures ∙ c.if-closes.false) c.instructions.invariant.before;
  found = found-goes_on c.args.insts.now c.args.from c.instructions.k (seen c.at.result) c.at.ensures (sym c.closes.ensures ∙ c.if-closes.false) c.instructions.invariant.found;
}

pub returns-clause-found : goal.returns-clause-found
returns-clause-found c = found-none c.args.insts.now c.args.from c.instructions.k c.count.result (omega arith) (omega arith) c.instructions.invariant.found
