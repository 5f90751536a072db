use Rattle.std.proofs.Common.{◌∙◌, sym, arith}
use Rattle.spv_module.specs.View.{seen}
use Rattle.spv_sources.proofs.Sources.{heading-goes_on, blocks-goes_on, mark_found, mark_there}
use Rattle.spv_sources.proofs.heading.first_mark.Goals as goal

pub returns-then-is_label : goal.returns-then-is_label
returns-then-is_label c =
    mark_found c.args.insts.now c.each.k (seen c.at.result) c.at.ensures (sym c.is_label.ensures ∙ c.if-is_label.true) c.each.invariant.before c.each.invariant.blocks

pub each-preserved : goal.each-preserved
each-preserved c = record {
  before = heading-goes_on c.args.insts.now c.each.k (seen c.at.result) c.at.ensures (sym c.is_label.ensures ∙ c.if-is_label.false) c.each.invariant.before;
  blocks = blocks-goes_on c.args.insts.now c.each.k (seen c.at.result) c.at.ensures (sym c.is_label.ensures ∙ c.if-is_label.false) c.each.invariant.blocks;
}

pub unreachable-requires : goal.unreachable-requires
unreachable-requires c = mark_there c.args.insts.now c.each.k c.requires (omega arith) c.each.invariant.blocks
