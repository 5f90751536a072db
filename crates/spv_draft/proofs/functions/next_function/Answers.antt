use Rattle.std.proofs.Common.{sym, ◌∙◌, arith}
use Rattle.spv_module.specs.View.{seen}
use Rattle.spv_draft.proofs.FunctionSteps.{next-behind, next-here}
use Rattle.spv_draft.proofs.functions.next_function.Goals as goal

pub search-preserved : goal.search-preserved
search-preserved c = record {
  same =
      c.search.invariant.same
      ∙ next-behind c.args.lines.now c.search.at (seen c.at.result) c.at.ensures (sym c.is_function.ensures ∙ c.if-not-is_function.true);
  onward = omega (arith, c.search.invariant.onward);
  within = omega (arith, c.search.invariant.within, c.count.ensures.few, c.count.ensures.same);
}

pub returns-else-not-is_function-clause-place : goal.returns-else-not-is_function-clause-place
returns-else-not-is_function-clause-place c =
    sym (c.search.invariant.same
    ∙ next-here c.args.lines.now c.search.at (seen c.at.result) c.at.ensures (sym c.is_function.ensures ∙ c.if-not-is_function.false))
