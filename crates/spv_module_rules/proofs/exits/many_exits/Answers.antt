use Rattle.std.proofs.Common.{sym, ap, subst, ◌∙◌}
use Rattle.std.specs.Prelude.{nat_le}
use Rattle.spv_functions.proofs.Shapes.{shapes_are_functions}
use Rattle.spv_module_rules.specs.Kept.{IsFirstCrowded, blocks_together}
use Rattle.spv_module_rules.proofs.Few.{few-crowd_none}
use Rattle.spv_module_rules.proofs.exits.many_exits.Goals as goal

pub returns-then-have_few_blocks : goal.returns-then-have_few_blocks
returns-then-have_few_blocks c =
    few-crowd_none c.args.flat.now.insts
    (ap (λ fs. nat_le (blocks_together fs) 8191) (sym (shapes_are_functions c.args.flat.now.insts c.args.shapes.now c.requires))
    ∙ sym c.have_few_blocks.ensures ∙ c.if-have_few_blocks.true)

pub returns : goal.returns
returns c = λ unbroken.
    let are = c.nested_together-nested.ensures in
    subst (λ fs. IsFirstCrowded fs c.in_ok-refusal.refusal) (shapes_are_functions c.args.flat.now.insts c.args.shapes.now c.requires)
    (record { nested = are.nested; together = are.together; same = c.in_ok-refusal.ensures are.nested are.same })
