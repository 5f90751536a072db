use Rattle.std.proofs.Common.{◌∙◌, sym, take, arith}
use Rattle.spv_module.specs.Instruction.{instruction_rules}
use Rattle.spv_module.proofs.Unbroken.{nil_from_least, front_is}
use Rattle.spv_module.proofs.instructions.front.Goals as goal

pub returns-in-None : goal.returns-in-None
returns-in-None c =
    front_is c.args.bound c.from-count.result c.args.words.now c.broken_rule.new.roles.items (omega arith) (sym (c.from-count.ensures ∙ c.count_of.ensures)) (omega arith) (omega arith)
    (c.in_ok-rule.ensures.parts c.in-None.is)
    (nil_from_least (instruction_rules c.args.bound (take c.from-count.result c.args.words.now)) (sym c.in_ok-rule.ensures.rule ∙ c.in-None.is))
