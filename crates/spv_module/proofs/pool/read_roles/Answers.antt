use Rattle.std.proofs.Common.{◌^◌, ◌∙◌, ap, length}
use Rattle.spv_grammar.specs.Operands.{answered}
use Rattle.spv_module.proofs.Whole.{misread, parts_read, whole_by_words}
use Rattle.spv_module.proofs.pool.read_roles.Goals as goal

pub unreachable-requires : goal.unreachable-requires
unreachable-requires c =
    misread (2 ^ 32) c.args.words.now c.clear.new.self.items c.push_roles.new.roles.items c.in_default.field-0
    (c.in_ok-push_roles.ensures ∙ ap (answered c.push_roles.new.roles.items) c.in_default.is) c.requires.unbroken

pub returns-clause-parts : goal.returns-clause-parts
returns-clause-parts c =
    parts_read c.args.words.now c.clear.new.self.items c.push_roles.new.roles.items c.in_ok-push_roles.field-0 c.clear.ensures.items c.in_ok-push_roles.ensures c.requires.unbroken

pub returns-clause-long : goal.returns-clause-long
returns-clause-long c =
    ap length (parts_read c.args.words.now c.clear.new.self.items c.push_roles.new.roles.items c.in_ok-push_roles.field-0 c.clear.ensures.items c.in_ok-push_roles.ensures c.requires.unbroken)
    ∙ (whole_by_words c.args.words.now c.requires.some c.requires.counted c.requires.unbroken).long
