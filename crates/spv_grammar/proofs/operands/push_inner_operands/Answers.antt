use Rattle.std.proofs.Common.{◌≤◌, arith, ap}
use Rattle.spv_grammar.specs.Operands.{behind}
use Rattle.spv_grammar.proofs.Rows.{inner_roles-above}
use Rattle.spv_grammar.proofs.operands.push_inner_operands.Goals as goal

pub returns-in_default : goal.returns-in_default
returns-in_default c =
    let above : 65536 ≤ c.args.opcode = omega arith in
    ap (behind c.args.roles.now.items) (inner_roles-above c.args.opcode c.args.words.now above)
