use Rattle.std.proofs.Common.{◌≡◌, ◌++◌, drop}
use Rattle.std.specs.Option.{option_map}
use Rattle.spv_grammar.specs.Operands.{operand_roles}
use Rattle.spv_grammar.proofs.operands.push_operands.Given as goal

abbrev pub invariant-operands : goal.invariant-operands
invariant-operands l =
    option_map (λ roles. l.fn.roles.items ++ roles) (operand_roles l.kinds l.words)
    ≡ option_map (λ roles. l.roles.items ++ roles) (operand_roles (drop l.kind-index l.kinds) l.rest)
