use Rattle.std.proofs.Common.{List, ap, ◌∙◌}
use Rattle.spv_module.specs.Instruction.{Instruction}
use Rattle.spv_declarations.specs.Laws.{meanings}
use Rattle.spv_types.specs.Lookup.{specialised, constant_kind}
use Rattle.spv_types.proofs.Lookups.{whole_stands}
use Rattle.spv_types.proofs.lookup.Tables.constant.Goals as goal

pub returns : goal.returns
returns c =
    let insts = c.self.inside.kinds in
    c.kind_of.ensures (meanings insts) (specialised insts) (whole_stands insts c.self.inside.decorations c.self.inside.meanings.entries c.self.invariant)
    ∙ ap (constant_kind insts) c.number.ensures.same
    ∙ ap (λ (is : List Instruction). constant_kind is c.args.id) c.self.view_is
