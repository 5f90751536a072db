use Rattle.std.proofs.Common.{List, ap, ◌∙◌}
use Rattle.spv_module.specs.Instruction.{Instruction}
use Rattle.spv_declarations.specs.Laws.{meanings}
use Rattle.spv_types.specs.Lookup.{specialised, declared_id}
use Rattle.spv_types.proofs.Lookups.{id_kept, whole_stands}
use Rattle.spv_types.proofs.lookup.Tables.declared.Goals as goal

pub returns : goal.returns
returns c =
    let insts = c.self.inside.kinds in
    let entries = c.self.inside.meanings.entries in
    c.id_numbered.ensures
    ∙ id_kept (meanings insts) (specialised insts) entries c.args.n (whole_stands insts c.self.inside.decorations entries c.self.invariant)
    ∙ ap (λ (is : List Instruction). declared_id is c.args.n) c.self.view_is
