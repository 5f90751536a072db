use Rattle.std.proofs.Common.{true, false, List, ap, ◌∙◌}
use Rattle.spv_module.specs.Instruction.{Instruction}
use Rattle.spv_meaning.specs.Constants.{type_at}
use Rattle.spv_declarations.specs.Laws.{meanings}
use Rattle.spv_types.specs.Lookup.{specialised, data_cells}
use Rattle.spv_types.proofs.Lookups.{cells_are, whole_stands}
use Rattle.spv_types.proofs.lookup.Tables.cells.Goals as goal

pub returns-then-facts : goal.returns-then-facts
returns-then-facts c =
    let insts = c.self.inside.kinds in
    let stands = whole_stands insts c.self.inside.decorations c.self.inside.meanings.entries c.self.invariant in
    cells_are c.type_facts-facts.result (type_at (meanings insts) c.number.result) true (c.type_facts-facts.ensures (meanings insts) (specialised insts) stands) c.if-facts.true
    ∙ ap (data_cells insts) c.number.ensures.same
    ∙ ap (λ (is : List Instruction). data_cells is c.args.ty) c.self.view_is

pub returns-else-facts : goal.returns-else-facts
returns-else-facts c =
    let insts = c.self.inside.kinds in
    let stands = whole_stands insts c.self.inside.decorations c.self.inside.meanings.entries c.self.invariant in
    cells_are c.type_facts-facts.result (type_at (meanings insts) c.number.result) false (c.type_facts-facts.ensures (meanings insts) (specialised insts) stands) c.if-facts.false
    ∙ ap (data_cells insts) c.number.ensures.same
    ∙ ap (λ (is : List Instruction). data_cells is c.args.ty) c.self.view_is
