use Rattle.spv_declarations.proofs.Modules as modules
use Rattle.spv_declarations.proofs.laws.types_law.Goals as goal

pub returns-clause-stands : goal.returns-clause-stands
returns-clause-stands c = modules.types_stand

pub returns-clause-only : goal.returns-clause-only
returns-clause-only c = modules.only_types_stand

pub returns-clause-nests : goal.returns-clause-nests
returns-clause-nests c = modules.types_nest

pub returns-clause-shapes : goal.returns-clause-shapes
returns-clause-shapes c = modules.shapes_stand

pub returns-clause-laid : goal.returns-clause-laid
returns-clause-laid c = modules.variables_laid
