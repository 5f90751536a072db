use Rattle.spv_built_edits.proofs.ReplacedNames as names
use Rattle.spv_built_edits.proofs.ReplacedWhole as whole
use Rattle.spv_built_edits.proofs.replaced.replaced_law.Goals as goal

pub returns-clause-rewritten : goal.returns-clause-rewritten
returns-clause-rewritten c = whole.replaced_is_rewritten

pub returns-clause-instructions : goal.returns-clause-instructions
returns-clause-instructions c = whole.replaced_are_instructions

pub returns-clause-built : goal.returns-clause-built
returns-clause-built c = whole.replaced_is_built

pub returns-clause-interfaces : goal.returns-clause-interfaces
returns-clause-interfaces c = whole.interfaces_where_replaced

pub returns-clause-names : goal.returns-clause-names
returns-clause-names c = names.names_where_replaced
