use Rattle.spv_types.proofs.ConstantLemmas.{number_kept, no_number_kept}
use Rattle.spv_types.proofs.operands.number_of.Goals as goal

pub returns-clause-found : goal.returns-clause-found
returns-clause-found c = number_kept c.args.meanings.now.entries c.args.id c.get_index_of.result c.get_index_of.ensures.index

pub returns-clause-absent : goal.returns-clause-absent
returns-clause-absent c = no_number_kept c.args.meanings.now.entries c.args.id c.get_index_of.result c.get_index_of.ensures.index
