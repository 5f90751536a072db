use Rattle.std.proofs.Common.{arith}
use Rattle.spv_module.specs.View.{seen}
use Rattle.spv_sources.proofs.Words.{selection_words}
use Rattle.spv_sources.proofs.Closings.{merged_choice}
use Rattle.spv_sources.proofs.closing.choice.Goals as goal

pub control_at-requires-clause-control : goal.control_at-requires-clause-control
control_at-requires-clause-control c = (selection_words c.args.merge.now.words.now c.args.merge.now.roles.now c.args.merge.now.whole c.requires.merge).control

pub control_at-requires-clause-within : goal.control_at-requires-clause-within
control_at-requires-clause-within c = let long = (selection_words c.args.merge.now.words.now c.args.merge.now.roles.now c.args.merge.now.whole c.requires.merge).long in omega arith

pub id_at-requires : goal.id_at-requires
id_at-requires c = (selection_words c.args.merge.now.words.now c.args.merge.now.roles.now c.args.merge.now.whole c.requires.merge).merge

pub returns : goal.returns
returns c =
    merged_choice (seen c.args.merge.now) (seen c.args.end.now) c.args.merge.now.roles.now c.control_at.result c.id_at.result c.fork_of.result c.args.merge.now.whole c.requires.merge
    c.fork_of.ensures c.control_at.ensures c.id_at.ensures
