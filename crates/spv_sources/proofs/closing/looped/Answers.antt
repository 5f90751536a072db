use Rattle.std.proofs.Common.{arith}
use Rattle.spv_module.specs.View.{seen}
use Rattle.spv_sources.proofs.Words.{loop_words}
use Rattle.spv_sources.proofs.Closings.{merged_loop}
use Rattle.spv_sources.proofs.closing.looped.Goals as goal

pub control_at-requires-clause-control : goal.control_at-requires-clause-control
control_at-requires-clause-control c = (loop_words c.args.merge.now.words.now c.args.merge.now.roles.now c.args.merge.now.whole c.requires.merge).control

pub control_at-requires-clause-within : goal.control_at-requires-clause-within
control_at-requires-clause-within c = let long = (loop_words c.args.merge.now.words.now c.args.merge.now.roles.now c.args.merge.now.whole c.requires.merge).long in omega arith

pub id_at-requires : goal.id_at-requires
id_at-requires c = (loop_words c.args.merge.now.words.now c.args.merge.now.roles.now c.args.merge.now.whole c.requires.merge).merge

pub id_at-requires-2 : goal.id_at-requires-2
id_at-requires-2 c = (loop_words c.args.merge.now.words.now c.args.merge.now.roles.now c.args.merge.now.whole c.requires.merge).next

pub returns : goal.returns
returns c =
    merged_loop (seen c.args.merge.now) (seen c.args.end.now) c.args.merge.now.roles.now c.control_at.result c.id_at.result c.id_at-2.result c.loop_end_of.result
    c.args.merge.now.whole c.requires.merge c.loop_end_of.ensures c.control_at.ensures c.id_at.ensures c.id_at-2.ensures
