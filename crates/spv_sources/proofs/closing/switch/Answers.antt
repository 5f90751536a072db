use Rattle.std.proofs.Common.{◌∙◌, map, arith, ap}
use Rattle.spv_module.specs.View.{seen}
use Rattle.spv_tree.specs.Tree.{case_of}
use Rattle.spv_sources.proofs.Words.{selection_words, switch_words}
use Rattle.spv_sources.proofs.Closings.{merged_switch}
use Rattle.spv_sources.proofs.closing.switch.Goals as goal

pub control_at-requires-clause-control : goal.control_at-requires-clause-control
control_at-requires-clause-control c = (selection_words c.args.merge.now.words.now c.args.merge.now.roles.now c.args.merge.now.whole c.requires.merge).control

pub control_at-requires-clause-within : goal.control_at-requires-clause-within
control_at-requires-clause-within c = let long = (selection_words c.args.merge.now.words.now c.args.merge.now.roles.now c.args.merge.now.whole c.requires.merge).long in omega arith

pub id_at-requires : goal.id_at-requires
id_at-requires c = (selection_words c.args.merge.now.words.now c.args.merge.now.roles.now c.args.merge.now.whole c.requires.merge).merge

pub id_at-requires-2 : goal.id_at-requires-2
id_at-requires-2 c = (switch_words c.args.end.now.words.now c.args.end.now.roles.now c.args.end.now.whole c.requires.end).selector

pub id_at-requires-3 : goal.id_at-requires-3
id_at-requires-3 c = (switch_words c.args.end.now.words.now c.args.end.now.roles.now c.args.end.now.whole c.requires.end).default

pub returns : goal.returns
returns c =
    merged_switch (seen c.args.merge.now) (seen c.args.end.now) c.args.merge.now.roles.now c.args.end.now.roles.now c.control_at.result c.id_at.result c.id_at-2.result c.id_at-3.result
    c.from_vec-cases.result c.args.merge.now.whole c.args.end.now.whole c.requires.merge c.requires.end c.control_at.ensures c.id_at.ensures c.id_at-2.ensures c.id_at-3.ensures (ap (map case_of) c.from_vec-cases.ensures ∙ c.in_ok-cases_of.ensures)
