use Rattle.std.proofs.Common.{◌∙◌, sym}
use Rattle.spv_module.specs.View.{seen}
use Rattle.spv_sources.proofs.Words.{branch_words}
use Rattle.spv_sources.proofs.Closings.{loop_branch}
use Rattle.spv_sources.proofs.closing.loop_end_of.Goals as goal

pub id_at-requires : goal.id_at-requires
id_at-requires c = (branch_words c.args.end.now.words.now c.args.end.now.roles.now c.args.end.now.whole (sym c.opcode.ensures ∙ c.in-249.is)).id

pub returns-in-249 : goal.returns-in-249
returns-in-249 c = loop_branch (seen c.args.end.now) c.args.end.now.roles.now c.id_at.result c.args.end.now.whole (sym c.opcode.ensures ∙ c.in-249.is) c.id_at.ensures
