use Rattle.spv_sources.proofs.Words.{split_words}
use Rattle.spv_sources.proofs.closing.fork_of.Goals as goal

pub id_at-requires : goal.id_at-requires
id_at-requires c = (split_words c.args.end.now.words.now c.args.end.now.roles.now c.args.end.now.whole c.requires).condition

pub id_at-requires-2 : goal.id_at-requires-2
id_at-requires-2 c = (split_words c.args.end.now.words.now c.args.end.now.roles.now c.args.end.now.whole c.requires).first

pub id_at-requires-3 : goal.id_at-requires-3
id_at-requires-3 c = (split_words c.args.end.now.words.now c.args.end.now.roles.now c.args.end.now.whole c.requires).second
