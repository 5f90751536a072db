use Rattle.spv_sources.proofs.Words.{phi_words}
use Rattle.spv_sources.proofs.phis.parameter.Goals as goal

pub id_at-requires : goal.id_at-requires
id_at-requires c = (phi_words c.args.phi.now.inst.words.now c.args.phi.now.inst.roles.now c.args.phi.now.inst.whole c.args.phi.now.is_phi).type

pub id_at-requires-2 : goal.id_at-requires-2
id_at-requires-2 c = (phi_words c.args.phi.now.inst.words.now c.args.phi.now.inst.roles.now c.args.phi.now.inst.whole c.args.phi.now.is_phi).result_id
