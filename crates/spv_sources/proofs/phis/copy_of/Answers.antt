use Rattle.std.proofs.Common.{◌≡◌, ◌+◌, arith}
use Rattle.spv_sources.proofs.Words.{phi_words}
use Rattle.spv_sources.proofs.Collected.{copy_unbroken}
use Rattle.spv_sources.proofs.phis.copy_of.Goals as goal

pub id_at-value_type-requires : goal.id_at-value_type-requires
id_at-value_type-requires c = (phi_words c.args.phi.now.inst.words.now c.args.phi.now.inst.roles.now c.args.phi.now.inst.whole c.args.phi.now.is_phi).type

pub id_at-result_id-requires : goal.id_at-result_id-requires
id_at-result_id-requires c = (phi_words c.args.phi.now.inst.words.now c.args.phi.now.inst.roles.now c.args.phi.now.inst.whole c.args.phi.now.is_phi).result_id

pub new-requires-clause-unbroken : goal.new-requires-clause-unbroken
new-requires-clause-unbroken c =
    let head : 262144 + c.from.result ≡ 262227 = omega arith in
    copy_unbroken (262144 + c.from.result) c.number.result c.number-2.result c.number-3.result head c.number.ensures.above_zero c.number.type_inv c.number-2.ensures.above_zero c.number-2.type_inv
    c.number-3.ensures.above_zero c.number-3.type_inv
