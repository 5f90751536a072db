use Rattle.std.proofs.Common.{◌∙◌}
use Rattle.spv_value.proofs.Searches.{find_u_msb_is}
use Rattle.spv_value.proofs.bits.find_u_msb.Goals as goal

pub returns : goal.returns
returns c =
    let k = c.checked_ilog2.ensures in
    c.unwrap_or.ensures ∙ find_u_msb_is c.args.a c.checked_ilog2.result k.none k.power_le k.next_power_gt k.bound
