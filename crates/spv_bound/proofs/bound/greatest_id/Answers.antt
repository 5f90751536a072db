use Rattle.std.proofs.Common.{◌∙◌, ap, sym}
use Rattle.spv_module.specs.Instruction.{parts}
use Rattle.spv_module.specs.View.{seen}
use Rattle.spv_bound.proofs.Greatest.{greatest-of_parts}
use Rattle.spv_bound.proofs.bound.greatest_id.Goals as goal

pub returns : goal.returns
returns c =
    c.greatest_among.ensures ∙ greatest-of_parts (seen c.args.inst.now) c.roles.result.now (ap parts c.args.inst.now.whole.parted ∙ sym c.roles.ensures)
