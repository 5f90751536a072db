use Rattle.spv_module.specs.View.{seen}
use Rattle.spv_entries.proofs.Taken.{slots-more}
use Rattle.spv_entries.proofs.bindings.Slots.read.Goals as goal

pub returns : goal.returns
returns c =
    slots-more c.args.decorations.now c.args.self.now (record { begun = c.has_begun-self.result; taken = c.add.new.set }) (seen c.args.inst.now) c.slot_of.result c.in_ok-add.field-0 c.admits-fits.result c.slot_of.ensures c.in_ok-add.ensures c.has_begun-self.ensures c.admits-fits.ensures
