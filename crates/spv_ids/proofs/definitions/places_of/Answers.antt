use Rattle.std.proofs.Common.{arith}
use Rattle.spv_module.specs.View.{seen}
use Rattle.spv_ids.proofs.Reading.{has-more}
use Rattle.spv_ids.proofs.definitions.places_of.Goals as goal

pub instructions-preserved : goal.instructions-preserved
instructions-preserved c =
    has-more c.instructions.places c.add_place.new.places c.args.flat.now.insts c.instructions.k (seen c.at.result) c.instructions.invariant c.in_ok-add_place.ensures (omega arith) c.at.ensures
