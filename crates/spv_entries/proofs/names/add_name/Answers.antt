use Rattle.std.proofs.lemmas.Result.{IfOk-weaker}
use Rattle.spv_module.specs.View.{seen}
use Rattle.spv_entries.proofs.Taken.{follows-name}
use Rattle.spv_entries.proofs.names.add_name.Goals as goal

pub returns : goal.returns
returns c =
    IfOk-weaker c.add.result _ _ (λ known. follows-name c.args.names.now c.add.new.set c.in_ok-key_of.field-0 known (seen c.args.inst.now) c.in_ok-key_of.ensures) c.add.ensures
