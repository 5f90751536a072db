use Rattle.std.proofs.Common.{◌+◌, ◌∷◌, [], get_or, take, add-one, arith}
use Rattle.std.proofs.Math.Seq.{take-suc}
use Rattle.spv_draft.proofs.Counting.{adds-both}
use Rattle.spv_draft.proofs.fresh.add_ids.Goals as goal

pub ids-preserved : goal.ids-preserved
ids-preserved c =
    let ids = c.args.ids.now in
    let k = c.ids.id-index in
    adds-both c.args.tally.now c.ids.tally c.add.new.self (take k ids) (get_or ids k 0 ∷ []) (take (k + 1) ids) (rw add-one (take-suc ids k 0 (omega arith)))
    c.ids.invariant c.in_ok-add.ensures
