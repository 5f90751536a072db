use Rattle.opt_top.proofs.Joined.{tells_more}
use Rattle.opt_top.proofs.writing.tell_all.Goals as goal

pub pieces-preserved : goal.pieces-preserved
pieces-preserved g c =
    tells_more _ c.pieces.rest.now _ c.in_ok-taken.taken _ _ _ c.split_at.ensures.back c.pieces.invariant (c.in_ok-taken.ensures.ok)
