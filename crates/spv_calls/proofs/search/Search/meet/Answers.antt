use Rattle.std.proofs.Common.{sym, subst, set, true, arith}
use Rattle.spv_calls.specs.Kept.{AreMet}
use Rattle.spv_calls.proofs.Searching.{met-more}
use Rattle.spv_calls.proofs.search.Search.meet.Goals as goal

pub returns-in_ok-push-2-clause-known : goal.returns-in_ok-push-2-clause-known
returns-in_ok-push-2-clause-known c = λ k.
    let old = c.args.self.now in
    subst (AreMet (set old.met.items c.args.place true)) (sym c.in_ok-push-2.ensures.items) (met-more old.met.items old.reached.items c.args.place (omega arith) k)
