use Rattle.std.proofs.Common.{length, ◌∙◌, sym, subst}
use Rattle.graph.specs.Reaching.{IsReachedPast, AreMarks}
use Rattle.graph.proofs.ReachedPlaces.{walk_begins, walk_passes, work_falls, walk-ends}
use Rattle.graph.proofs.reaching.reach.Goals as goal

pub places-init : goal.places-init
places-init c =
    walk_begins c.args.graph.now c.args.starts.now c.args.passable.now c.count.result c.in_ok-walk.walk c.meet_all.new.self c.count.ensures c.in_ok-walk.ensures c.in_ok-meet_all.ensures

pub places-smaller : goal.places-smaller
places-smaller c =
    work_falls c.args.graph.now c.args.starts.now c.args.passable.now c.places.walk c.next.new.self c.pass.new.self c.in-Some.place c.in-Some.ensures.met c.in-Some.ensures.waiting c.in_ok-pass.ensures

pub places-preserved : goal.places-preserved
places-preserved c =
    walk_passes c.args.graph.now c.args.starts.now c.args.passable.now c.places.walk c.next.new.self c.pass.new.self c.in-Some.place c.places.invariant c.in-Some.ensures.met c.in-Some.ensures.waiting c.in_ok-pass.ensures

pub returns : goal.returns
returns c =
    subst (AreMarks (length c.args.graph.now) (IsReachedPast c.args.graph.now c.args.starts.now c.args.passable.now)) (sym (c.into_met.ensures ∙ c.in_default.ensures.met))
    (walk-ends c.args.graph.now c.args.starts.now c.args.passable.now c.places.walk c.in_default.ensures.waiting c.places.invariant)
