use Rattle.std.proofs.Common.{ℕ, List, [], ◌∷◌, length, fold, sym, ap, subst, ◌∙◌}
use Rattle.graph.specs.Reaching.{IsReached, AreMarks}
use Rattle.graph.specs.Walks.{meet}
use Rattle.spv_calls.specs.Kept.{going}
use Rattle.spv_calls.proofs.Searching.{search-begins, search-goes_on, search-falls, search-ends}
use Rattle.spv_calls.proofs.search.Search.run.Goals as goal

pub places-init : goal.places-init
places-init c = search-begins c.args.graph.now c.args.start c.args.self.now c.meet.new.self c.requires c.in_ok-meet.ensures.going c.in_ok-meet.ensures.known

pub places-smaller : goal.places-smaller
places-smaller c =
    search-falls c.args.graph.now c.args.start c.in-Some.place c.places.self c.next.new.self c.meet_all.new.self c.in-Some.ensures.met c.in-Some.ensures.waiting (c.in_ok-meet_all.ensures.going ∙ ap (λ (xs : List ℕ). fold meet (going c.next.new.self) xs) c.row.ensures)

pub places-preserved : goal.places-preserved
places-preserved c =
    search-goes_on c.args.graph.now c.args.start c.in-Some.place c.places.self c.next.new.self c.meet_all.new.self c.places.invariant c.in-Some.ensures.met c.in-Some.ensures.reached c.in-Some.ensures.waiting
    (c.in_ok-meet_all.ensures.going ∙ ap (λ (xs : List ℕ). fold meet (going c.next.new.self) xs) c.row.ensures)
    c.in_ok-meet_all.ensures.known

pub returns-clause-met : goal.returns-clause-met
returns-clause-met c =
    subst (AreMarks (length c.args.graph.now) (IsReached c.args.graph.now (c.args.start ∷ []))) (sym c.in_default.ensures.met)
    (search-ends c.args.graph.now c.args.start c.places.self c.places.invariant c.in_default.ensures.waiting)
