use Rattle.std.proofs.Common.{◌++◌, ◌∷◌, [], take, get_or, sym, subst, ◌∙◌}
use Rattle.graph.proofs.Choices.{IsFound, unmarked_by, found-marked, found-first, found-again, found-two, found_more}
use Rattle.graph.proofs.choice.the_one.Goals as goal
use Rattle.graph.proofs.choice.the_one.Goals.{in-None, in-Some+else-other-place}

pub places-preserved-then-is_marked : goal.places-preserved-then-is_marked
places-preserved-then-is_marked c =
    let xs = c.args.places.now in
    let i = c.places.place-index in
    found_more xs c.args.marks.now i c.places.found c.places-test.true
    (found-marked (take i xs) c.args.marks.now (get_or xs i 0) c.places.found (sym c.is_marked.ensures ∙ c.if-is_marked.true) c.places.invariant)

pub returns-then-other-place : goal.returns-then-other-place
returns-then-other-place c =
    let xs = c.args.places.now in
    let i = c.places.place-index in
    found-two xs c.args.marks.now i c.in-Some.other c.places-test.true (subst (IsFound (take i xs) c.args.marks.now) c.in-Some.is c.places.invariant)
    (unmarked_by c.args.marks.now (get_or xs i 0) c.is_marked.result c.is_marked.ensures c.if-is_marked.false)
    c.if-other-place.true

pub places-preserved : goal.places-preserved
places-preserved c =
    let xs = c.args.places.now in
    let i = c.places.place-index in
    let marks = c.args.marks.now in
    found_more xs marks i c.match-found.found c.places-test.true
    (elim c.match-found.branch [
      | in-None w ↦ subst (IsFound (take i xs ++ get_or xs i 0 ∷ []) marks) (sym w.found-is) (found-first (take i xs) marks (get_or xs i 0) (unmarked_by marks (get_or xs i 0) c.is_marked.result c.is_marked.ensures c.if-is_marked.false) (subst (IsFound (take i xs) marks) w.in-None.is c.places.invariant))
      | in-Some+else-other-place w ↦ subst (IsFound (take i xs ++ get_or xs i 0 ∷ []) marks) (sym w.found-is) (found-again (take i xs) marks (get_or xs i 0) w.in-Some.other w.if-other-place.false (subst (IsFound (take i xs) marks) w.in-Some.is c.places.invariant))
    ])
