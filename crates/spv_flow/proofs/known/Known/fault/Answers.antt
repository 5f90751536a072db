use Rattle.std.proofs.Common.{subst}
use Rattle.spv_blocks.specs.Blocks.{Code}
use Rattle.spv_walk.specs.Found.{FoundAt, Missing}
use Rattle.spv_walk.specs.Rules.{IsFirst}
use Rattle.spv_walk.specs.Walked.{InPlaces}
use Rattle.spv_flow.specs.Known.{code_of, enterer_of, ends_of, pointer_of, place_of}
use Rattle.spv_flow.proofs.FunctionFaults.{first-of_found, first-of_missing}
use Rattle.spv_flow.proofs.known.Known.fault.Goals as goal

pub returns-in-Some : goal.returns-in-Some
returns-in-Some c =
    let known = c.args.self.now in
    let p = pointer_of known in
    let f = code_of known in
    let e = enterer_of known in
    let o = ends_of known in
    let place = place_of known in
    first-of_found p f e o place c.requires.own c.in-Some.refusal c.requires.tables
    (subst (IsFirst (FoundAt p f e o (InPlaces place))) c.in-Some.is c.in_ok-refusal.ensures)

pub returns-in-None : goal.returns-in-None
returns-in-None c =
    let known = c.args.self.now in
    let p = pointer_of known in
    let f = code_of known in
    let e = enterer_of known in
    let o = ends_of known in
    let place = place_of known in
    first-of_missing p f e o place c.requires.own c.missing.result c.requires.tables
    (subst (IsFirst (FoundAt p f e o (InPlaces place))) c.in-None.is c.in_ok-refusal.ensures)
    (subst (λ (g : Code). IsFirst (Missing g (InPlaces place)) c.missing.result) c.requires.same c.missing.ensures)
