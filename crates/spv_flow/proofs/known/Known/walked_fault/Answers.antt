use Rattle.std.proofs.Common.{◌<◌, length, arith}
use Rattle.spv_flow.specs.Known.{code_of, faults_of, place_of}
use Rattle.spv_flow.proofs.FunctionFaults.{at-some, walked-next}
use Rattle.spv_flow.proofs.known.Known.walked_fault.Goals as goal

pub each-preserved : goal.each-preserved
each-preserved c =
    let known = c.args.self.now in
    let f = code_of known in
    let n : c.each.k < length f = (let t = c.each-test.true in let e = c.count-k-end.ensures in omega arith) in
    let b = at-some f c.each.k n in
    walked-next (faults_of known) (place_of known) f c.each.k b.0 c.each.found c.in_ok-fault.fault c.earlier-found.result _ b.1
    (c.in_ok-fault.ensures b.0 b.1) c.earlier-found.ensures.same
    c.each.invariant
