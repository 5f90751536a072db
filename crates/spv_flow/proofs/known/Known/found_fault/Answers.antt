use Rattle.spv_flow.specs.Known.{code_of, enterer_of, ends_of, pointer_of, place_of}
use Rattle.spv_flow.proofs.FunctionFaults.{first-found}
use Rattle.spv_flow.proofs.known.Known.found_fault.Goals as goal

pub returns : goal.returns
returns c =
    let known = c.args.self.now in
    first-found (pointer_of known) (code_of known) (enterer_of known) (ends_of known) (place_of known) c.requires.own c.in_ok-walked.walked c.open_fault.result
    c.earlier.result c.in_ok-walked.ensures (c.open_fault.ensures.is_first c.requires.own) c.earlier.ensures.same
