use Rattle.std.proofs.Common.{sym, ap, ◌∙◌}
use Rattle.std.specs.Option.{option_map}
use Rattle.spv_blocks.specs.Seen.{seen_block}
use Rattle.spv_walking.specs.Places.{context_at}
use Rattle.spv_flow.specs.Known.{code_of, faults_of, place_of}
use Rattle.spv_flow.proofs.BlockFaults.{walked_told}
use Rattle.spv_flow.proofs.known.Known.fault_of.Goals as goal

pub returns-in-Some : goal.returns-in-Some
returns-in-Some c =
    let known = c.args.self.now in
    let b = seen_block c.block-block.result.now in
    let d = context_at known.walked.rows c.in-Some.place in
    walked_told c.block_fault.result (faults_of known) (place_of known) (code_of known) c.args.k b d c.block-block.ensures
    (sym c.place.ensures.context ∙ ap (option_map (context_at known.walked.rows)) c.in-Some.is) c.block_fault.ensures
