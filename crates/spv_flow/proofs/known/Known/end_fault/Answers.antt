use Rattle.std.proofs.Common.{List, ap, subst, ◌∙◌}
use Rattle.std.specs.Option.{option_map}
use Rattle.spv_blocks.specs.Seen.{seen_block, seen_construct}
use Rattle.spv_walk.specs.Contexts.{Context, behind, in_next}
use Rattle.spv_faults.specs.Ends.{TellsExit}
use Rattle.spv_walking.specs.Places.{context_at}
use Rattle.spv_flow.proofs.BlockFaults.{end_told}
use Rattle.spv_flow.proofs.known.Known.end_fault.Goals as goal

pub returns : goal.returns
returns c =
    let b = seen_block c.args.block.now in
    let k = option_map seen_construct c.construct-construct.result in
    let l = c.args.label in
    let known = c.args.self.now in
    let exits = c.has_exit-exits.result in
    end_told c.end_fault.result k exits c.in_next-in_next.result known.function.now l (context_at known.walked.rows c.args.place) b
    c.end_fault.ensures c.requires.here c.construct-construct.ensures
    (subst (λ (rows : List Context). TellsExit exits k (behind k l l (context_at rows c.args.place)) b.end) c.rows-rows.ensures (c.has_exit-exits.ensures l))
    (c.in_next-in_next.ensures ∙ ap (λ (rows : List Context). in_next (context_at rows c.args.place)) c.rows-rows.ensures)
