use Rattle.std.proofs.Common.{◌≡◌, ◌-◌, suc, length, sym, ◌∙◌, arith}
use Rattle.spv_faults.proofs.FrontLemmas.{loop_at-last}
use Rattle.spv_faults.proofs.merging.loop_place.Goals as goal

pub returns-in-Some : goal.returns-in-Some
returns-in-Some c =
    let body = c.args.body.now in
    let last : suc (length body - 1) ≡ length body = omega (arith, c.in-Some.ensures.item.3.0) in
    c.place_of_loop.ensures ∙ sym (loop_at-last body (length body - 1) c.in-Some.inst.now last (sym c.in-Some.ensures.value))
