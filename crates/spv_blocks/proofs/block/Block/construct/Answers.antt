use Rattle.std.proofs.Common.{◌≡◌, ◌-◌, suc, List, length, map, ap, sym, ◌∙◌, arith}
use Rattle.spv_blocks.specs.declared.block.Ins.{Ins as DeclaredIns}
use Rattle.spv_blocks.specs.Blocks.{last_opens}
use Rattle.spv_blocks.specs.Seen.{seen_ins, seen_end}
use Rattle.spv_blocks.proofs.Constructs.{last_opens-last}
use Rattle.spv_blocks.proofs.block.Block.construct.Goals as goal

pub returns : goal.returns
returns c =
    let body = c.deref.result.now in
    let last : suc (length body - 1) ≡ length body = omega (arith, c.in_ok-last.ensures.item.3.0) in
    c.opened.ensures
    ∙ sym (last_opens-last (seen_end c.args.self.now.end) body (length body - 1) c.in_ok-last.field-0.now last (sym c.in_ok-last.ensures.value))
    ∙ ap (λ (is : List DeclaredIns). last_opens (seen_end c.args.self.now.end) (map seen_ins is)) c.deref.ensures.value
