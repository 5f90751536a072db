use Rattle.std.proofs.Common.{◌∙◌, ap, sym, arith}
use Rattle.std.specs.Option.{option_or}
use Rattle.spv_module.specs.View.{seen}
use Rattle.spv_module.proofs.LayoutScan.{scan-line-at, scan-plain-at, scan-ends}
use Rattle.spv_module.proofs.layout.broken_layout.Goals as goal
use Rattle.spv_module.proofs.layout.broken_layout.Goals.{then-not-is_line, else-not-is_line}

pub instructions-preserved : goal.instructions-preserved
instructions-preserved c =
    elim c.if-not-is_line.branch [
      | then-not-is_line w ↦
          rw (w.layout-is ∙ w.behind-layout.ensures, w.broken-is ∙ w.or-broken.ensures ∙ ap (option_or c.instructions.broken) w.refusal.ensures)
          (scan-plain-at c.args.end c.args.insts.now c.instructions.k (seen c.at-inst.result) c.instructions.layout c.instructions.broken c.instructions.invariant (omega arith) c.at-inst.ensures (sym c.is_line.ensures ∙ w.if-not-is_line.true))
      | else-not-is_line w ↦
          rw (w.layout-is, w.broken-is)
          (scan-line-at c.args.end c.args.insts.now c.instructions.k (seen c.at-inst.result) c.instructions.layout c.instructions.broken c.instructions.invariant (omega arith) c.at-inst.ensures (sym c.is_line.ensures ∙ w.if-not-is_line.false))
    ]

pub returns : goal.returns
returns c =
    c.or-2.ensures
    ∙ rw (c.or.ensures, c.missing.ensures, c.open_end.ensures)
    (scan-ends c.args.end c.args.insts.now c.instructions.k c.instructions.layout c.instructions.broken (omega arith) c.requires.header c.instructions.invariant)
