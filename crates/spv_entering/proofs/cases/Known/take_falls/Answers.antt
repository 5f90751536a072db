use Rattle.std.proofs.Common.{◌∙◌, Bool, List, sym, ap, filter}
use Rattle.spv_blocks.specs.Blocks.{Code, construct, is_switch}
use Rattle.spv_entering.specs.Cases.{stays}
use Rattle.spv_entering.proofs.Falling.{leaves-staying}
use Rattle.spv_entering.proofs.cases.Known.take_falls.Goals as goal

pub returns : goal.returns
returns c =
    let f = c.args.self.now.flow.code in
    let g = c.labels-labels.result.now in
    let s = c.args.s in
    let left = c.args.left.now.items in
    let marks = c.in_ok-marks.marks.items in
    leaves-staying f s c.args.t c.requires.free c.requires.header (ap (λ (k : Code). is_switch (construct k s)) (sym c.labels-labels.ensures) ∙ sym c.is_switch.ensures ∙ c.if-not-is_switch.false)
    marks c.in_ok-marks.ensures left c.in_ok-left.field-0.items c.requires.before
    (c.in_ok-left.ensures ∙ ap (filter (stays g s c.deref-3.result.now)) c.deref-2.ensures.value ∙ ap (λ (m : List Bool). filter (stays g s m) left) c.deref-3.ensures.value
    ∙ ap (λ (k : Code). filter (stays k s marks) left) c.labels-labels.ensures)
