use Rattle.std.proofs.Common.{◌∙◌}
use Rattle.spv_bodies.specs.Bodies.{Enters}
use Rattle.spv_editing.specs.Facts.{leaving}
use Rattle.editing_tests.proofs.Samples.{selection-made}
use Rattle.editing_tests.proofs.editing.selection.Goals as goal

pub returns : goal.returns
returns c =
    selection-made _ c.no_control.ensures c.id.ensures (c.in_ok-arm.ensures ∙ (λ i. Enters (c.id-2.ensures i) (leaving (c.id-3.ensures i))))
    (c.in_ok-arm-2.ensures ∙ (λ i. Enters (c.id-4.ensures i) (leaving (c.id-5.ensures i)))) c.in_ok-merging.ensures
