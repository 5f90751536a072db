use Rattle.std.proofs.Common.{refl, ap, ◌∙◌}
use Rattle.spv_bodies.specs.Bodies.{Leaves}
use Rattle.spv_tree.specs.declared.body.End.TheVariants as end
use Rattle.spv_tree.specs.declared.body.Sequence.{out-roll-Sequence}
use Rattle.spv_tree.specs.Tree.{end_body}
use Rattle.editing_tests.proofs.Samples.{arm-made}
use Rattle.editing_tests.proofs.editing.arm.Goals as goal

pub returns : goal.returns
returns c =
    let body = out-roll-Sequence (record { items = c.new.result; end = end.Exit (record { target = c.id.result; values = c.in_ok-values.values }) }) in
    arm-made _ c.args.label c.args.value refl (ap (λ z. z.items) body ∙ c.new.ensures)
    (ap (λ z. end_body z.end) body ∙ (λ i. Leaves (record { target = c.id.ensures i; values = c.in_ok-values.ensures i })))
