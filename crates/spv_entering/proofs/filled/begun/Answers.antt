use Rattle.std.proofs.Common.{◌≡◌, ◌+◌, ℕ, length, sym, ap, subst, ◌∙◌, arith}
use Rattle.spv_blocks.specs.Blocks.{Code}
use Rattle.spv_entering.specs.declared.filling.Filling.{Filling}
use Rattle.spv_entering.specs.Steps.{label_of}
use Rattle.spv_entering.proofs.Turning.{AreBegun, begun-more, begun-past, begun-all}
use Rattle.spv_entering.proofs.filled.begun.Goals as goal
use Rattle.spv_entering.proofs.filled.begun.Goals.{in-Some+in_ok-begin, in_default}

pub each-preserved : goal.each-preserved
each-preserved c =
    let flow = c.args.flow.now in
    elim c.match-label.branch [
      | in-Some+in_ok-begin w ↦
          subst (λ (s : Filling). AreBegun flow s (c.each.k + 1)) (sym w.filling-is)
          (begun-more flow c.each.filling w.begin.new.self c.each.k w.in-Some.h c.each.invariant (ap (λ (f : Code). label_of f c.each.k) (sym c.labels-in-each.ensures) ∙ sym w.in-Some.ensures) w.in_ok-begin.ensures)
      | in_default w ↦
          subst (λ (s : Filling). AreBegun flow s (c.each.k + 1)) (sym w.filling-is)
          (begun-past flow c.each.filling c.each.k c.each.invariant (ap (λ (f : Code). label_of f c.each.k) (sym c.labels-in-each.ensures) ∙ sym w.in_default.ensures))
    ]

pub returns : goal.returns
returns c =
    let flow = c.args.flow.now in
    let count : length c.labels.result.now ≡ length flow.code = ap (λ (f : Code). length f) c.labels.ensures in
    let all : c.each.k ≡ length flow.code = omega arith in
    begun-all flow c.each.filling (subst (λ (n : ℕ). AreBegun flow c.each.filling n) all c.each.invariant)
