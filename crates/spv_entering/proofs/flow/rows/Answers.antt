use Rattle.std.proofs.Common.{◌≡◌, ℕ, length, subst, arith}
use Rattle.spv_entering.proofs.Flows.{AreRows, rows-flow}
use Rattle.spv_entering.proofs.flow.rows.Goals as goal

pub returns : goal.returns
returns c =
    let all : c.each.j ≡ length c.args.labels.now = omega arith in
    rows-flow c.args.labels.now c.each.rows.items (subst (λ (n : ℕ). AreRows c.args.labels.now n c.each.rows.items) all c.each.invariant)
