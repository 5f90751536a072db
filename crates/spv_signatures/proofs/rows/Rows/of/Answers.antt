use Rattle.std.proofs.Common.{◌≡◌, ℕ, length, subst, arith}
use Rattle.spv_signatures.specs.Rows.{HasRows}
use Rattle.spv_signatures.proofs.rows.Rows.of.Goals as goal

pub returns : goal.returns
returns c =
    let all : c.instructions.k ≡ length c.args.insts.now = omega arith in
    subst (λ (k : ℕ). HasRows c.instructions.all.rows c.instructions.all.parameters.items c.args.insts.now k) all c.instructions.invariant
