use Rattle.std.proofs.Common.{◌≡◌, ◌∙◌, ℕ, drop, take, map, ap, arith}
use Rattle.spv_module.specs.View.{seen}
use Rattle.spv_blocks.specs.Seen.{seen_ins}
use Rattle.spv_blocks.proofs.BlockSteps.{plain, plain-more}
use Rattle.spv_blocks.proofs.function.body_in.Goals as goal

pub instructions-preserved : goal.instructions-preserved
instructions-preserved c =
    plain-more c.args.insts.now c.args.from c.instructions.k (seen c.at.result) (map seen_ins c.instructions.body.items) (map seen_ins c.add_ins.new.body.items)
    (omega arith) c.at.ensures c.in_ok-add_ins.ensures c.instructions.invariant

pub returns : goal.returns
returns c =
    let end : c.instructions.k ≡ c.args.to = omega arith in
    c.instructions.invariant ∙ ap (λ (k : ℕ). plain (drop c.args.from (take k c.args.insts.now))) end
