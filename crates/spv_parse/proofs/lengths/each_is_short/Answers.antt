use Rattle.std.proofs.Common.{◌≤◌, subst, arith}
use Rattle.spv_module.specs.View.{seen}
use Rattle.spv_parse.proofs.FewWords.{one_more_short}
use Rattle.spv_parse.proofs.lengths.each_is_short.Goals as goal

pub instructions-preserved : goal.instructions-preserved
instructions-preserved c =
    one_more_short c.args.insts.now c.instructions.k (seen c.at.result) c.at.ensures (subst (λ n. n ≤ 65535) c.length_of-length.ensures (omega arith)) c.instructions.invariant
