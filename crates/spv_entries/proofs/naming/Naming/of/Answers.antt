use Rattle.std.proofs.Common.{take, sym, subst, arith}
use Rattle.spv_module.specs.View.{seen}
use Rattle.spv_entries.proofs.Named.{take-at}
use Rattle.spv_entries.specs.Naming.{HasNaming}
use Rattle.spv_entries.proofs.naming.Naming.of.Goals as goal

pub instructions-init : goal.instructions-init
instructions-init c = c.new-naming.ensures c.args.kinds.now

pub instructions-preserved : goal.instructions-preserved
instructions-preserved c =
    subst (HasNaming c.args.kinds.now c.read.new.self) (sym (take-at c.args.insts.now c.instructions.k (seen c.at.result) (omega arith) c.at.ensures))
    (c.in_ok-read.ensures (take c.instructions.k c.args.insts.now) c.instructions.invariant)
