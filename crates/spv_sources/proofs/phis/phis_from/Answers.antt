use Rattle.spv_opcodes.specs.declared.op.TheConstants as op
use Rattle.spv_module.specs.Instruction.{opcode}
use Rattle.spv_module.specs.View.{seen}
use Rattle.spv_walk.proofs.Unique.{true_equal}
use Rattle.spv_sources.specs.Values.{shown}
use Rattle.spv_sources.proofs.Collected.{phis-more, phis-done}
use Rattle.spv_sources.proofs.phis.phis_from.Goals as goal

pub returns-in_default : goal.returns-in_default
returns-in_default c = phis-done c.args.insts.now c.args.start c.phis.k (seen c.at.result) (shown c.phis.phis.items) c.at.ensures c.in_default.ensures c.phis.invariant

pub phis-preserved : goal.phis-preserved
phis-preserved c =
    phis-more c.args.insts.now c.args.start c.phis.k (seen c.at.result) c.in-Some.phi c.phis.phis.items c.push.new.self.items c.at.ensures
    (true_equal (opcode (seen c.in-Some.phi.inst)) op.PHI c.in-Some.phi.is_phi) c.in-Some.ensures c.in_ok-push.ensures.items c.phis.invariant
