use Rattle.spv_sources.proofs.Chains.{IsFollowing}
use Rattle.spv_sources.proofs.staying.follow.Given as goal

abbrev pub invariant-chain : goal.invariant-chain
invariant-chain l = IsFollowing l.labels l.head l.k l.last l.fn.stays l.stays
