use Rattle.interleaving.proofs.Example as facts
use Rattle.interleaving.proofs.facts_of_schedules.Goals as goal

pub returns-clause-barrier_ends : goal.returns-clause-barrier_ends
returns-clause-barrier_ends c = facts.barrier_ends

pub returns-clause-barrier_waits : goal.returns-clause-barrier_waits
returns-clause-barrier_waits c = facts.barrier_waits

pub returns-clause-barrier_releases : goal.returns-clause-barrier_releases
returns-clause-barrier_releases c = facts.barrier_releases

pub returns-clause-waits_for_ever : goal.returns-clause-waits_for_ever
returns-clause-waits_for_ever c = facts.waits_for_ever

pub returns-clause-own_workgroup : goal.returns-clause-own_workgroup
returns-clause-own_workgroup c = facts.own_workgroup

pub returns-clause-ordered : goal.returns-clause-ordered
returns-clause-ordered c = facts.ordered

pub returns-clause-trap : goal.returns-clause-trap
returns-clause-trap c = facts.trap

pub returns-clause-spin : goal.returns-clause-spin
returns-clause-spin c = facts.spin

pub returns-clause-exchanges_end : goal.returns-clause-exchanges_end
returns-clause-exchanges_end c = facts.exchanges_end

pub returns-clause-exchange_first : goal.returns-clause-exchange_first
returns-clause-exchange_first c = facts.exchange_first

pub returns-clause-exchange_last : goal.returns-clause-exchange_last
returns-clause-exchange_last c = facts.exchange_last

pub returns-clause-additions : goal.returns-clause-additions
returns-clause-additions c = facts.additions

pub returns-clause-lost_exchange : goal.returns-clause-lost_exchange
returns-clause-lost_exchange c = facts.lost_exchange

pub returns-clause-releases_its_own : goal.returns-clause-releases_its_own
returns-clause-releases_its_own c = facts.releases_its_own

pub returns-clause-unfair : goal.returns-clause-unfair
returns-clause-unfair c = facts.unfair

pub returns-clause-awaited : goal.returns-clause-awaited
returns-clause-awaited c = facts.awaited

pub returns-clause-copies : goal.returns-clause-copies
returns-clause-copies c = facts.copies

pub returns-clause-swaps_back : goal.returns-clause-swaps_back
returns-clause-swaps_back c = facts.swaps_back
