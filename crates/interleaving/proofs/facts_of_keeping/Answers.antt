use Rattle.interleaving.proofs.Example as facts
use Rattle.interleaving.proofs.facts_of_keeping.Goals as goal

pub returns-clause-drops_unread : goal.returns-clause-drops_unread
returns-clause-drops_unread c = facts.drops_unread

pub returns-clause-law_applies : goal.returns-clause-law_applies
returns-clause-law_applies c = facts.law_applies

pub returns-clause-barrier_is_kept : goal.returns-clause-barrier_is_kept
returns-clause-barrier_is_kept c = facts.barrier_is_kept

pub returns-clause-exchange_is_kept : goal.returns-clause-exchange_is_kept
returns-clause-exchange_is_kept c = facts.exchange_is_kept

pub returns-clause-read_load_is_kept : goal.returns-clause-read_load_is_kept
returns-clause-read_load_is_kept c = facts.read_load_is_kept

pub returns-clause-nothing_is_added : goal.returns-clause-nothing_is_added
returns-clause-nothing_is_added c = facts.nothing_is_added

pub returns-clause-order_is_kept : goal.returns-clause-order_is_kept
returns-clause-order_is_kept c = facts.order_is_kept

pub returns-clause-return_is_kept : goal.returns-clause-return_is_kept
returns-clause-return_is_kept c = facts.return_is_kept

pub returns-clause-kept_before_spin : goal.returns-clause-kept_before_spin
returns-clause-kept_before_spin c = facts.kept_before_spin
