use Rattle.spv_walk.proofs.SmallLoops as small
use Rattle.spv_walk.proofs.SmallNested as nested
use Rattle.spv_walk.proofs.facts.facts_of_loops.Goals as goal

pub returns-clause-fine : goal.returns-clause-fine
returns-clause-fine c = small.fine

pub returns-clause-from_body : goal.returns-clause-from_body
returns-clause-from_body c = small.from_body

pub returns-clause-no_label : goal.returns-clause-no_label
returns-clause-no_label c = small.no_label

pub returns-clause-returns : goal.returns-clause-returns
returns-clause-returns c = small.returns

pub returns-clause-no_back_edge : goal.returns-clause-no_back_edge
returns-clause-no_back_edge c = small.no_back_edge

pub returns-clause-own_target : goal.returns-clause-own_target
returns-clause-own_target c = small.own

pub returns-clause-only_that : goal.returns-clause-only_that
returns-clause-only_that c = small.only_own

pub returns-clause-nested : goal.returns-clause-nested
returns-clause-nested c = nested.fine
