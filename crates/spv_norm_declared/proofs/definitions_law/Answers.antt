use Rattle.spv_norm_declared.proofs.Definers as definers
use Rattle.spv_norm_declared.proofs.Defined as defined
use Rattle.spv_norm_declared.proofs.Once as once
use Rattle.spv_norm_declared.proofs.definitions_law.Goals as goal

pub returns-clause-outside : goal.returns-clause-outside
returns-clause-outside c = definers.norm_defines_outside

pub returns-clause-alike : goal.returns-clause-alike
returns-clause-alike c = definers.norm_defines_alike

pub returns-clause-all : goal.returns-clause-all
returns-clause-all c = defined.norm_defines_all

pub returns-clause-once : goal.returns-clause-once
returns-clause-once c = once.norm_defines_once

pub returns-clause-same : goal.returns-clause-same
returns-clause-same c = defined.norm_defines_same
