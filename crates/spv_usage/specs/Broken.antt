-- The broken rules on storage classes, scopes and memory semantics in functions.
use Rattle.std.specs.Prelude.{ℕ, List, ◌++◌}
use Rattle.spv_module.specs.First.{unless}
use Rattle.spv_module.specs.Instruction.{Instruction}
use Rattle.spv_usage.specs.Stages.{stage_of}
use Rattle.spv_usage.specs.Storage.{storage_fits}
use Rattle.spv_usage.specs.Orderings.{ordering_fits}

-- the rules that the k-th instruction breaks, counted from 0: 504 StorageUse, 505 ScopeOrSemantics
abbrev pub usage_rules : List Instruction → (k : ℕ) → Instruction → List ℕ
usage_rules insts k i = unless (storage_fits insts (stage_of insts k) i) 504 ++ unless (ordering_fits insts i) 505
