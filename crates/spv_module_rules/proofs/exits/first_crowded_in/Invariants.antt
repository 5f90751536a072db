use Rattle.std.proofs.Common.{◌≡◌, ℕ, take}
use Rattle.spv_module.specs.First.{first}
use Rattle.spv_exits.specs.Exits.{capped, crowded_in_all}
use Rattle.spv_module_rules.proofs.exits.first_crowded_in.Given as goal

abbrev pub invariant-each : goal.invariant-each
invariant-each l = (n : ℕ) → l.nested ≡ capped n → l.refusal ≡ first (crowded_in_all (take l.shape-index l.shapes) n)
