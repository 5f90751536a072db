use Rattle.std.proofs.Common.{◌≡◌, ℕ, take}
use Rattle.spv_sources.specs.Values.{group, shown, taken_from}
use Rattle.spv_sources.proofs.phis.values_in.Given as goal

abbrev pub invariant-phis : goal.invariant-phis
invariant-phis l = (block : ℕ) → group l.values block ≡ taken_from block (shown (take l.phi-index l.phis))
