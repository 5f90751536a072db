use Rattle.std.proofs.Common.{take}
use Rattle.spv_faults.specs.Once.{IsOnce}
use Rattle.spv_faults.proofs.numbers.once.Given as goal

abbrev pub invariant-numbers : goal.invariant-numbers
invariant-numbers l = IsOnce (take l.number-index l.numbers) l.set
