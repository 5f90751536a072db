-- Numbers that 64 bits have room for.
use Rattle.std.proofs.Common.{◌≡◌, ℕ, ◌*◌, ◌<◌, ◌≤◌, ◌^◌, Option, Some, None, arith}
use Rattle.std.specs.Option.{SomeIff}
use Rattle.std.proofs.lemmas.Bool.Decides.{nat_tests}
use Rattle.spv_types.specs.Facts.{in_64_bits}

pub in_64_bits-fits : (n : ℕ) → n < 2 ^ 64 → in_64_bits n ≡ Some n
in_64_bits-fits n h = grind (arith, nat_tests)

pub in_64_bits-past : (n : ℕ) → 2 ^ 64 ≤ n → in_64_bits n ≡ None
in_64_bits-past n h = grind (arith, nat_tests)

pub in_64_bits-is : (x n : ℕ) → Some x ≡ in_64_bits n → x ≡ n
in_64_bits-is x n e = grind (arith, nat_tests)

-- a product that was looked at
pub in_64_bits-product : (x n count : ℕ) (r : Option ℕ) → Some x ≡ in_64_bits n → SomeIff r (x * count < 2 ^ 64) (x * count) → r ≡ in_64_bits (count * n)
in_64_bits-product x n count None e h = grind (arith, nat_tests, in_64_bits-is)
in_64_bits-product x n count (Some y) e h = grind (arith, nat_tests, in_64_bits-is)
