-- Words read as whole numbers. A component has w bits and stands as the number that its bits spell, from 0 to 2 ^ w - 1.
use Rattle.std.specs.Prelude.{ℕ, ◌-◌, ◌^◌, ℤ, pos, ◌-ℤ◌, nat_lt, unsigned_abs, if◌then◌else◌}
use Rattle.std.specs.Int.{int_rem_euclid, int_div_euclid}

-- the signed reading: from 2 ^ (w - 1) on, the number less 2 ^ w
unfoldable pub signed : ℕ → ℕ → ℤ
signed w n = if nat_lt n (2 ^ (w - 1)) then pos n else pos n -ℤ pos (2 ^ w)

-- what is left of a whole number at w bits: the number modulo 2 ^ w
unfoldable pub wrapped : ℕ → ℤ → ℕ
wrapped w z = unsigned_abs (int_rem_euclid z (pos (2 ^ w)))

-- z divided by n and rounded down
abbrev pub div_down : ℤ → ℕ → ℤ
div_down z n = int_div_euclid z (pos n)
