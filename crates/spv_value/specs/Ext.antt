-- The instructions of `GLSL.std.450` at components of w bits; the three searches stand with the bits.
use Rattle.std.specs.Prelude.{ℕ, max, min, pos, unsigned_abs}
use Rattle.std.specs.Int.{int_min, int_max, int_signum}
use Rattle.spv_value.specs.Numbers.{signed, wrapped}

unfoldable pub s_abs : ℕ → ℕ → ℕ
s_abs w a = wrapped w (pos (unsigned_abs (signed w a)))

-- -1, 0 or 1 by the sign
unfoldable pub s_sign : ℕ → ℕ → ℕ
s_sign w a = wrapped w (int_signum (signed w a))

unfoldable pub u_min : ℕ → ℕ → ℕ
u_min a b = min a b

unfoldable pub u_max : ℕ → ℕ → ℕ
u_max a b = max a b

unfoldable pub s_min : ℕ → ℕ → ℕ → ℕ
s_min w a b = wrapped w (int_min (signed w a) (signed w b))

unfoldable pub s_max : ℕ → ℕ → ℕ → ℕ
s_max w a b = wrapped w (int_max (signed w a) (signed w b))

-- the minimum of the maximum, whatever the bounds
unfoldable pub u_clamp : ℕ → ℕ → ℕ → ℕ
u_clamp a low high = min (max a low) high

unfoldable pub s_clamp : ℕ → ℕ → ℕ → ℕ → ℕ
s_clamp w a low high = wrapped w (int_min (int_max (signed w a) (signed w low)) (signed w high))
