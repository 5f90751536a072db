-- Comparisons of components of w bits, which give a boolean's word, and the logical instructions on such words.
use Rattle.std.specs.Prelude.{ℕ, ◌==◌, ◌&&◌, ◌||◌, not, Bool, List, nat_lt, nat_le, int_lt, int_le, if◌then◌else◌}
use Rattle.std.specs.List.{list_any, list_all}
use Rattle.std.specs.Int.{from_bool}
use Rattle.spv_value.specs.Numbers.{signed}

unfoldable pub i_equal : ℕ → ℕ → ℕ
i_equal a b = from_bool (a == b)

unfoldable pub i_not_equal : ℕ → ℕ → ℕ
i_not_equal a b = from_bool (not (a == b))

unfoldable pub u_less_than : ℕ → ℕ → ℕ
u_less_than a b = from_bool (nat_lt a b)

unfoldable pub u_less_than_equal : ℕ → ℕ → ℕ
u_less_than_equal a b = from_bool (nat_le a b)

unfoldable pub u_greater_than : ℕ → ℕ → ℕ
u_greater_than a b = from_bool (nat_lt b a)

unfoldable pub u_greater_than_equal : ℕ → ℕ → ℕ
u_greater_than_equal a b = from_bool (nat_le b a)

unfoldable pub s_less_than : ℕ → ℕ → ℕ → ℕ
s_less_than w a b = from_bool (int_lt (signed w a) (signed w b))

unfoldable pub s_less_than_equal : ℕ → ℕ → ℕ → ℕ
s_less_than_equal w a b = from_bool (int_le (signed w a) (signed w b))

unfoldable pub s_greater_than : ℕ → ℕ → ℕ → ℕ
s_greater_than w a b = from_bool (int_lt (signed w b) (signed w a))

unfoldable pub s_greater_than_equal : ℕ → ℕ → ℕ → ℕ
s_greater_than_equal w a b = from_bool (int_le (signed w b) (signed w a))

-- ---- booleans, which are equal as integers are

abbrev pub is_one : ℕ → Bool
is_one b = b == 1

unfoldable pub logical_not : ℕ → ℕ
logical_not a = from_bool (not (is_one a))

unfoldable pub logical_and : ℕ → ℕ → ℕ
logical_and a b = from_bool (is_one a && is_one b)

unfoldable pub logical_or : ℕ → ℕ → ℕ
logical_or a b = from_bool (is_one a || is_one b)

-- whether some component is 1, and whether every one is
unfoldable pub any_of : List ℕ → ℕ
any_of bs = from_bool (list_any is_one bs)

unfoldable pub all_of : List ℕ → ℕ
all_of bs = from_bool (list_all is_one bs)

-- the first value where the condition is 1, the second elsewhere
unfoldable pub select : ℕ → ℕ → ℕ → ℕ
select condition a b = if is_one condition then a else b
