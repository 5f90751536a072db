-- Words below 2 ^ 32: what operations make of such words is such words.
use Rattle.std.proofs.Common.{ℕ, ◌*◌, ◌/◌, ◌%◌, ◌^◌, ◌<◌, Bool, true, false, cond, ◌==◌, nat_lt, sym, subst, arith, rules}
use Rattle.std.specs.Prelude.{ℤ, pos, negsuc, neg_ℤ, ◌+ℤ◌, ◌-ℤ◌, ◌*ℤ◌, int_div, int_rem}
use Rattle.std.proofs.Math.Nat.{div-le_self, mod-le}
use Rattle.std.proofs.lemmas.Nat.{or_of_32, xor_of_32, and_le_l}
use Rattle.spv_value.specs.Numbers.{signed, wrapped, div_down}
use Rattle.spv_value.specs.Arith.{s_negate, i_add, i_sub, i_mul, u_div, u_mod, s_div, s_rem, s_mod, int_mod, shift_right_logical, shift_right_arithmetic, shift_left_logical}
use Rattle.spv_value.specs.Bits.{bitwise_or, bitwise_xor, bitwise_and, bitwise_not}
use Rattle.spv_value.specs.Compare.{i_equal, i_not_equal, u_less_than, u_less_than_equal, u_greater_than, u_greater_than_equal, s_less_than, s_less_than_equal, s_greater_than, s_greater_than_equal, logical_not, logical_and, logical_or}
use Rattle.spv_value.specs.Eval.{op_rules}
use Rattle.spv_value.proofs.BitLists.{bitwise_or_is, bitwise_and_is, bitwise_xor_is}
pub use Rattle.spv_declarations.specs.Sound.{WordsFit}
use Rattle.spv_declarations.proofs.EvaluatedWords.{RulesHold, two}

abbrev pub fits_word : ℕ → Type 0
fits_word w = w < 2 ^ 32

wrapped_fits : (z : ℤ) → wrapped 32 z < 2 ^ 32
unfolding wrapped
wrapped_fits (pos n) = omega arith
wrapped_fits (negsuc n) = omega arith

either_fits : (b : Bool) (x y : ℕ) → x < 2 ^ 32 → y < 2 ^ 32 → cond b x y < 2 ^ 32
either_fits true x y h k = h
either_fits false x y h k = k

negate_fits : (a : ℕ) → s_negate 32 a < 2 ^ 32
unfolding s_negate
negate_fits a = wrapped_fits (neg_ℤ (pos a))

not_fits : (a : ℕ) → bitwise_not 32 a < 2 ^ 32
unfolding bitwise_not
not_fits a = wrapped_fits (negsuc 0 -ℤ pos a)

add_fits : (a b : ℕ) → i_add 32 a b < 2 ^ 32
unfolding i_add
add_fits a b = wrapped_fits (pos a +ℤ pos b)

sub_fits : (a b : ℕ) → i_sub 32 a b < 2 ^ 32
unfolding i_sub
sub_fits a b = wrapped_fits (pos a -ℤ pos b)

mul_fits : (a b : ℕ) → i_mul 32 a b < 2 ^ 32
unfolding i_mul
mul_fits a b = wrapped_fits (pos a *ℤ pos b)

u_div_fits : (a b : ℕ) → a < 2 ^ 32 → u_div a b < 2 ^ 32
unfolding u_div
u_div_fits a b h = either_fits (b == 0) 0 (a / b) (omega arith) (omega (arith, div-le_self a b))

u_mod_fits : (a b : ℕ) → a < 2 ^ 32 → u_mod a b < 2 ^ 32
unfolding u_mod
u_mod_fits a b h = either_fits (b == 0) 0 (a % b) (omega arith) (omega (arith, mod-le a b))

s_div_fits : (a b : ℕ) → s_div 32 a b < 2 ^ 32
unfolding s_div
s_div_fits a b =
    either_fits (b == 0) 0 (wrapped 32 (int_div (signed 32 a) (signed 32 b))) (omega arith) (wrapped_fits (int_div (signed 32 a) (signed 32 b)))

s_rem_fits : (a b : ℕ) → s_rem 32 a b < 2 ^ 32
unfolding s_rem
s_rem_fits a b =
    either_fits (b == 0) 0 (wrapped 32 (int_rem (signed 32 a) (signed 32 b))) (omega arith) (wrapped_fits (int_rem (signed 32 a) (signed 32 b)))

s_mod_fits : (a b : ℕ) → s_mod 32 a b < 2 ^ 32
unfolding s_mod
s_mod_fits a b =
    either_fits (b == 0) 0 (wrapped 32 (int_mod (signed 32 a) (signed 32 b))) (omega arith) (wrapped_fits (int_mod (signed 32 a) (signed 32 b)))

right_fits : (a n : ℕ) → a < 2 ^ 32 → shift_right_logical 32 a n < 2 ^ 32
unfolding shift_right_logical
right_fits a n h = either_fits (nat_lt n 32) (a / 2 ^ n) 0 (omega (arith, div-le_self a (2 ^ n))) (omega arith)

arithmetic_fits : (a n : ℕ) → shift_right_arithmetic 32 a n < 2 ^ 32
unfolding shift_right_arithmetic
arithmetic_fits a n =
    either_fits (nat_lt n 32) (wrapped 32 (div_down (signed 32 a) (2 ^ n))) 0 (wrapped_fits (div_down (signed 32 a) (2 ^ n))) (omega arith)

left_fits : (a n : ℕ) → shift_left_logical 32 a n < 2 ^ 32
unfolding shift_left_logical
left_fits a n = either_fits (nat_lt n 32) (wrapped 32 (pos (a * 2 ^ n))) 0 (wrapped_fits (pos (a * 2 ^ n))) (omega arith)

or_fits : (a b : ℕ) → a < 2 ^ 32 → b < 2 ^ 32 → bitwise_or 32 a b < 2 ^ 32
unfolding bitwise_or
or_fits a b h k = subst (λ (n : ℕ). n < 2 ^ 32) (sym (bitwise_or_is 32 a b h k)) (or_of_32 a b h k)

xor_fits : (a b : ℕ) → a < 2 ^ 32 → b < 2 ^ 32 → bitwise_xor 32 a b < 2 ^ 32
unfolding bitwise_xor
xor_fits a b h k = subst (λ (n : ℕ). n < 2 ^ 32) (sym (bitwise_xor_is 32 a b h k)) (xor_of_32 a b h k)

and_fits : (a b : ℕ) → a < 2 ^ 32 → b < 2 ^ 32 → bitwise_and 32 a b < 2 ^ 32
unfolding bitwise_and
and_fits a b h k = subst (λ (n : ℕ). n < 2 ^ 32) (sym (bitwise_and_is 32 a b h k)) (omega (arith, and_le_l a b))

-- row by row, in the order of the operations
pub fitting_rules : RulesHold fits_word
unfolding op_rules i_equal i_not_equal u_less_than u_less_than_equal u_greater_than u_greater_than_equal s_less_than s_less_than_equal s_greater_than s_greater_than_equal logical_not logical_and logical_or
fitting_rules =
    search (rules, two, negate_fits, not_fits, add_fits, sub_fits, mul_fits, u_div_fits, u_mod_fits, s_div_fits, s_rem_fits, s_mod_fits, right_fits, arithmetic_fits, left_fits, or_fits, xor_fits, and_fits)
