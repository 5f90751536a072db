-- The definitions' readings of a word are those of Rust's integer types.
use Rattle.std.proofs.Common.{◌≡◌, ℕ, zero, suc, ◌+◌, ◌-◌, ◌*◌, ◌/◌, ◌%◌, ◌^◌, ◌<◌, ◌≤◌, ℤ, pos, negsuc, neg_ℤ, ◌-ℤ◌, ◌*ℤ◌, int_div, int_rem, unsigned_abs, int_lt, true, false, FitsSigned, SFits, refl, sym, ap, ap₂, ◌∙◌, arith, le_trans, le_of_eq, div-le_self, div-add-mod', inl, inr, ◌⊎◌, ◌≢◌, ◌<ℤ◌, ◌≤ℤ◌, ◌+ℤ◌, mod-lt, mod-eq_of_lt, zero-lt-suc, lit<}
use Rattle.std.specs.Int.{w32, w64, cast_signed, cast_unsigned, int_rem_euclid, int_shr, int_wrap}
use Rattle.std.proofs.lemmas.Int.{ints, to_z-of_z, of_z-to_z, wrapping_mul-bits, fits_signed_from_abs, fits_signed_mul, unsigned_abs-mul}
use Rattle.std.specs.Int.Signed.{mag}
use Rattle.std.proofs.Math.Facts.{sfits_to_z}
use Rattle.std.proofs.lemmas.Nat.{mod-mul-add, mul-le}
use Rattle.std.proofs.lemmas.Bool.{cases_lt}
use Rattle.spv_value.specs.Arith.{int_mod, s_div, s_rem, s_mod, shift_right_arithmetic}
use Rattle.spv_value.specs.Numbers.{signed, wrapped, div_down}

-- ---- the signed reading

pub signed_32 : (n : ℕ) → n < 2 ^ 32 → signed 32 n ≡ cast_signed w32 n
unfolding signed
signed_32 n h = grind (arith, ints)

-- what `cast_signed` gave, as the code after it reads it
pub reading : (a : ℕ) (x : ℤ) → a < 2 ^ 32 → x ≡ cast_signed w32 a → cast_signed w32 (cast_unsigned w32 x) ≡ signed 32 a
reading a x h e =
    ap (λ z. cast_signed w32 (cast_unsigned w32 z)) e ∙ ap (cast_signed w32) (of_z-to_z w32 a h) ∙ sym (signed_32 a h)

abs_le_mag : (z : ℤ) → FitsSigned w32 z → unsigned_abs z ≤ 2 ^ 31
abs_le_mag (pos n) f = omega (arith, f.sfits)
abs_le_mag (negsuc n) f = omega (arith, f.sfits)

pub signed_mag : (a : ℕ) → a < 2 ^ 32 → mag (signed 32 a) < 2 ^ 31
signed_mag a h =
    let f : SFits w32 (cast_signed w32 a) = sfits_to_z (record { fits = h }) in
    rw (signed_32 a h) f.sfits

pub signed_low : (a : ℕ) → a < 2 ^ 32 → unsigned_abs (signed 32 a) ≤ 2 ^ 31
signed_low a h =
    let f : SFits w32 (cast_signed w32 a) = sfits_to_z (record { fits = h }) in
    le_trans (le_of_eq (ap unsigned_abs (signed_32 a h))) (abs_le_mag (cast_signed w32 a) f)

-- ---- what is left at the width

pub wrapped_pos : (w n : ℕ) → wrapped w (pos n) ≡ n % 2 ^ w
unfolding wrapped
wrapped_pos w n = refl

pub wrapped_sub : (a b : ℕ) → b ≤ 2 ^ 32 → wrapped 32 (pos a -ℤ pos b) ≡ (a + (2 ^ 32 - b)) % 2 ^ 32
unfolding wrapped
wrapped_sub a zero h = omega arith
wrapped_sub a (suc b) h = grind arith

pub wrapped_neg : (a : ℕ) → a ≤ 2 ^ 32 → wrapped 32 (neg_ℤ (pos a)) ≡ (0 + (2 ^ 32 - a)) % 2 ^ 32
unfolding wrapped
wrapped_neg zero h = refl
wrapped_neg (suc a) h = omega arith

pub wrapped_not : (a : ℕ) → a < 2 ^ 32 → 2 ^ 32 - 1 - a ≡ wrapped 32 (negsuc 0 -ℤ pos a)
unfolding wrapped
wrapped_not zero h = refl
wrapped_not (suc a) h = omega arith

-- a number that is left whole, as `cast_unsigned` gives it
pub wrapped_whole : (z : ℤ) → unsigned_abs z < 2 ^ 32 → wrapped 32 z ≡ cast_unsigned w32 z
unfolding wrapped
wrapped_whole (pos n) f = omega arith
wrapped_whole (negsuc n) f = omega arith

pub abs_lt : (z : ℤ) → mag z < 2 ^ 31 → unsigned_abs z < 2 ^ 32
abs_lt (pos n) f = omega arith
abs_lt (negsuc n) f = omega arith

whole_lt : (z : ℤ) → unsigned_abs z < 2 ^ 32 → cast_unsigned w32 z < 2 ^ 32
whole_lt (pos n) f = f
whole_lt (negsuc n) f = omega arith

-- the same of a value that the code passed on as signed
pub written : (x z : ℤ) (r : ℕ) → unsigned_abs z < 2 ^ 32 → x ≡ z → r ≡ cast_unsigned w32 (cast_signed w32 (cast_unsigned w32 x)) → r ≡ wrapped 32 z
written x z r f same e =
    e ∙ ap (λ y. cast_unsigned w32 (cast_signed w32 (cast_unsigned w32 y))) same
    ∙ of_z-to_z w32 (cast_unsigned w32 z) (whole_lt z f) ∙ sym (wrapped_whole z f)

pub written_fits : (x z : ℤ) (r : ℕ) → mag x < 2 ^ 31 → x ≡ z → r ≡ cast_unsigned w32 (cast_signed w32 (cast_unsigned w32 x)) → r ≡ wrapped 32 z
written_fits x z r f same e = written x x r (abs_lt x f) refl e ∙ ap (wrapped 32) same

-- and of a quotient, which may have passed the signed range
pub written_wrapped : (z : ℤ) (r : ℕ) → unsigned_abs z < 2 ^ 32
    → r ≡ cast_unsigned w32 (cast_signed w32 (cast_unsigned w32 (cast_signed w32 (cast_unsigned w32 z)))) → r ≡ wrapped 32 z
written_wrapped z r f e =
    let back : cast_unsigned w32 (cast_signed w32 (cast_unsigned w32 z)) ≡ cast_unsigned w32 z = of_z-to_z w32 (cast_unsigned w32 z) (whole_lt z f) in
    e ∙ ap (λ n. cast_unsigned w32 (cast_signed w32 n)) back ∙ back ∙ sym (wrapped_whole z f)

-- a value that the code passed on as signed is that value
pub passed : (x z : ℤ) → mag x < 2 ^ 31 → x ≡ z → cast_signed w32 (cast_unsigned w32 x) ≡ z
passed x z f same = let fits : FitsSigned w32 x = record { sfits = f } in to_z-of_z w32 x fits ∙ same

-- ---- bounds

abs_neg : (n : ℕ) → unsigned_abs (neg_ℤ (pos n)) ≡ n
abs_neg zero = refl
abs_neg (suc n) = refl

pub abs_div : (x y : ℤ) → unsigned_abs (int_div x y) ≤ unsigned_abs x
abs_div (pos a) (pos b) = div-le_self a b
abs_div (pos a) (negsuc b) = le_trans (le_of_eq (abs_neg (a / suc b))) (div-le_self a (suc b))
abs_div (negsuc a) (pos b) = le_trans (le_of_eq (abs_neg (suc a / b))) (div-le_self (suc a) b)
abs_div (negsuc a) (negsuc b) = div-le_self (suc a) (suc b)

pub abs_div_down : (z : ℤ) (n : ℕ) → unsigned_abs (div_down z n) ≤ unsigned_abs z
abs_div_down (pos a) n = div-le_self a n
abs_div_down (negsuc a) n = omega (arith, div-le_self a n)

-- an arithmetic shift divides and rounds down
pub int_shr_is : (z : ℤ) (k : ℕ) → int_shr z k ≡ div_down z (2 ^ k)
int_shr_is (pos a) k = refl
int_shr_is (negsuc a) k = refl

-- ---- products

wrapped_lt : (z : ℤ) → wrapped 32 z < 2 ^ 32
unfolding wrapped
wrapped_lt (pos n) = omega arith
wrapped_lt (negsuc n) = omega arith

pub wrapped_mul : (a b : ℕ) → a < 2 ^ 32 → b < 2 ^ 32 → (a * b) % 2 ^ 32 ≡ wrapped 32 (signed 32 a *ℤ signed 32 b)
unfolding int_wrap wrapped
wrapped_mul a b f g =
    sym (of_z-to_z w32 ((a * b) % 2 ^ 32) (mod-lt (a * b) (lit< tt))) ∙ ap (cast_unsigned w32) (wrapping_mul-bits w32 a b f g)
    ∙ of_z-to_z w32 (wrapped 32 (cast_signed w32 a *ℤ cast_signed w32 b)) (wrapped_lt (cast_signed w32 a *ℤ cast_signed w32 b))
    ∙ ap₂ (λ x y. wrapped 32 (x *ℤ y)) (sym (signed_32 a f)) (sym (signed_32 b g))

-- the signed reading as a number of 64 bits, and the product of two
pub wide : (a : ℕ) (x : ℤ) → a < 2 ^ 32 → x ≡ signed 32 a → cast_signed w64 (cast_unsigned w64 x) ≡ signed 32 a
wide a x h e =
    let fits : FitsSigned w64 (signed 32 a) = fits_signed_from_abs w64 (signed 32 a) (omega (arith, signed_low a h)) in
    ap (λ z. cast_signed w64 (cast_unsigned w64 z)) e ∙ to_z-of_z w64 (signed 32 a) fits

pub product_fits : (a b : ℕ) → a < 2 ^ 32 → b < 2 ^ 32 → FitsSigned w64 (signed 32 a *ℤ signed 32 b)
product_fits a b f g = fits_signed_mul w64 (signed 32 a) (signed 32 b) (2 ^ 31) (2 ^ 31) (signed_low a f) (signed_low b g) (lit< tt)

pub product_low : (a b : ℕ) → a < 2 ^ 32 → b < 2 ^ 32 → unsigned_abs (signed 32 a *ℤ signed 32 b) ≤ 2 ^ 62
product_low a b f g =
    le_trans (le_of_eq (unsigned_abs-mul (signed 32 a) (signed 32 b)))
    (mul-le (unsigned_abs (signed 32 a)) (unsigned_abs (signed 32 b)) (2 ^ 31) (2 ^ 31) (signed_low a f) (signed_low b g))

-- the high word of such a product
pub high_mag : (z : ℤ) → unsigned_abs z ≤ 2 ^ 62 → mag (div_down z (2 ^ 32)) < 2 ^ 31
high_mag (pos n) h = omega arith
high_mag (negsuc n) h = omega arith

-- ---- remainders

-- the remainder of the next number: one more, or 0
mod_next : (a m : ℕ) → 0 < m → ((suc a % m ≡ 0) × (a % m + 1 ≡ m)) ⊎ ((suc a % m ≡ a % m + 1) × (a % m + 1 < m))
mod_next a m h =
    let split : a / m * m + a % m ≡ a = div-add-mod' a m in
    let low : a % m < m = mod-lt a h in
    elim (cases_lt (a % m + 1) m) [
      | inl below ↦ inr ((ap (λ n. n % m) (omega arith) ∙ mod-mul-add (a / m) m (a % m + 1) below), below)
      | inr above ↦ inl ((ap (λ n. n % m) (omega arith) ∙ mod-mul-add (a / m + 1) m 0 h), omega arith)
    ]

-- -k as the difference of two numbers
neg_sub : (k r d : ℕ) → r + k ≡ suc d → neg_ℤ (pos k) ≡ pos r +ℤ negsuc d
neg_sub k r d h = omega (arith, ints)

-- the remainder on the divisor's side, from the one that is not negative
pub int_mod_zero : (z d : ℤ) → int_rem_euclid z d ≡ pos 0 → int_mod z d ≡ pos 0
int_mod_zero z (pos d) e = e
int_mod_zero (pos zero) (negsuc d) e = ap neg_ℤ e
int_mod_zero (pos (suc a)) (negsuc d) e =
    let none : suc a % suc d ≡ 0 = ap unsigned_abs e in
    let left : suc d - 1 - a % suc d ≡ 0 = elim (mod_next a (suc d) (omega arith)) [ inl p ↦ omega (arith, p.1) | inr p ↦ absurd (omega (arith, p.0)) ] in
    ap (λ n. neg_ℤ (pos n)) left
int_mod_zero (negsuc a) (negsuc d) e =
    let none : suc d - 1 - a % suc d ≡ 0 = ap unsigned_abs e in
    let left : suc a % suc d ≡ 0 = elim (mod_next a (suc d) (omega arith)) [ inl p ↦ p.0 | inr p ↦ absurd (omega (arith, p.1)) ] in
    ap (λ n. neg_ℤ (pos n)) left

pub int_mod_negative : (z d : ℤ) → d <ℤ pos 0 → int_rem_euclid z d ≢ pos 0 → int_mod z d ≡ int_rem_euclid z d +ℤ d
int_mod_negative z (pos d) h e = absurd (omega (arith, ints))
int_mod_negative (pos zero) (negsuc d) h e = absurd (e (ap pos (mod-eq_of_lt (zero-lt-suc d))))
int_mod_negative (pos (suc a)) (negsuc d) h e =
    elim (mod_next a (suc d) (omega arith)) [
      | inl p ↦ absurd (e (ap pos p.0))
      | inr p ↦ neg_sub (suc d - 1 - a % suc d) (suc a % suc d) d (omega (arith, p.0, p.1))
    ]
int_mod_negative (negsuc a) (negsuc d) h e =
    elim (mod_next a (suc d) (omega arith)) [
      | inl p ↦ absurd (e (ap pos (omega (arith, p.1))))
      | inr p ↦ neg_sub (suc a % suc d) (suc d - 1 - a % suc d) d (omega (arith, p.0, p.1))
    ]

pub int_mod_positive : (z d : ℤ) → pos 0 ≤ℤ d → int_mod z d ≡ int_rem_euclid z d
int_mod_positive z (pos d) h = refl
int_mod_positive z (negsuc d) h = absurd (omega (arith, ints))

-- ---- divisors other than 0

pub s_div_is : (w a b : ℕ) → b ≢ 0 → s_div w a b ≡ wrapped w (int_div (signed w a) (signed w b))
unfolding s_div
s_div_is w a b h = grind arith

pub s_rem_is : (w a b : ℕ) → b ≢ 0 → s_rem w a b ≡ wrapped w (int_rem (signed w a) (signed w b))
unfolding s_rem
s_rem_is w a b h = grind arith

pub s_mod_is : (w a b : ℕ) → b ≢ 0 → s_mod w a b ≡ wrapped w (int_mod (signed w a) (signed w b))
unfolding s_mod
s_mod_is w a b h = grind arith

-- ---- what tests of the code say

pub negative_from : (z : ℤ) → int_lt z (pos 0) ≡ true → z <ℤ pos 0
negative_from z e = grind (arith, ints)

pub not_negative_from : (z : ℤ) → int_lt z (pos 0) ≡ false → pos 0 ≤ℤ z
not_negative_from z e = grind (arith, ints)

pub zero_from : (z : ℤ) → mag z < 2 ^ 31 → cast_unsigned w32 z ≡ 0 → z ≡ pos 0
zero_from (pos n) f e = ap pos e
zero_from (negsuc n) f e = absurd (omega arith)

sum_low : (n : ℕ) (y : ℤ) → n < 2 ^ 31 → mag y < 2 ^ 31 → unsigned_abs (pos n +ℤ y) < 2 ^ 32
sum_low n (pos m) f g = omega arith
sum_low n (negsuc m) f g = grind arith

-- a remainder that is not negative and a divisor, added
pub rem_sum_low : (z d y : ℤ) → mag (int_rem_euclid z d) < 2 ^ 31 → mag y < 2 ^ 31 → unsigned_abs (int_rem_euclid z d +ℤ y) < 2 ^ 32
rem_sum_low (pos a) d y f g = sum_low (a % unsigned_abs d) y f g
rem_sum_low (negsuc a) d y f g = sum_low (unsigned_abs d - 1 - a % unsigned_abs d) y f g

pub shift_is : (w a n : ℕ) → n < w → shift_right_arithmetic w a n ≡ wrapped w (div_down (signed w a) (2 ^ n))
unfolding shift_right_arithmetic
shift_is w a n h = grind arith
