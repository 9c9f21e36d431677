-- Shares: the two comparisons that tell one, and the part of a capacity that a share has cached. Assumes nothing.
use Rattle.std.proofs.Common.{◌≡◌, ℕ, zero, suc, ◌+◌, ◌-◌, ◌*◌, ◌/◌, ◌^◌, ◌<◌, ◌≤◌, min, Bool, true, false, ◌&&◌, ◌||◌, T, eqb, ℤ, pos, sym, refl, ap, ◌∙◌, subst, true≢false, zero-le, le_trans, le_of_eq, lt_of_le_of_lt, mul-le-mul_right, zero-lt-suc, mul_comm, mul-pos, one-mul, le-div_iff_mul-le, zero-mul, mul-one, div-one, arith, eqb→eq, leb→le, nltb→le, pow_pos}
use mathlib.Core.Bool.{false≢true}
use lib.Ieee.{Float, nan, inf, fin, binary64, up, down, round, mul, of_int, lt, le, eq, to_unsigned}
use lib.Ieee.Fits.{up_pos, down_pos, eq→eqb}
use lib.Ieee.Exact.{HasValue}
use lib.Ieee.Nearest.{div_same, div_mono}
use lib.Ieee.Order.{round_mono}
use lib.Ieee.Back.{round_whole}
use lib.Ieee.Scale.{finite, round_same, grid, round_val, round_under}
use lib.Ieee.Positive.{num, den, den_pos, value→cross}
use Rattle.readings.specs.Share.{is_share, cached_part}
use Rattle.readings.proofs.Tests.{same_test, leb_yes, no}
use Rattle.readings.proofs.Values.{mul_value, zero64, zero_value, le_value, scale_up}
use Rattle.readings.proofs.Wholes.{of_int_value}

-- 1, -1 and 2 ^ 64
abbrev pub one64 : Float
one64 = fin false 1 (pos 0)

abbrev pub minus_one64 : Float
minus_one64 = fin true 1 (pos 0)

abbrev pub two_64 : Float
two_64 = fin false 1 (pos 64)

-- ---- the comparisons

-- no negative value but -0 is at or above 0
from_zero : (m : ℕ) (u d : ℕ) → 0 < u → (eqb (0 * d) (m * u * 1) && (false || eqb (0 * d) 0)) ≡ eqb m 0
from_zero m u d U =
    ap (λ (z : ℕ). eqb z (m * u * 1) && (false || eqb z 0)) (zero-mul d)
    ∙ same_test (eqb 0 (m * u * 1) && true) (eqb m 0) (λ t. eq→eqb (fwd m (eqb→eq 0 (m * u * 1) (left (eqb 0 (m * u * 1)) t)))) (λ t. bwd (eqb→eq m 0 t))
  where
    left : (b : Bool) → T (b && true) → T b
    left true t = tt
    left false t = t

    clash : (n : ℕ) → 0 < n → 0 ≡ n → ⊥
    clash n p e = omega arith

    fwd : (m : ℕ) → 0 ≡ m * u * 1 → m ≡ 0
    fwd zero e = refl
    fwd (suc m) e = absurd (clash (suc m * u * 1) (mul-pos (mul-pos (zero-lt-suc m) U) (zero-lt-suc 0)) e)

    bwd : m ≡ 0 → T (eqb 0 (m * u * 1) && true)
    bwd e = subst (λ (z : ℕ). T (eqb 0 z && true)) (sym (ap (λ (z : ℕ). z * u * 1) e ∙ ap (λ (z : ℕ). z * 1) (zero-mul u) ∙ zero-mul 1)) tt

-- at or above 0, a share is what is at most 1
pub share_from_zero : (x : Float) → le zero64 x ≡ true → le x one64 ≡ is_share x
unfolding le lt eq is_share
share_from_zero nan h = absurd (false≢true h)
share_from_zero (inf true) h = absurd (false≢true h)
share_from_zero (inf false) h = refl
share_from_zero (fin false m e) h = le_value (fin false m e) one64 (m * up e) (down e) (down e) (down_pos e) (refl, refl) (refl, one-mul (down e) ∙ sym (mul-one (down e)))
share_from_zero (fin true m e) h = ap (λ (b : Bool). b || (eqb (m * up e * 1) (1 * down e) && (false || eqb (m * up e * 1) 0))) (leb_yes low) ∙ sym (sym (from_zero m (up e) (down e) (up_pos e)) ∙ h)
  where
    low : 0 < m * up e * 1 + 1 * down e
    low = omega (arith, down_pos e)

-- and nothing else is one
pub share_under_zero : (x : Float) → le zero64 x ≡ false → false ≡ is_share x
unfolding le lt eq is_share
share_under_zero nan h = refl
share_under_zero (inf s) h = refl
share_under_zero (fin false m e) h = absurd (true≢false (sym (le_value zero64 (fin false m e) 0 (m * up e) (down e) (down_pos e) (zero_value (down e)) (refl, refl) ∙ leb_yes {a = 0} {b = m * up e} zero-le) ∙ h))
share_under_zero (fin true m e) h = sym h ∙ from_zero m (up e) (down e) (up_pos e)

-- ---- the cached part

-- a value that is not negative, as a whole number
pub to_unsigned_lem : (x : Float) (g d n : ℕ) → 0 < d → HasValue x false g d → g ≤ n * d → n < 2 ^ 64 → (to_unsigned 64 x ≡ g / d) × (g / d ≤ n)
unfolding to_unsigned
to_unsigned_lem nan g d n D v h l = absurd v
to_unsigned_lem (inf s) g d n D v h l = absurd v
to_unsigned_lem (fin true m e) g d n D v h l = absurd (true≢false v.0)
to_unsigned_lem (fin false m e) g d n D v h l =
    let most : g / d ≤ n = le_trans (div_mono g d n 1 D (zero-lt-suc 0) (le_trans (le_of_eq (mul-one g)) h)) (le_of_eq (div-one n)) in
    (ap (λ (z : ℕ). min z (2 ^ 64 - 1)) (div_same (m * up e) (down e) g d (down_pos e) D v.1) ∙ kept (g / d) most, most)
  where
    kept : (q : ℕ) → q ≤ n → min q 18446744073709551615 ≡ q
    kept q h = omega arith

-- from 2 ^ 64 on the cast gives the largest number
pub unsigned_over : (x : Float) → lt minus_one64 x ≡ true → lt x two_64 ≡ false → to_unsigned 64 x ≡ 2 ^ 64 - 1
unfolding to_unsigned lt
unsigned_over nan h k = absurd (false≢true h)
unsigned_over (inf true) h k = absurd (true≢false k)
unsigned_over (inf false) h k = refl
unsigned_over (fin true m e) h k = absurd (true≢false (sym (leb_yes low) ∙ k))
  where
    low : 0 < m * up e * 1 + 2 ^ 64 * down e
    low = omega (arith, down_pos e)
unsigned_over (fin false m e) h k = over (m * up e / down e) ((le-div_iff_mul-le (down_pos e)).1 (le_trans (nltb→le (m * up e * 1) (2 ^ 64 * down e) (no k)) (le_of_eq (mul-one (m * up e)))))
  where
    over : (q : ℕ) → 18446744073709551616 ≤ q → min q 18446744073709551615 ≡ 18446744073709551615
    over q h = omega arith

-- and for a NaN or a value at most -1 it gives 0
pub unsigned_under : (x : Float) → lt minus_one64 x ≡ false → to_unsigned 64 x ≡ 0
unfolding to_unsigned lt
unsigned_under nan h = refl
unsigned_under (inf true) h = refl
unsigned_under (inf false) h = absurd (true≢false h)
unsigned_under (fin true m e) h = refl
unsigned_under (fin false m e) h = absurd (true≢false (sym (leb_yes low) ∙ h))
  where
    low : 0 < 1 * down e + m * up e * 1
    low = omega (arith, down_pos e)

between : (x p y : Float) → T (finite x) → T (finite y) → T (le x p) → T (le p y) → T (finite p)
unfolding le lt eq
between nan p y f g a b = absurd f
between (inf s) p y f g a b = absurd f
between (fin s m e) p nan f g a b = absurd g
between (fin s m e) p (inf t) f g a b = absurd g
between (fin s m e) nan (fin t n d) f g a b = absurd a
between (fin s m e) (inf true) (fin t n d) f g a b = absurd a
between (fin s m e) (inf false) (fin t n d) f g a b = absurd b
between (fin s m e) (fin u l k) (fin t n d) f g a b = tt

value_finite : (x : Float) (s : Bool) (a c : ℕ) → HasValue x s a c → T (finite x)
value_finite nan s a c h = absurd h
value_finite (inf t) s a c h = absurd h
value_finite (fin t m e) s a c h = tt

zero_is : round binary64 false 0 1 ≡ zero64
unfolding round
zero_is = refl

-- a fraction of at most n, rounded, is a value of at most n
module _ (a c n : ℕ) (C : 0 < c) (N : n ≤ 2 ^ 53) (h : a ≤ n * c) where
  abbrev r : Float
  r = round binary64 false a c

  abbrev y : Float
  y = round binary64 false n 1

  whole : HasValue y false n 1
  whole = round_whole binary64 false n N

  most : T (le r y)
  most = round_mono binary64 a c n 1 C (zero-lt-suc 0) (le_trans (le_of_eq (mul-one a)) h)

  least : T (le zero64 r)
  least = subst (λ (x : Float). T (le x r)) zero_is (round_mono binary64 0 1 a c (zero-lt-suc 0) C (le_trans (le_of_eq (zero-mul c)) zero-le))

  pub rounded_value : HasValue r false (grid binary64 a c) (2 ^ 1074)
  rounded_value = round_val binary64 a c (round_under binary64 a c (between zero64 r y tt (value_finite y false n 1 whole) least most))

  pub rounded_under : grid binary64 a c ≤ n * 2 ^ 1074
  rounded_under = leb→le (grid binary64 a c) (n * 2 ^ 1074) (subst T (le_value r y (grid binary64 a c) (n * 2 ^ 1074) (2 ^ 1074) (pow_pos 1074) rounded_value (scale_up y false n 1 (2 ^ 1074) whole)) most)

  floor : (to_unsigned 64 r ≡ num r / den r) × (to_unsigned 64 r ≤ n)
  floor =
      let u = to_unsigned_lem r (grid binary64 a c) (2 ^ 1074) n (pow_pos 1074) rounded_value rounded_under (lt_of_le_of_lt N (leb→le (suc (2 ^ 53)) (2 ^ 64) tt)) in
      (u.0 ∙ sym (div_same (num r) (den r) (grid binary64 a c) (2 ^ 1074) (den_pos r) (pow_pos 1074) (value→cross r (grid binary64 a c) (2 ^ 1074) rounded_value)), le_trans (le_of_eq u.0) u.1)

-- the product of -0 is -0
minus_zero : (m : ℕ) (e : ℤ) (y : Float) (c : ℕ) → m ≡ 0 → HasValue y false c 1 → mul binary64 (fin true m e) y ≡ round binary64 true 0 1
unfolding mul
minus_zero m e nan c z v = absurd v
minus_zero m e (inf s) c z v = absurd v
minus_zero m e (fin true n d) c z v = absurd (true≢false v.0)
minus_zero m e (fin false n d) c z v =
    round_same binary64 true (m * up e * (n * up d)) (down e * down d) 0 1 (mul-pos (down_pos e) (down_pos d)) (zero-lt-suc 0)
    (mul-one (m * up e * (n * up d)) ∙ ap (λ (k : ℕ). k * up e * (n * up d)) z ∙ ap (λ (k : ℕ). k * (n * up d)) (zero-mul (up e)) ∙ zero-mul (n * up d) ∙ sym (zero-mul (down e * down d)))

minus_zero_cast : (to_unsigned 64 (round binary64 true 0 1) ≡ num (round binary64 true 0 1) / den (round binary64 true 0 1)) × (to_unsigned 64 (round binary64 true 0 1) ≡ 0)
unfolding round to_unsigned
minus_zero_cast = (refl, refl)

-- at a share, the cached part is the whole part of the rounded product, and at most the capacity
pub cached_part_lem : (s : Float) (c : ℕ) → T (is_share s) → c ≤ 2 ^ 53
    → (cached_part s c ≡ num (mul binary64 s (of_int binary64 (pos c))) / den (mul binary64 s (of_int binary64 (pos c)))) × (cached_part s c ≤ c)
unfolding is_share cached_part
cached_part_lem nan c h C = absurd h
cached_part_lem (inf t) c h C = absurd h
cached_part_lem (fin true m e) c h C =
    let is = minus_zero m e (of_int binary64 (pos c)) c (eqb→eq m 0 h) (of_int_value binary64 c C) in
    subst (λ (p : Float). (to_unsigned 64 p ≡ num p / den p) × (to_unsigned 64 p ≤ c)) (sym is) (minus_zero_cast.0, le_trans (le_of_eq minus_zero_cast.1) zero-le)
cached_part_lem (fin false m e) c h C =
    let is = mul_value binary64 (fin false m e) (of_int binary64 (pos c)) (m * up e) (down e) c 1 (down_pos e) (zero-lt-suc 0) (refl, refl) (of_int_value binary64 c C) in
    let most : m * up e * c ≤ c * (down e * 1) = le_trans (mul-le-mul_right c (leb→le (m * up e) (down e) h)) (le_of_eq (mul_comm (down e) c ∙ ap (λ (z : ℕ). c * z) (sym (mul-one (down e))))) in
    subst (λ (p : Float). (to_unsigned 64 p ≡ num p / den p) × (to_unsigned 64 p ≤ c)) (sym is) (floor (m * up e * c) (down e * 1) c (mul-pos (down_pos e) (zero-lt-suc 0)) C most)
