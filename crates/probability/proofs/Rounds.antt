-- A whole number below 2^28 rounded to an f32: a whole number again, off by half of its unit at most, and itself up to 2^24. So is the f32 sum of two whole numbers. Assumes nothing.
use mathlib.Core.Path.{◌≡◌, refl, sym, ap, ◌∙◌, subst}
use mathlib.Core.Bool.{false}
use Prim.Native.Nat.{ℕ, suc, ◌+◌, ◌-◌, ◌*◌, ◌/◌, ◌%◌, ◌^◌, ◌≤◌, ◌<◌, compare}
use native.Mathlib.Nat.{le_trans, le_of_eq, lt_of_lt_of_le, lt_of_le_of_lt, lt_of_not-le, not-le_of_lt, le_of_lt, le_antisymm, le_of_suc-le-suc, zero-lt-suc, mul_assoc, one-mul, add-mul, suc-mul, mul-le-mul_right, le_of_mul-le-mul_right, mul-pos, mod-lt, div-add-mod', div-one, div-div-eq-div-mul}
use native.Mathlib.Omega.{arith}
use lib.Dec.{ltb, leb, ltb→lt, nltb→le, leb→le, nleb→lt}
use lib.Pow.{pow-add, pow_pos, pow_mono, pow-lt, shl_lt}
use lib.Ieee.{Float, binary32, size, round, add}
use lib.Ieee.Digits.{size-lt, size-le}
use lib.Ieee.Fits.{nearest-le, kept-lt}
use lib.Ieee.Exact.{HasValue}
use lib.Ieee.Nearest.{closest}
use lib.Ieee.Order.{drop}
use lib.Ieee.Scale.{round_val}
use lib.Ieee.Back.{round_whole}
use borrow.Table.Steps.{cases as by-test}
use Rattle.readings.proofs.Tests.{yes, no, compare_lt, compare_eq, compare_gt}
use Rattle.readings.proofs.Values.{add_value, sum_plus, scale_down}

-- ---- a fraction rounded to the nearest whole number
-- z is off from a / b by a half at most
abbrev Half : ℕ → ℕ → ℕ → Type 0
Half z a b = (2 * (z * b) ≤ 2 * a + b) × (2 * a ≤ 2 * (z * b) + b)

lower : (q r a b : ℕ) → q * b + r ≡ a → r * 2 < b → Half q a b
lower q r a b e h = (omega arith, omega arith)

upper : (q r a b : ℕ) → q * b + r ≡ a → b < r * 2 → r < b → Half (suc q) a b
upper q r a b e h k =
    let s : suc q * b ≡ q * b + b = suc-mul q b in
    (omega arith, omega arith)

tied : (q r a b z : ℕ) → q * b + r ≡ a → r * 2 ≡ b → z < 2 → Half (q + z) a b
tied q r a b z e h k =
    let s : (q + z) * b ≡ q * b + z * b = add-mul q z b in
    let t : z * b ≤ 1 * b = mul-le-mul_right b (le_of_suc-le-suc k) in
    let u : 1 * b ≡ b = one-mul b in
    (omega arith, omega arith)

closest_near : (a b : ℕ) → 0 < b → Half (closest a b) a b
closest_near a b B =
    let e : a / b * b + a % b ≡ a = div-add-mod' a b in
    let r = a % b in
    by-test (ltb (r * 2) b) (λ t. rw (compare_lt (r * 2) b (ltb→lt (r * 2) b (yes t))) (lower (a / b) r a b e (ltb→lt (r * 2) b (yes t))))
    (λ t. by-test (ltb b (r * 2)) (λ u. rw (compare_gt (r * 2) b (ltb→lt b (r * 2) (yes u))) (upper (a / b) r a b e (ltb→lt b (r * 2) (yes u)) (mod-lt a B)))
    (λ u. let same : r * 2 ≡ b = le_antisymm (nltb→le b (r * 2) (no u)) (nltb→le (r * 2) b (no t)) in
    rw (compare_eq (r * 2) b same) (tied (a / b) r a b (a / b % 2) e same (mod-lt (a / b) (zero-lt-suc 1)))))

-- a bound in halves, of numbers that are all multiples of P
cancel : (x y z P : ℕ) → 0 < P → 2 * (x * P) ≤ 2 * (y * P) + z * P → 2 * x ≤ 2 * y + z
cancel x y z P h k =
    let e : 2 * x * P ≡ 2 * (x * P) = mul_assoc 2 x P in
    let f : (2 * y + z) * P ≡ 2 * y * P + z * P = add-mul (2 * y) z P in
    let g : 2 * y * P ≡ 2 * (y * P) = mul_assoc 2 y P in
    le_of_mul-le-mul_right (le_trans (le_of_eq e) (le_trans k (le_of_eq (sym (f ∙ ap (λ (w : ℕ). w + z * P) g))))) h

-- ---- a whole number as an f32
-- x is a whole number, off from m by e halves at most, and m itself up to 2^24
pub record Rounded (x : Float) (m e : ℕ) : Type 0 where
  pub whole : ℕ
  pub value : HasValue x false whole 1
  pub over : 2 * whole ≤ 2 * m + e
  pub under : 2 * m ≤ 2 * whole + e
  pub exact : m ≤ 2 ^ 24 → whole ≡ m

-- beyond 2^24: n is m in units of the least f32, of which 2^149 make 1. Of its binary digits rounding drops k, which are j of those of m.
module _ (m s : ℕ) (least : 2 ^ 24 < m) (most : m < 2 ^ s) (few : s ≤ 28) where
  abbrev n : ℕ
  n = m * 2 ^ 149

  abbrev k : ℕ
  k = drop 24 n 1

  abbrev j : ℕ
  j = k - 149

  unit : n / 1 ≡ n
  unit = div-one n

  digits_ge : 173 < size (n / 1)
  digits_ge = lt_of_not-le (λ (g : size (n / 1) ≤ 173). not-le_of_lt (lt_of_lt_of_le (subst (λ (z : ℕ). z < 2 ^ size (n / 1)) unit (size-lt (n / 1))) (pow_mono g)) (le_trans (le_of_eq (pow-add 2 24 149)) (mul-le-mul_right (2 ^ 149) (le_of_lt least))))

  digits_le : size (n / 1) ≤ s + 149
  digits_le = size-le (n / 1) (s + 149) (subst (λ (z : ℕ). z < 2 ^ (s + 149)) (sym unit) (shl_lt s 149 most))

  k_is : k ≡ j + 149
  k_is = go (size (n / 1)) digits_ge
    where
      go : (z : ℕ) → 173 < z → z - 24 ≡ z - 24 - 149 + 149
      go z h = omega arith

  j_le : j ≤ s - 24
  j_le = go (size (n / 1)) s digits_ge digits_le
    where
      go : (z s : ℕ) → 173 < z → z ≤ s + 149 → z - 24 - 149 ≤ s - 24
      go z s g h = omega arith

  k_le : 24 + k ≤ 276
  k_le = go (size (n / 1)) s digits_le few
    where
      go : (z s : ℕ) → z ≤ s + 149 → s ≤ 28 → 24 + (z - 24) ≤ 276
      go z s h g = omega arith

  -- the digits that are kept, and the whole number that they make
  abbrev c : ℕ
  c = closest n (1 * 2 ^ k)

  abbrev r : ℕ
  r = c * 2 ^ j

  apart : 2 ^ k ≡ 2 ^ j * 2 ^ 149
  apart = ap (λ (z : ℕ). 2 ^ z) k_is ∙ pow-add 2 j 149

  units_are : c * 2 ^ k ≡ r * 2 ^ 149
  units_are = ap (λ (z : ℕ). c * z) apart ∙ sym (mul_assoc c (2 ^ j) (2 ^ 149))

  c_le : c ≤ 2 ^ 24
  c_le = le_trans (nearest-le (n / (1 * 2 ^ k)) (compare (n % (1 * 2 ^ k) * 2) (1 * 2 ^ k))) (subst (λ (z : ℕ). z < 2 ^ 24) (div-div-eq-div-mul n 1 (2 ^ k)) (kept-lt 24 (n / 1)))

  fine : c * 2 ^ k < 2 ^ 277
  fine = lt_of_le_of_lt (le_trans (mul-le-mul_right (2 ^ k) c_le) (le_of_eq (sym (pow-add 2 24 k)))) (pow-lt (lt_of_le_of_lt k_le (ltb→lt 276 277 tt)))

  its_value : HasValue (round binary32 false m 1) false r 1
  its_value = scale_down (round binary32 false m 1) false r 1 (2 ^ 149) (pow_pos 149) (subst (λ (z : ℕ). HasValue (round binary32 false m 1) false z (2 ^ 149)) units_are (round_val binary32 m 1 fine))

  half : Half c n (1 * 2 ^ k)
  half = closest_near n (1 * 2 ^ k) (mul-pos (zero-lt-suc 0) (pow_pos k))

  as_unit : 1 * 2 ^ k ≡ 2 ^ j * 2 ^ 149
  as_unit = one-mul (2 ^ k) ∙ apart

  as_whole : c * (1 * 2 ^ k) ≡ r * 2 ^ 149
  as_whole = ap (λ (z : ℕ). c * z) (one-mul (2 ^ k)) ∙ units_are

  large : Rounded (round binary32 false m 1) m (2 ^ (s - 24))
  large =
      let over' : 2 * (r * 2 ^ 149) ≤ 2 * (m * 2 ^ 149) + 2 ^ j * 2 ^ 149 = subst (λ (z : ℕ). 2 * (r * 2 ^ 149) ≤ 2 * n + z) as_unit (subst (λ (z : ℕ). 2 * z ≤ 2 * n + 1 * 2 ^ k) as_whole half.0) in
      let under' : 2 * (m * 2 ^ 149) ≤ 2 * (r * 2 ^ 149) + 2 ^ j * 2 ^ 149 = subst (λ (z : ℕ). 2 * n ≤ 2 * (r * 2 ^ 149) + z) as_unit (subst (λ (z : ℕ). 2 * n ≤ 2 * z + 1 * 2 ^ k) as_whole half.1) in
      let o = cancel r m (2 ^ j) (2 ^ 149) (pow_pos 149) over' in
      let u = cancel m r (2 ^ j) (2 ^ 149) (pow_pos 149) under' in
      let t = pow_mono j_le in
      record { whole = r; value = its_value; over = loose (2 * r) (2 * m) (2 ^ j) (2 ^ (s - 24)) o t; under = loose (2 * m) (2 * r) (2 ^ j) (2 ^ (s - 24)) u t; exact = λ h. absurd (not-le_of_lt least h) }
    where
      loose : (x y z w : ℕ) → x ≤ y + z → z ≤ w → x ≤ y + w
      loose x y z w h k = omega arith

rounded : (m s : ℕ) → m < 2 ^ s → s ≤ 28 → Rounded (round binary32 false m 1) m (2 ^ (s - 24))
rounded m s h few =
    by-test (leb m (2 ^ 24)) (λ t. record { whole = m; value = round_whole binary32 false m (leb→le m (2 ^ 24) (yes t)); over = more (2 * m) (2 ^ (s - 24)); under = more (2 * m) (2 ^ (s - 24)); exact = λ _. refl })
    (λ t. large m s (nleb→lt m (2 ^ 24) (no t)) h few)
  where
    more : (x e : ℕ) → x ≤ x + e
    more x e = omega arith

-- so is the f32 sum of two whole numbers
pub added : (x y : Float) (a b s : ℕ) → HasValue x false a 1 → HasValue y false b 1 → a + b < 2 ^ s → s ≤ 28 → Rounded (add binary32 x y) (a + b) (2 ^ (s - 24))
added x y a b s h k l few = subst (λ (z : Float). Rounded z (a + b) (2 ^ (s - 24))) (sym (add_value binary32 x y false false a b 1 (zero-lt-suc 0) h k ∙ sum_plus binary32 a b 1)) (rounded (a + b) s l few)
