-- The number that a word draws: a whole sum times a factor, rounded once, at most the sum; and whole sides taken off it exactly. Assumes nothing.
use Rattle.std.proofs.Common.{◌≡◌, ℕ, ◌+◌, ◌-◌, ◌*◌, ◌/◌, ◌%◌, ◌^◌, ◌<◌, ◌≤◌, true, false, not, T, leb, ◌⊎◌, pos, sym, ap, ◌∙◌, subst, inl, inr, le_trans, le_of_eq, lt_of_lt_of_le, lt_of_le_of_lt, le_of_lt, mul-le-mul_right, zero-lt-suc, mul_assoc, div-lt_iff_lt-mul, eq-or-lt_of_le, mul-le-mul_left, mul-pos, one-mul, mul-one, le_of_mul-le-mul_right, sub-le, arith, leb→le, pow_pos, pow_mono, pow-add}
use Prim.Native.Nat.{compare}
use native.Mathlib.Nat.{div-div-eq-div-mul}
use lib.Dec.{nleb→lt}
use lib.Pow.{pow-lt}
use lib.Ieee.{Float, binary64, size, round, sum, sub, le, of_int}
use lib.Ieee.Digits.{size-le}
use lib.Ieee.Fits.{kept-lt, nearest-le}
use lib.Ieee.Bits.{is_true}
use lib.Ieee.Exact.{HasValue}
use lib.Ieee.Back.{round_whole}
use lib.Ieee.Order.{round_mono, drop, kept}
use lib.Ieee.Scale.{round_val}
use Rattle.readings.proofs.Tests.{leb_no, split}
use Rattle.readings.proofs.Values.{sub_value, sum_minus, sum_under, scaled_exact, scale_up, scale_down, le_value, zero_value, round_under}
use Rattle.readings.proofs.Wholes.{of_int_value}
use Rattle.readings.specs.Number.{nought}

-- ---- the range: q / 2 ^ k
pub record Range (r : Float) (q k : ℕ) : Type 0 where
  pub value : HasValue r false q (2 ^ k)
  pub small : q ≤ 2 ^ 53
  pub fine : k ≤ 1074

-- a whole number, over the range's denominator
pub whole_over : (g k : ℕ) → g ≤ 2 ^ 53 → HasValue (of_int binary64 (pos g)) false (g * 2 ^ k) (2 ^ k)
whole_over g k L = subst (λ (c : ℕ). HasValue (of_int binary64 (pos g)) false (g * 2 ^ k) c) (one-mul (2 ^ k)) (scale_up (of_int binary64 (pos g)) false g 1 (2 ^ k) (of_int_value binary64 g L))

-- the range less a whole number, which may be 0
pub off_is : (r : Float) (q k g : ℕ) → Range r q k → g ≤ 2 ^ 53 → sub binary64 r (of_int binary64 (pos g)) ≡ sum binary64 false q true (g * 2 ^ k) (2 ^ k)
off_is r q k g R L = sub_value binary64 r (of_int binary64 (pos g)) false false q (g * 2 ^ k) (2 ^ k) (pow_pos k) R.value (whole_over g k L)

-- a whole side g comes off exactly, and the test says whether something is left
module _ (r : Float) (q k g : ℕ) (R : Range r q k) (G : 0 < g) (L : g ≤ 2 ^ 53) where
  pub off_exact : g * 2 ^ k < q → Range (sub binary64 r (of_int binary64 (pos g))) (q - g * 2 ^ k) k
  off_exact h = record {
    value = subst (λ (x : Float). HasValue x false (q - g * 2 ^ k) (2 ^ k)) (sym (off_is r q k g R L ∙ sum_minus binary64 q (g * 2 ^ k) (2 ^ k) (le_of_lt h))) (scaled_exact (q - g * 2 ^ k) k (lt' (g * 2 ^ k) (mul-pos G (pow_pos k)) h R.small) R.fine);
    small = le_trans (sub-le q (g * 2 ^ k)) R.small;
    fine = R.fine;
  }
    where
      lt' : (x : ℕ) → 0 < x → x < q → q ≤ 9007199254740992 → q - x < 9007199254740992
      lt' x a b c = omega arith

  pub off_test : le (sub binary64 r (of_int binary64 (pos g))) nought ≡ leb q (g * 2 ^ k)
  off_test = go (split (leb q (g * 2 ^ k)))
    where
      go : T (leb q (g * 2 ^ k)) ⊎ T (not (leb q (g * 2 ^ k))) → le (sub binary64 r (of_int binary64 (pos g))) nought ≡ leb q (g * 2 ^ k)
      go (inl t) = low (eq-or-lt_of_le (leb→le q (g * 2 ^ k) t)) ∙ sym (is_true (leb q (g * 2 ^ k)) t)
        where
          low : (q ≡ g * 2 ^ k) ⊎ (q < g * 2 ^ k) → le (sub binary64 r (of_int binary64 (pos g))) nought ≡ true
          low (inr l) = ap (λ (x : Float). le x nought) (off_is r q k g R L ∙ sum_under binary64 q (g * 2 ^ k) (2 ^ k) l) ∙ round_under binary64 (g * 2 ^ k - q) (2 ^ k)
          low (inl e) =
              ap (λ (x : Float). le x nought) (off_is r q k g R L ∙ sum_minus binary64 q (g * 2 ^ k) (2 ^ k) (le_of_eq (sym e)) ∙ ap (λ (z : ℕ). round binary64 false z (2 ^ k)) (none q (g * 2 ^ k) e))
              ∙ le_value (round binary64 false 0 (2 ^ k)) nought 0 0 (2 ^ k) (pow_pos k) (scaled_exact 0 k (pow_pos 53) R.fine) (zero_value (2 ^ k))
            where
              none : (a b : ℕ) → a ≡ b → a - b ≡ 0
              none a b e = omega arith
      go (inr t) =
          let h : g * 2 ^ k < q = nleb→lt q (g * 2 ^ k) t in
          le_value (sub binary64 r (of_int binary64 (pos g))) nought (q - g * 2 ^ k) 0 (2 ^ k) (pow_pos k) (off_exact h).value (zero_value (2 ^ k))
          ∙ leb_no (posi q (g * 2 ^ k) h)
          ∙ sym (leb_no h)
        where
          posi : (a b : ℕ) → b < a → 0 < a - b
          posi a b h = omega arith

-- ---- the first range: S * n / 2 ^ 53, rounded once. It is at most S
module _ (S n : ℕ) (A : S ≤ 2 ^ 32) (N : n ≤ 2 ^ 53) where
  abbrev whole : ℕ
  whole = S * n * 2 ^ 1074 / 2 ^ 53

  product : S * n ≤ 2 ^ 85
  product = le_trans (mul-le-mul_right n A) (le_trans (mul-le-mul_left (2 ^ 32) N) (le_of_eq (sym (pow-add 2 32 53))))

  whole_lt : whole < 2 ^ 1107
  whole_lt = (div-lt_iff_lt-mul (pow_pos 53)).1 (lt_of_le_of_lt (mul-le-mul_right (2 ^ 1074) product) (lt_of_le_of_lt (le_of_eq (sym (pow-add 2 85 1074))) (lt_of_lt_of_le (pow-lt (leb→le 1160 1160 tt)) (le_of_eq (pow-add 2 1107 53)))))

  abbrev d : ℕ
  d = drop 53 (S * n * 2 ^ 1074) (2 ^ 53)

  abbrev q : ℕ
  q = kept 53 (S * n * 2 ^ 1074) (2 ^ 53)

  d_le : d ≤ 1054
  d_le = go (size whole) (size-le whole 1107 whole_lt)
    where
      go : (z : ℕ) → z ≤ 1107 → z - 53 ≤ 1054
      go z h = omega arith

  q_le : q ≤ 2 ^ 53
  q_le =
      let m = S * n * 2 ^ 1074 in
      let u = 2 ^ 53 * 2 ^ d in
      le_trans (nearest-le (m / u) (compare (m % u * 2) u)) (subst (λ (x : ℕ). x < 2 ^ 53) (div-div-eq-div-mul m (2 ^ 53) (2 ^ d)) (kept-lt 53 whole))

  grid_value : HasValue (round binary64 false (S * n) (2 ^ 53)) false (q * 2 ^ d) (2 ^ 1074)
  grid_value =
      round_val binary64 (S * n) (2 ^ 53)
      (lt_of_le_of_lt (mul-le-mul_right (2 ^ d) q_le) (lt_of_le_of_lt (mul-le-mul_left (2 ^ 53) (pow_mono d_le)) (lt_of_le_of_lt (le_of_eq (sym (pow-add 2 53 1054))) (pow-lt (leb→le 1108 2098 tt)))))

  split_unit : 2 ^ (1074 - d) * 2 ^ d ≡ 2 ^ 1074
  split_unit = sym (pow-add 2 (1074 - d) d) ∙ ap (λ (z : ℕ). 2 ^ z) (go d d_le)
    where
      go : (d : ℕ) → d ≤ 1054 → 1074 - d + d ≡ 1074
      go d h = omega arith

  pub first_range : Range (round binary64 false (S * n) (2 ^ 53)) q (1074 - d)
  first_range = record {
    value = scale_down (round binary64 false (S * n) (2 ^ 53)) false q (2 ^ (1074 - d)) (2 ^ d) (pow_pos d) (subst (λ (c : ℕ). HasValue (round binary64 false (S * n) (2 ^ 53)) false (q * 2 ^ d) c) (sym split_unit) grid_value);
    small = q_le;
    fine = sub-le 1074 d;
  }

  whole_value : HasValue (round binary64 false S 1) false (S * 2 ^ 1074) (2 ^ 1074)
  whole_value = subst (λ (c : ℕ). HasValue (round binary64 false S 1) false (S * 2 ^ 1074) c) (one-mul (2 ^ 1074)) (scale_up (round binary64 false S 1) false S 1 (2 ^ 1074) (round_whole binary64 false S (le_trans A (pow_mono (leb→le 32 53 tt)))))

  -- the rounding keeps the order, and S is a value
  pub at_most : q ≤ S * 2 ^ (1074 - d)
  at_most =
      let t : T (le (round binary64 false (S * n) (2 ^ 53)) (round binary64 false S 1)) = round_mono binary64 (S * n) (2 ^ 53) S 1 (pow_pos 53) (zero-lt-suc 0) (le_trans (le_of_eq (mul-one (S * n))) (mul-le-mul_left S N)) in
      let h : q * 2 ^ d ≤ S * 2 ^ 1074 = leb→le (q * 2 ^ d) (S * 2 ^ 1074) (subst T (le_value (round binary64 false (S * n) (2 ^ 53)) (round binary64 false S 1) (q * 2 ^ d) (S * 2 ^ 1074) (2 ^ 1074) (pow_pos 1074) grid_value whole_value) t) in
      le_of_mul-le-mul_right (le_trans h (le_of_eq (ap (λ (z : ℕ). S * z) (sym split_unit) ∙ sym (mul_assoc S (2 ^ (1074 - d)) (2 ^ d))))) (pow_pos d)
