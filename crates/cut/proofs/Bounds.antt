-- The bound of the whole numbers that are 0 or lie below a number: 1 where the number does, else its whole part, and 1 more where it has another part. Assumes nothing.
use Rattle.std.proofs.Common.{◌≡◌, ℕ, ◌+◌, ◌*◌, ◌/◌, ◌^◌, ◌<◌, ◌≤◌, true, false, T, ltb, ◌⊎◌, pos, sym, refl, ◌∙◌, subst, inl, inr, true≢false, le_trans, lt_of_lt_of_le, lt_of_le_of_lt, le_of_lt, mul-le-mul_right, lt_of_mul-lt-mul_right, mul-lt-mul_of_pos_right, one-mul, le-div_iff_mul-le, div-mul-le_self, arith, ltb→lt, lt→ltb, leb→le, nltb→le}
use lib.Ieee.{Float, nan, inf, fin, binary64, up, down, lt, of_int, to_unsigned}
use lib.Ieee.Fits.{down_pos}
use lib.Ieee.Exact.{HasValue}
use lib.Ieee.Positive.{num, den, den_pos}
use Rattle.readings.proofs.Tests.{yes, no}
use Rattle.readings.proofs.Values.{scale_up, lt_value}
use Rattle.readings.proofs.Wholes.{of_int_value}
use Rattle.readings.proofs.Shares.{to_unsigned_lem}
use Rattle.cut.specs.Sums.{one, Bound}

module _ (x : Float) (is : HasValue x false (num x) (den x)) (M : num x ≤ 67108864 * den x) where
  abbrev q : ℕ
  q = num x

  abbrev c : ℕ
  c = den x

  -- a value over 1, over the number's own denominator
  over : (y : Float) (a : ℕ) → HasValue y false a 1 → HasValue y false (a * den x) (den x)
  over y a h = subst (λ (d : ℕ). HasValue y false (a * c) d) (one-mul c) (scale_up y false a 1 c h)

  one_test : lt x one ≡ ltb (num x) (1 * den x)
  one_test = lt_value x one q (1 * c) c (den_pos x) is (over one 1 (refl, refl))

  whole_test : (a : ℕ) → a ≤ 2 ^ 53 → lt (of_int binary64 (pos a)) x ≡ ltb (a * den x) (num x)
  whole_test a h = lt_value (of_int binary64 (pos a)) x (a * c) q c (den_pos x) (over (of_int binary64 (pos a)) a (of_int_value binary64 a h)) is

  pub above_minus : T (lt (fin true 1 (pos 0)) x)
  unfolding lt
  above_minus = go x is
    where
      go : (x : Float) → HasValue x false q c → T (lt (fin true 1 (pos 0)) x)
      go nan v = absurd v
      go (inf true) v = absurd v
      go (inf false) v = absurd v
      go (fin true m e) v = absurd (true≢false v.0)
      go (fin false m e) v = lt→ltb 0 (1 * down e + m * up e * 1) (omega (arith, down_pos e))

  pub below_most : T (lt x (fin false 1 (pos 64)))
  below_most = subst T (sym (lt_value x (fin false 1 (pos 64)) q (2 ^ 64 * c) c (den_pos x) is (over (fin false 1 (pos 64)) (2 ^ 64) (refl, refl)))) (lt→ltb q (2 ^ 64 * c) (lt_of_le_of_lt M (go c (den_pos x))))
    where
      go : (c : ℕ) → 0 < c → 67108864 * c < 18446744073709551616 * c
      go c h = omega arith

  -- the whole part
  abbrev w : ℕ
  w = num x / den x

  whole_is : (to_unsigned 64 x ≡ num x / den x) × (num x / den x ≤ 67108864)
  whole_is = to_unsigned_lem x q c 67108864 (den_pos x) is M (leb→le 67108865 (2 ^ 64) tt)

  pub whole_fits : to_unsigned 64 x ≤ 67108864
  whole_fits = rw whole_is.0 whole_is.1

  w_le : w ≤ 2 ^ 53
  w_le = le_trans whole_is.1 (leb→le 67108864 (2 ^ 53) tt)

  -- a whole number is at most the whole part where it does not pass the number
  at_most : (s : ℕ) → s * den x < num x → s ≤ num x / den x
  at_most s h = (le-div_iff_mul-le (den_pos x)).1 (le_of_lt h)

  pub bound_one : lt x one ≡ true → Bound x 1
  bound_one t = record { short = λ s h. inl (none s h); under = λ s h. go s h }
    where
      l : q < 1 * c
      l = ltb→lt q (1 * c) (yes (sym one_test ∙ t))

      none : (s : ℕ) → s < 1 → s ≡ 0
      none s h = omega arith

      go : (s : ℕ) → (s ≡ 0) ⊎ (s * c < q) → s < 1
      go s (inl z) = omega arith
      go s (inr h) = lt_of_mul-lt-mul_right c (le_trans h (le_of_lt l))

  module _ (t : lt x one ≡ false) where
    l : 1 * den x ≤ num x
    l = nltb→le q (1 * c) (no (sym one_test ∙ t))

    some : 0 < num x / den x
    some = (le-div_iff_mul-le (den_pos x)).1 l

    module _ (r : ℕ) (e : r ≡ to_unsigned 64 x) where
      is_whole : r ≡ num x / den x
      is_whole = e ∙ whole_is.0

      pub bound_more : lt (of_int binary64 (pos r)) x ≡ true → Bound x (r + 1)
      bound_more u = rw is_whole (record { short = λ s h. inr (lt_of_le_of_lt (mul-le-mul_right c (back s h)) more); under = λ s h. go s h })
        where
          more : w * c < q
          more = ltb→lt (w * c) q (yes (sym (whole_test w w_le) ∙ (rw is_whole at u)))

          back : (s : ℕ) → s < w + 1 → s ≤ w
          back s h = omega arith

          go : (s : ℕ) → (s ≡ 0) ⊎ (s * c < q) → s < w + 1
          go s (inl z) = omega arith
          go s (inr h) = omega (arith, at_most s h)

      pub bound_whole : lt (of_int binary64 (pos r)) x ≡ false → Bound x r
      bound_whole u = rw is_whole (record { short = λ s h. inr (lt_of_lt_of_le (mul-lt-mul_of_pos_right h (den_pos x)) (div-mul-le_self q c)); under = λ s h. go s h })
        where
          most : q ≤ w * c
          most = nltb→le (w * c) q (no (sym (whole_test w w_le) ∙ (rw is_whole at u)))

          go : (s : ℕ) → (s ≡ 0) ⊎ (s * c < q) → s < w
          go s (inl z) = rw z some
          go s (inr h) = lt_of_mul-lt-mul_right c (lt_of_lt_of_le h most)
