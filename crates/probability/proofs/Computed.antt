-- The computed sum, on coordinates, as a whole number: it is near the whole-number sum, and the f64 sums of the sides, and of the sides and it, are exact. Assumes nothing.
use mathlib.Core.Path.{◌≡◌, sym, ap, ◌∙◌, subst}
use mathlib.Core.List.{List}
use mathlib.Core.Bool.{false, true, true≢false}
use Prim.Native.Nat.{ℕ, ◌+◌, ◌-◌, ◌*◌, ◌/◌, ◌^◌, ◌≤◌, ◌<◌, min}
use native.Mathlib.Nat.{le_trans, le_refl, mul-one, mul-div_cancel}
use native.Mathlib.Omega.{arith}
use lib.IntN.{pos}
use lib.Dec.{leb→le}
use lib.Pow.{pow_mono}
use lib.Ieee.{Float, nan, inf, fin, binary32, binary64, up, down, add, of_int, to_unsigned}
use lib.Ieee.Fits.{down_pos, add-fits, fits_widens, of_int-fits}
use lib.Ieee.Exact.{HasValue}
use lib.Ieee.Back.{whole_unique}
use Rattle.readings.proofs.Wholes.{of_int_value, of_int_add}
use Rattle.boundingbox.specs.Ends.{channel}
use Rattle.boundingbox.specs.Sides.{range_sum}
use Rattle.boundingbox.proofs.Sums.{sum_fits}
use Rattle.cut.specs.Laws.{Readings}
use Rattle.cut.proofs.Stretched.{range_exact}
use Rattle.probability.specs.Probability.{past_sum, outside}
use Rattle.probability.specs.Laws.{S, W, computed_sum, SumsNear}
use Rattle.probability.proofs.Near.{Near, S-le, S-small, outside_near}

-- a float that is a whole number, as a number
whole_back : (x : Float) (w : ℕ) → HasValue x false w 1 → w < 2 ^ 64 → to_unsigned 64 x ≡ w
unfolding to_unsigned
whole_back nan w h l = absurd h
whole_back (inf s) w h l = absurd h
whole_back (fin true m e) w h l = absurd (true≢false h.0)
whole_back (fin false m e) w h l =
    ap (λ (z : ℕ). min (z / down e) (2 ^ 64 - 1)) (sym (mul-one (m * up e)) ∙ h.1)
    ∙ ap (λ (z : ℕ). min z (2 ^ 64 - 1)) (mul-div_cancel w (down_pos e))
    ∙ kept w l
  where
    kept : (w : ℕ) → w < 18446744073709551616 → min w 18446744073709551615 ≡ w
    kept w l = omega arith

module _ (n : ℕ) (lo hi p : List Float) (R : Readings lo hi p n) where
  N : Near (outside lo hi p n) (S lo hi p n) 126
  N = outside_near n lo hi p R

  near_le : N.whole ≤ 2 ^ 27
  near_le = go N.whole (S lo hi p n) N.over (S-le n lo hi p R)
    where
      go : (w s : ℕ) → w ≤ s + 126 → s ≤ 67108864 → w ≤ 134217728
      go w s h k = omega arith

  computed_is : computed_sum lo hi p n ≡ N.whole
  computed_is = whole_back (outside lo hi p n) N.whole N.value (go N.whole near_le)
    where
      go : (w : ℕ) → w ≤ 134217728 → w < 18446744073709551616
      go w h = omega arith

  pub computed_le : computed_sum lo hi p n ≤ 2 ^ 27
  computed_le = rw computed_is near_le

  computed_value : HasValue (outside lo hi p n) false (computed_sum lo hi p n) 1
  computed_value = rw computed_is N.value

  pub computed_under : S lo hi p n ≤ computed_sum lo hi p n + 126
  computed_under = rw computed_is N.under

  pub computed_exact : S lo hi p n ≤ 2 ^ 24 → computed_sum lo hi p n ≡ S lo hi p n
  computed_exact h = computed_is ∙ N.exact h

  pub computed_few : n ≤ 8 → computed_sum lo hi p n ≡ S lo hi p n
  computed_few h = computed_exact (S-small n lo hi p R h)

  most_computed : computed_sum lo hi p n ≤ 2 ^ 53
  most_computed = le_trans computed_le (pow_mono (leb→le 27 53 tt))

  pub outside_is : outside lo hi p n ≡ of_int binary64 (pos (computed_sum lo hi p n))
  outside_is =
      whole_unique binary64 (outside lo hi p n) (of_int binary64 (pos (computed_sum lo hi p n))) false (computed_sum lo hi p n)
      (fits_widens (outside lo hi p n) (add-fits binary32 (past_sum p hi n) (past_sum lo p n))) (of_int-fits binary64 (pos (computed_sum lo hi p n)))
      computed_value (of_int_value binary64 (computed_sum lo hi p n) most_computed)

  W-le : W lo hi n ≤ 2 ^ 26
  W-le = sum_fits (channel lo) (channel hi) n R.box n (le_refl n)

  most_sides : W lo hi n ≤ 2 ^ 53
  most_sides = le_trans W-le (pow_mono (leb→le 26 53 tt))

  pub all_le : W lo hi n + computed_sum lo hi p n ≤ 2 ^ 28
  all_le = go (W lo hi n) (computed_sum lo hi p n) W-le computed_le
    where
      go : (w s : ℕ) → w ≤ 67108864 → s ≤ 134217728 → w + s ≤ 268435456
      go w s h k = omega arith

  all_value : HasValue (add binary64 (range_sum lo hi n) (outside lo hi p n)) false (W lo hi n + computed_sum lo hi p n) 1
  all_value =
      subst (λ (x : Float). HasValue (add binary64 (range_sum lo hi n) x) false (W lo hi n + computed_sum lo hi p n) 1) (sym outside_is)
      (rw (range_exact lo hi p n R, of_int_add binary64 (W lo hi n) (computed_sum lo hi p n) most_sides most_computed) (of_int_value binary64 (W lo hi n + computed_sum lo hi p n) (le_trans all_le (pow_mono (leb→le 28 53 tt)))))

pub sums_near : SumsNear
sums_near n lo hi p R = record {
  computed = computed_value n lo hi p R;
  over = rw (computed_is n lo hi p R) (N n lo hi p R).over;
  under = computed_under n lo hi p R;
  few = computed_few n lo hi p R;
  small = computed_exact n lo hi p R;
  sides = rw (range_exact lo hi p n R) (of_int_value binary64 (W lo hi n) (most_sides n lo hi p R));
  all = all_value n lo hi p R;
}
