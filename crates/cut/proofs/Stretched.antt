-- The box with the point in it, on coordinates: its ends are coordinates, its sides and their sum are whole numbers, and what lies outside the box is what the sides have grown by. Assumes nothing.
use Rattle.std.proofs.Common.{◌≡◌, ℕ, zero, suc, ◌+◌, ◌-◌, ◌<◌, ◌≤◌, min, max, Bool, true, false, cond, T, ltb, List, pos, sym, refl, ap, ◌∙◌, le_trans, le_refl, arith, ltb→lt, nltb→le}
use native.Mathlib.Nat.{le-suc}
use lib.Ieee.{Float, binary64, of_int}
use borrow.Table.Steps.{cases as by-test}
use Rattle.readings.specs.Coordinate.{is_coordinate, rank}
use Rattle.readings.proofs.Tests.{no, yes}
use Rattle.readings.proofs.Ranks.{lt_rank, rank_le}
use Rattle.boundingbox.proofs.Order.{by_rank, least_place, greatest_place, least_keeps, greatest_keeps}
use Rattle.boundingbox.proofs.Sums.{gap_exact, total_whole, total_exact}
use Rattle.boundingbox.specs.Ends.{channel}
use Rattle.boundingbox.specs.Sides.{gap_of, total, range_sum}
use Rattle.boundingbox.specs.Wholes.{Box, side, sum_to}
use Rattle.cut.specs.Draw.{outside_of, outside_sum, low_end, high_end, side_of}
use Rattle.cut.specs.Laws.{Readings}

-- ---- one channel
-- how far x lies outside a to b, in ranks
abbrev pub beyond : ℕ → ℕ → ℕ → ℕ
beyond a b x = cond (ltb x a) (a - x) (x - b)

-- the side grows by what lies outside
stretch : (a b x : ℕ) → a ≤ b → beyond a b x + (b - a) ≡ max b x - min a x
stretch a b x h = by-test (ltb x a) (λ t. rw t (below (ltb→lt x a (yes t)))) (λ t. rw t (above (nltb→le x a (no t))))
  where
    below : x < a → a - x + (b - a) ≡ max b x - min a x
    below l = omega arith

    above : a ≤ x → x - b + (b - a) ≡ max b x - min a x
    above l = omega arith

-- ---- sums
pub sum_same : (g h : ℕ → ℕ) (n : ℕ) → ((i : ℕ) → i < n → g i ≡ h i) → sum_to g n ≡ sum_to h n
unfolding sum_to
sum_same g h zero e = refl
sum_same g h (suc n) e = ap (λ (x : ℕ). x + g n) (sum_same g h n (λ i l. e i (le_trans l (le-suc n)))) ∙ ap (λ (x : ℕ). sum_to h n + x) (e n (le_refl n))
  where
    le_refl : (n : ℕ) → n < suc n
    le_refl n = omega arith

pub sum_plus : (g h : ℕ → ℕ) (n : ℕ) → sum_to (λ (i : ℕ). g i + h i) n ≡ sum_to g n + sum_to h n
unfolding sum_to
sum_plus g h zero = refl
sum_plus g h (suc n) = omega (arith, sum_plus g h n)

-- ---- the whole box
module _ (lo hi p : List Float) (n : ℕ) (R : Readings lo hi p n) where
  abbrev a : ℕ → ℕ
  a i = rank (channel lo i)

  abbrev b : ℕ → ℕ
  b i = rank (channel hi i)

  abbrev x : ℕ → ℕ
  x i = rank (channel p i)

  abbrev pub out : ℕ → ℕ
  out i = beyond (rank (channel lo i)) (rank (channel hi i)) (rank (channel p i))

  low_rank : (i : ℕ) → i < n → rank (low_end lo p i) ≡ min (a i) (x i)
  low_rank i h = least_place _ rank by_rank (channel lo i) (channel p i) (R.box.lower i h) (R.point i h)

  high_rank : (i : ℕ) → i < n → rank (high_end hi p i) ≡ max (b i) (x i)
  high_rank i h = greatest_place _ rank by_rank (channel hi i) (channel p i) (R.box.upper i h) (R.point i h)

  -- the box with the point in it is a box
  pub stretched : Box (low_end lo p) (high_end hi p) n
  stretched = record {
    few = R.box.few;
    lower = λ i h. least_keeps (λ (y : Float). T (is_coordinate y)) (channel lo i) (channel p i) (R.box.lower i h) (R.point i h);
    upper = λ i h. greatest_keeps (λ (y : Float). T (is_coordinate y)) (channel hi i) (channel p i) (R.box.upper i h) (R.point i h);
    ordered = λ i h. rw (low_rank i h, high_rank i h) (go (a i) (b i) (x i) (R.box.ordered i h));
  }
    where
      go : (a b x : ℕ) → a ≤ b → min a x ≤ max b x
      go a b x h = omega arith

  pub side_exact : (i : ℕ) → i < n → side_of lo hi p i ≡ of_int binary64 (pos (side (low_end lo p) (high_end hi p) i))
  unfolding side_of
  side_exact i h = gap_exact (low_end lo p i) (high_end hi p i) (stretched.lower i h) (stretched.upper i h)

  out_exact : (i : ℕ) → i < n → outside_of (channel lo i) (channel hi i) (channel p i) ≡ of_int binary64 (pos (out i))
  unfolding outside_of
  out_exact i h = rw (lt_rank (channel p i) (channel lo i) (R.point i h) (R.box.lower i h)) (go (ltb (x i) (a i)))
    where
      go : (c : Bool) → cond c (gap_of (channel p i) (channel lo i)) (gap_of (channel hi i) (channel p i)) ≡ of_int binary64 (pos (cond c (a i - x i) (x i - b i)))
      go true = gap_exact (channel p i) (channel lo i) (R.point i h) (R.box.lower i h)
      go false = gap_exact (channel hi i) (channel p i) (R.box.upper i h) (R.point i h)

  out_bound : (i : ℕ) → i < n → out i ≤ 2097152
  out_bound i h = go (ltb (x i) (a i))
    where
      go : (c : Bool) → cond c (a i - x i) (x i - b i) ≤ 2097152
      go true = omega (arith, rank_le (channel lo i) (R.box.lower i h))
      go false = omega (arith, rank_le (channel p i) (R.point i h))

  pub outside_exact : outside_sum lo hi p n ≡ of_int binary64 (pos (sum_to out n))
  unfolding outside_sum
  outside_exact = total_whole (λ (i : ℕ). outside_of (channel lo i) (channel hi i) (channel p i)) out n R.box.few out_exact out_bound

  pub range_exact : range_sum lo hi n ≡ of_int binary64 (pos (sum_to (side (channel lo) (channel hi)) n))
  range_exact = total_exact (channel lo) (channel hi) n R.box n (le_refl n)

  -- and so are the sums of the first sides of the box with the point in it
  pub sides_exact : (m : ℕ) → m ≤ n → total (side_of lo hi p) m ≡ of_int binary64 (pos (sum_to (side (low_end lo p) (high_end hi p)) m))
  unfolding side_of
  sides_exact = total_exact (low_end lo p) (high_end hi p) n stretched

  -- what lies outside, and the box's own sides, make up the sides of the box with the point in it
  pub sum_stretched : sum_to out n + sum_to (side (channel lo) (channel hi)) n ≡ sum_to (side (low_end lo p) (high_end hi p)) n
  sum_stretched = sym (sum_plus out (side (channel lo) (channel hi)) n) ∙ sum_same (λ (i : ℕ). out i + side (channel lo) (channel hi) i) (side (low_end lo p) (high_end hi p)) n each
    where
      each : (i : ℕ) → i < n → out i + side (channel lo) (channel hi) i ≡ side (low_end lo p) (high_end hi p) i
      each i h = rw (low_rank i h, high_rank i h) (stretch (a i) (b i) (x i) (R.box.ordered i h))
