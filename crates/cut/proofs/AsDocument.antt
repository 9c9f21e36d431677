-- The drawn cut is document 01's, on coordinates: no sum of sides is rounded, and the float loop gives the channel and the rest of the whole numbers. Assumes nothing.
use Rattle.std.proofs.Common.{◌≡◌, ℕ, zero, suc, ◌+◌, ◌-◌, ◌/◌, ◌^◌, ◌<◌, ◌≤◌, Bool, true, false, not, ◌&&◌, T, eqb, ltb, Some, List, pos, sym, refl, ap, ◌∙◌, subst, true≢false, zero-le, le_trans, le_refl, lt_irrefl, zero-lt-suc, arith, eqb→eq, ltb→lt, leb→le, nltb→le, pow_pos, pow_mono}
use native.Mathlib.Nat.{le-suc}
use lib.Ieee.{Float, binary64, add, mul, eq, of_int}
use lib.Ieee.Fits.{and_i, and_l, and_r, eq→eqb}
use borrow.Table.Steps.{cases as by-test}
use Rattle.readings.specs.Coordinate.{is_coordinate, rank}
use Rattle.readings.specs.Word.{factor_of}
use Rattle.readings.proofs.Words.{factor_value}
use Rattle.readings.proofs.Tests.{same_test, yes, no}
use Rattle.readings.proofs.Values.{mul_value}
use Rattle.readings.proofs.Wholes.{of_int_value, of_int_add}
use Rattle.readings.proofs.Ranks.{lt_rank}
use Rattle.boundingbox.specs.Ends.{channel}
use Rattle.readings.specs.Number.{nought}
use Rattle.boundingbox.specs.Sides.{range_sum}
use Rattle.boundingbox.specs.Contained.{every, stays, contains}
use Rattle.boundingbox.specs.Wholes.{side, sum_to}
use Rattle.boundingbox.proofs.Sums.{nought_is, sum_fits, whole_eq}
use Rattle.cut.specs.Draw.{outside_sum, low_end, high_end, side_of, range_of, side_from, drawn_at, separation}
use Rattle.cut.specs.Document.{number_drawn, channel_of, rest_of, cut_of, document_cut}
use Rattle.cut.specs.Laws.{Readings, SumsExact, AsDocument}
use Rattle.cut.proofs.Number.{side_is}
use Rattle.cut.proofs.Stretched.{beyond, out, outside_exact, range_exact, sum_stretched, side_exact, sides_exact, stretched}

-- ---- the box holds the point exactly where nothing of it lies outside
module _ (lo hi p : List Float) where
  abbrev o : ℕ → ℕ
  o i = beyond (rank (channel lo i)) (rank (channel hi i)) (rank (channel p i))

  stays_is : (i : ℕ) → T (is_coordinate (channel lo i)) → T (is_coordinate (channel hi i)) → T (is_coordinate (channel p i)) → rank (channel lo i) ≤ rank (channel hi i) → eqb (o i) 0 ≡ stays (channel lo i) (channel hi i) (channel p i) (channel p i)
  unfolding stays
  stays_is i L H P h = rw (lt_rank (channel p i) (channel lo i) P L, lt_rank (channel hi i) (channel p i) H P) (go (rank (channel lo i)) (rank (channel hi i)) (rank (channel p i)) h)
    where
      go : (a b x : ℕ) → a ≤ b → eqb (beyond a b x) 0 ≡ (not (ltb x a) && not (ltb b x))
      go a b x h = by-test (ltb x a) (λ t. rw t (below t)) (λ t. rw t (above t))
        where
          off : (k : ℕ) → 0 < k → eqb k 0 ≡ false
          off k h = same_test (eqb k 0) false (λ t. lt_irrefl 0 (subst (λ (z : ℕ). 0 < z) (eqb→eq k 0 t) h)) (λ t. absurd t)

          below : ltb x a ≡ true → eqb (a - x) 0 ≡ false
          below t = let l : x < a = ltb→lt x a (yes t) in off (a - x) (omega arith)

          above : ltb x a ≡ false → eqb (x - b) 0 ≡ not (ltb b x)
          above t = by-test (ltb b x) (λ u. rw u (let l : b < x = ltb→lt b x (yes u) in off (x - b) (omega arith))) (λ u. rw u (let l : x ≤ b = nltb→le b x (no u) in zero_is (x - b) (omega arith)))
            where
              zero_is : (k : ℕ) → k ≡ 0 → eqb k 0 ≡ true
              zero_is k e = ap (λ (z : ℕ). eqb z 0) e

  split : (a b : ℕ) → eqb (a + b) 0 ≡ (eqb a 0 && eqb b 0)
  split a b =
      same_test (eqb (a + b) 0) (eqb a 0 && eqb b 0)
      (λ t. and_i (eqb a 0) (eqb b 0) (eq→eqb (left a b (eqb→eq (a + b) 0 t))) (eq→eqb (right a b (eqb→eq (a + b) 0 t))))
      (λ t. eq→eqb (both a b (eqb→eq a 0 (and_l (eqb a 0) (eqb b 0) t)) (eqb→eq b 0 (and_r (eqb a 0) (eqb b 0) t))))
    where
      left : (a b : ℕ) → a + b ≡ 0 → a ≡ 0
      left a b e = omega arith

      right : (a b : ℕ) → a + b ≡ 0 → b ≡ 0
      right a b e = omega arith

      both : (a b : ℕ) → a ≡ 0 → b ≡ 0 → a + b ≡ 0
      both a b e f = omega arith

  holds_to : (n : ℕ) → ((i : ℕ) → i < n → eqb (o i) 0 ≡ stays (channel lo i) (channel hi i) (channel p i) (channel p i)) → eqb (sum_to o n) 0 ≡ contains lo hi p p n
  unfolding sum_to every
  holds_to zero e = refl
  holds_to (suc n) e =
      split (sum_to o n) (o n) ∙ ap (λ (b : Bool). b && eqb (o n) 0) (holds_to n (λ i l. e i (le_trans l (le-suc n)))) ∙ ap (λ (b : Bool). contains lo hi p p n && b) (e n (last n))
    where
      last : (n : ℕ) → n < suc n
      last n = omega arith

  pub holds_is : (n : ℕ) → Readings lo hi p n → eqb (sum_to o n) 0 ≡ contains lo hi p p n
  holds_is n R = holds_to n (λ i h. stays_is i (R.box.lower i h) (R.box.upper i h) (R.point i h) (R.box.ordered i h))

eq_zero : (a : ℕ) → a ≤ 2 ^ 53 → eq (of_int binary64 (pos a)) nought ≡ eqb a 0
eq_zero a h = rw nought_is (whole_eq a 0 h zero-le)

module _ (lo hi p : List Float) (n : ℕ) (R : Readings lo hi p n) where
  abbrev A : ℕ
  A = sum_to (out lo hi p n R) n

  abbrev B : ℕ
  B = sum_to (side (channel lo) (channel hi)) n

  abbrev pub S : ℕ
  S = sum_to (side (low_end lo p) (high_end hi p)) n

  most : (m : ℕ) → m ≤ n → sum_to (side (low_end lo p) (high_end hi p)) m ≤ 2 ^ 26
  most = sum_fits (low_end lo p) (high_end hi p) n (stretched lo hi p n R)

  most_f64 : (m : ℕ) → m ≤ n → sum_to (side (low_end lo p) (high_end hi p)) m ≤ 2 ^ 53
  most_f64 m h = le_trans (most m h) (pow_mono (leb→le 26 53 tt))

  S-le : S ≤ 2 ^ 53
  S-le = most_f64 n (le_refl n)

  A-le : A ≤ 2 ^ 53
  A-le = go A B S (sum_stretched lo hi p n R) S-le
    where
      go : (a b s : ℕ) → a + b ≡ s → s ≤ 9007199254740992 → a ≤ 9007199254740992
      go a b s e h = omega arith

  B-le : B ≤ 2 ^ 53
  B-le = go A B S (sum_stretched lo hi p n R) S-le
    where
      go : (a b s : ℕ) → a + b ≡ s → s ≤ 9007199254740992 → b ≤ 9007199254740992
      go a b s e h = omega arith

  -- the two float sums add up to the sum of the sides
  all_exact : add binary64 (outside_sum lo hi p n) (range_sum lo hi n) ≡ of_int binary64 (pos S)
  all_exact = rw (outside_exact lo hi p n R, range_exact lo hi p n R) (of_int_add binary64 A B A-le B-le ∙ ap (λ (k : ℕ). of_int binary64 (pos k)) (sum_stretched lo hi p n R))

  -- the Rust's test whether the box holds the point
  pub outside_is : eq (outside_sum lo hi p n) nought ≡ contains lo hi p p n
  outside_is = ap (λ (x : Float). eq x nought) (outside_exact lo hi p n R) ∙ eq_zero A A-le ∙ holds_is lo hi p n R

  -- a point outside makes some side of the box with the point in it
  pub some_side : contains lo hi p p n ≡ false → 0 < S
  some_side t = go A B S (sum_stretched lo hi p n R) (holds_is lo hi p n R ∙ t)
    where
      go : (a b s : ℕ) → a + b ≡ s → eqb a 0 ≡ false → 0 < s
      go a b s e f = let h : a ≡ 0 → ⊥ = λ z. true≢false (sym (ap (λ (k : ℕ). eqb k 0) z) ∙ f) in omega arith

  -- the Rust's test whether the box is a single point
  pub point_is : eq (range_sum lo hi n) nought ≡ eqb B 0
  point_is = ap (λ (x : Float). eq x nought) (range_exact lo hi p n R) ∙ eq_zero B B-le

  module _ (w : ℕ) (W : w < 2 ^ 64) where
    -- the sum of the sides times the factor is rounded once
    pub product_is : mul binary64 (of_int binary64 (pos S)) (factor_of w) ≡ number_drawn (low_end lo p) (high_end hi p) n w
    unfolding number_drawn
    product_is = mul_value binary64 (of_int binary64 (pos S)) (factor_of w) S 1 (w / 2 ^ 11) (2 ^ 53) (zero-lt-suc 0) (pow_pos 53) (of_int_value binary64 S S-le) (factor_value w W)

    pub number_is : range_of lo hi p n w ≡ number_drawn (low_end lo p) (high_end hi p) n w
    unfolding range_of
    number_is = ap (λ (x : Float). mul binary64 x (factor_of w)) all_exact ∙ product_is

    -- outside the box, the loop ends in document 01's channel, with document 01's rest
    pub side_drawn : contains lo hi p p n ≡ false → side_from (side_of lo hi p) n 0 (range_of lo hi p n w) ≡ Some (record { dimension = channel_of (low_end lo p) (high_end hi p) n w; rest = rest_of (low_end lo p) (high_end hi p) n w })
    side_drawn o = rw number_is (side_is (low_end lo p) (high_end hi p) n (stretched lo hi p n R) w W (side_of lo hi p) (side_exact lo hi p n R) (some_side o))

    -- so that is the cut that is drawn
    pub separation_is : contains lo hi p p n ≡ false → separation n lo hi p w ≡ Some (drawn_at lo hi p (record { dimension = channel_of (low_end lo p) (high_end hi p) n w; rest = rest_of (low_end lo p) (high_end hi p) n w }))
    unfolding separation
    separation_is o = rw (outside_is, o, side_drawn o) refl

pub as_document : AsDocument
unfolding separation document_cut cut_of drawn_at
as_document n lo hi p w R W = by-test (contains lo hi p p n) (λ t. rw (outside_is lo hi p n R, t) refl) (λ t. rw (t, separation_is lo hi p n R w W t) refl)

pub sums_exact : SumsExact
sums_exact n lo hi p R = record {
  most = most lo hi p n R;
  first = λ m h. rw (sides_exact lo hi p n R m h) (of_int_value binary64 (sum_to (side (low_end lo p) (high_end hi p)) m) (most_f64 lo hi p n R m h));
  all = rw (all_exact lo hi p n R) (of_int_value binary64 (S lo hi p n R) (S-le lo hi p n R));
}
