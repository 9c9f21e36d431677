-- Growing a box of coordinates, its ends given as functions: it stays one, and its range sum is unchanged exactly where no end moves. Assumes nothing.
use mathlib.Core.Path.{◌≡◌, refl, sym, ap, ◌∙◌}
use mathlib.Core.Bool.{◌&&◌}
use Prim.Native.Nat.{ℕ, zero, suc, ◌+◌, ◌-◌, ◌^◌, ◌≤◌, ◌<◌, min, max}
use native.Mathlib.Nat.{le_trans, le-suc, le_refl, le_of_eq}
use native.Mathlib.Omega.{arith}
use lib.Dec.{T, leb, eqb, leb→le, le→leb, eqb→eq}
use lib.Pow.{pow_mono}
use lib.Ieee.{Float, eq}
use lib.Ieee.Fits.{and_l, and_r, and_i, eq→eqb}
use Rattle.readings.specs.Coordinate.{is_coordinate, rank}
use Rattle.readings.proofs.Tests.{same_test}
use Rattle.boundingbox.specs.Ends.{least, greatest}
use Rattle.boundingbox.specs.Sides.{gap_of, total}
use Rattle.boundingbox.specs.Contained.{every, stays}
use Rattle.boundingbox.specs.Wholes.{Box, side, sum_to}
use Rattle.boundingbox.proofs.Every.{every_same}
use Rattle.boundingbox.proofs.Order.{least_keeps, greatest_keeps, by_rank, least_place, greatest_place, stays_places}
use Rattle.boundingbox.proofs.Sums.{sum_fits, total_exact, whole_eq}

-- ---- in natural numbers: a side from l to h, grown by one from a to b
module _ (l h a b : ℕ) (o : l ≤ h) where
  kept : (leb l a && leb b h) ≡ eqb (h - l) (max h b - min l a)
  kept =
      same_test (leb l a && leb b h) (eqb (h - l) (max h b - min l a))
      (λ t. eq→eqb (fwd (leb→le l a (and_l (leb l a) (leb b h) t)) (leb→le b h (and_r (leb l a) (leb b h) t))))
      (λ t. let e = eqb→eq (h - l) (max h b - min l a) t in and_i (leb l a) (leb b h) (le→leb l a (low e)) (le→leb b h (high e)))
    where
      fwd : l ≤ a → b ≤ h → h - l ≡ max h b - min l a
      fwd p q = omega arith

      low : h - l ≡ max h b - min l a → l ≤ a
      low e = omega arith

      high : h - l ≡ max h b - min l a → b ≤ h
      high e = omega arith

  wider : h - l ≤ max h b - min l a
  wider = omega arith

-- sums of sides that only grew are equal where each side is
module _ (g k : ℕ → ℕ) where
  sums_le : (n : ℕ) → ((i : ℕ) → i < n → g i ≤ k i) → sum_to g n ≤ sum_to k n
  unfolding sum_to
  sums_le zero h = le_refl 0
  sums_le (suc n) h = go (sum_to g n) (sum_to k n) (g n) (k n) (sums_le n (λ i l. h i (le_trans l (le-suc n)))) (h n (le_refl (suc n)))
    where
      go : (a b c d : ℕ) → a ≤ b → c ≤ d → a + c ≤ b + d
      go a b c d h k = omega arith

  sums_same : (n : ℕ) → ((i : ℕ) → i < n → g i ≤ k i) → every (λ i. eqb (g i) (k i)) n ≡ eqb (sum_to g n) (sum_to k n)
  unfolding sum_to every
  sums_same zero h = refl
  sums_same (suc n) h =
      let old : (i : ℕ) → i < n → g i ≤ k i = λ i l. h i (le_trans l (le-suc n)) in
      rw (sums_same n old) (go (sum_to g n) (sum_to k n) (g n) (k n) (sums_le n old) (h n (le_refl (suc n))))
    where
      go : (a b c d : ℕ) → a ≤ b → c ≤ d → (eqb a b && eqb c d) ≡ eqb (a + c) (b + d)
      go a b c d h k =
          same_test (eqb a b && eqb c d) (eqb (a + c) (b + d))
          (λ t. eq→eqb (both (eqb→eq a b (and_l (eqb a b) (eqb c d) t)) (eqb→eq c d (and_r (eqb a b) (eqb c d) t))))
          (λ t. let e = eqb→eq (a + c) (b + d) t in and_i (eqb a b) (eqb c d) (eq→eqb (first e)) (eq→eqb (second e)))
        where
          both : a ≡ b → c ≡ d → a + c ≡ b + d
          both e f = omega arith

          first : a + c ≡ b + d → a ≡ b
          first e = omega arith

          second : a + c ≡ b + d → c ≡ d
          second e = omega arith

-- ---- a box from lo to hi grown by the ends a and b, all coordinates
module _ (lo hi a b : ℕ → Float) (n : ℕ) (B : Box lo hi n) (A : (i : ℕ) → i < n → T (is_coordinate (a i))) (C : (i : ℕ) → i < n → T (is_coordinate (b i))) where
  low_rank : (i : ℕ) → i < n → rank (least (lo i) (a i)) ≡ min (rank (lo i)) (rank (a i))
  low_rank i h = least_place _ rank by_rank (lo i) (a i) (B.lower i h) (A i h)

  high_rank : (i : ℕ) → i < n → rank (greatest (hi i) (b i)) ≡ max (rank (hi i)) (rank (b i))
  high_rank i h = greatest_place _ rank by_rank (hi i) (b i) (B.upper i h) (C i h)

  pub grown : Box (λ i. least (lo i) (a i)) (λ i. greatest (hi i) (b i)) n
  grown = record {
    few = B.few;
    lower = λ i h. least_keeps (λ x. T (is_coordinate x)) (lo i) (a i) (B.lower i h) (A i h);
    upper = λ i h. greatest_keeps (λ x. T (is_coordinate x)) (hi i) (b i) (B.upper i h) (C i h);
    ordered = λ i h. rw (low_rank i h, high_rank i h) (go (rank (lo i)) (rank (hi i)) (rank (a i)) (rank (b i)) (B.ordered i h));
  }
    where
      go : (l h a b : ℕ) → l ≤ h → min l a ≤ max h b
      go l h a b o = omega arith

  -- no end moves exactly where the box of ranks holds the new ends
  pub stays_ranks : (i : ℕ) → i < n → stays (lo i) (hi i) (a i) (b i) ≡ (leb (rank (lo i)) (rank (a i)) && leb (rank (b i)) (rank (hi i)))
  stays_ranks i h = stays_places _ rank by_rank (lo i) (hi i) (a i) (b i) (B.lower i h) (B.upper i h) (A i h) (C i h)

  side_grown : (i : ℕ) → i < n → side (λ j. least (lo j) (a j)) (λ j. greatest (hi j) (b j)) i ≡ max (rank (hi i)) (rank (b i)) - min (rank (lo i)) (rank (a i))
  side_grown i h = rw (low_rank i h, high_rank i h)

  -- The Rust asks whether the range sum is unchanged: on coordinates that is whether no end moves.
  pub same_sum : every (λ i. stays (lo i) (hi i) (a i) (b i)) n ≡ eq (total (λ i. gap_of (lo i) (hi i)) n) (total (λ i. gap_of (least (lo i) (a i)) (greatest (hi i) (b i))) n)
  same_sum =
      every_same (λ i. stays (lo i) (hi i) (a i) (b i)) (λ i. eqb (side lo hi i) (after i)) n (λ i h. stays_ranks i h ∙ kept (rank (lo i)) (rank (hi i)) (rank (a i)) (rank (b i)) (B.ordered i h) ∙ ap (eqb (side lo hi i)) (sym (side_grown i h)))
      ∙ sums_same (side lo hi) after n (λ i h. le_trans (wider (rank (lo i)) (rank (hi i)) (rank (a i)) (rank (b i)) (B.ordered i h)) (le_of_eq (sym (side_grown i h))))
      ∙ sym (rw (total_exact lo hi n B n (le_refl n), total_exact low high n grown n (le_refl n)) (whole_eq (sum_to (side lo hi) n) (sum_to after n) (small lo hi B) (small low high grown)))
    where
      low : ℕ → Float
      low i = least (lo i) (a i)

      high : ℕ → Float
      high i = greatest (hi i) (b i)

      after : ℕ → ℕ
      after i = side low high i

      small : (x y : ℕ → Float) → Box x y n → sum_to (side x y) n ≤ 2 ^ 53
      small x y D = le_trans (sum_fits x y n D n (le_refl n)) (pow_mono (leb→le 26 53 tt))
