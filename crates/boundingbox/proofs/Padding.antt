-- A box with channels that its tree does not use: they change neither what it holds, nor in how many channels it does so strictly, nor its range sum. Assumes nothing.
use mathlib.Core.Path.{◌≡◌, refl, sym, ap, ◌∙◌}
use mathlib.Core.Logic.{⊎_elim}
use mathlib.Core.List.{List}
use mathlib.Core.Bool.{false, not}
use Prim.Native.Nat.{ℕ, ◌≤◌}
use native.Mathlib.Nat.{le_trans, le_refl, sub_self}
use lib.IntN.{pos}
use lib.Dec.{T, leb, leb→le, nleb→lt}
use lib.Ieee.{Float, lt, binary64, of_int}
use Rattle.readings.specs.Coordinate.{is_coordinate, rank}
use Rattle.readings.proofs.Tests.{split}
use Rattle.boundingbox.specs.Ends.{channel}
use Rattle.readings.specs.Number.{nought}
use Rattle.boundingbox.specs.Sides.{range_sum}
use Rattle.boundingbox.specs.Contained.{stays, contains, inside, inside_to}
use Rattle.boundingbox.specs.Wholes.{Box, side, sum_to}
use Rattle.boundingbox.specs.Padding.{Padded}
use Rattle.boundingbox.proofs.Every.{every_more}
use Rattle.boundingbox.proofs.Sums.{sum_padded, total_exact}

nought_stays : T (stays nought nought nought nought)
unfolding stays lt
nought_stays = tt

pub not_inside : (hi : Float) → inside nought hi nought ≡ false
unfolding inside lt
not_inside hi = refl

nought_coordinate : T (is_coordinate nought)
unfolding is_coordinate
nought_coordinate = tt

pub padded_contains : (lo hi a b : List Float) (d n : ℕ) → d ≤ n → Padded lo d n → Padded hi d n → Padded a d n → Padded b d n → contains lo hi a b n ≡ contains lo hi a b d
padded_contains lo hi a b d n l p q r s = every_more _ d n l (λ i g h. rw (p i g h, q i g h, r i g h, s i g h) nought_stays)

pub padded_inside : (lo hi p : List Float) (d m : ℕ) → Padded lo d m → Padded p d m → (n : ℕ) → d ≤ n → n ≤ m → inside_to lo hi p n ≡ inside_to lo hi p d
padded_inside lo hi p d m P Q n l k = sum_padded _ d n l (λ i g h. rw (P i g (le_trans h k), Q i g (le_trans h k), not_inside))

pub padded_sides : (lo hi : List Float) (d n : ℕ) → Padded lo d n → Padded hi d n → (m : ℕ) → d ≤ m → m ≤ n → sum_to (side (channel lo) (channel hi)) n ≡ sum_to (side (channel lo) (channel hi)) m
padded_sides lo hi d n p q m l k = sum_padded (side (channel lo) (channel hi)) m n k (λ i g h. rw (p i (le_trans l g) h, q i (le_trans l g) h) (sub_self (rank nought)))

module _ (lo hi : List Float) (d n : ℕ) (few : n ≤ 32) (l : d ≤ n) (p : Padded lo d n) (q : Padded hi d n) (B : Box (channel lo) (channel hi) d) where
  pub padded_box : Box (channel lo) (channel hi) n
  padded_box = record {
    few = few;
    lower = λ i h. ⊎_elim (λ (g : T (leb d i)). rw (p i (leb→le d i g) h) nought_coordinate) (λ (g : T (not (leb d i))). B.lower i (nleb→lt d i g)) (split (leb d i));
    upper = λ i h. ⊎_elim (λ (g : T (leb d i)). rw (q i (leb→le d i g) h) nought_coordinate) (λ (g : T (not (leb d i))). B.upper i (nleb→lt d i g)) (split (leb d i));
    ordered = λ i h. ⊎_elim (λ (g : T (leb d i)). rw (p i (leb→le d i g) h, q i (leb→le d i g) h) (le_refl (rank nought))) (λ (g : T (not (leb d i))). B.ordered i (nleb→lt d i g)) (split (leb d i));
  }

  pub padded_range : range_sum lo hi n ≡ range_sum lo hi d
  padded_range = total_exact (channel lo) (channel hi) n padded_box n (le_refl n) ∙ ap (λ (k : ℕ). of_int binary64 (pos k)) (padded_sides lo hi d n p q d (le_refl d) l) ∙ sym (total_exact (channel lo) (channel hi) d B d (le_refl d))
