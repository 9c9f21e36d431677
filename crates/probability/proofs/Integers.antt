-- The chance by integers, on coordinates: what the sides grow by, over what they grow to, and summed over a tree's own channels or more. Assumes nothing.
use mathlib.Core.Path.{◌≡◌, refl, sym, ap, ap₂, ◌∙◌, subst}
use mathlib.Core.List.{List}
use mathlib.Core.Bool.{true, false}
use Prim.Native.Nat.{ℕ, ◌+◌, ◌^◌, ◌≤◌, ◌<◌, max}
use native.Mathlib.Nat.{zero-add, le_refl, zero-lt-suc, zero-mul}
use native.Mathlib.Omega.{arith}
use lib.Dec.{eqb→eq}
use lib.Ieee.{Float, binary64, round}
use lib.Ieee.Scale.{round_same}
use borrow.Table.Steps.{cases as by-test}
use Rattle.readings.specs.Coordinate.{rank}
use Rattle.readings.specs.Number.{nought}
use Rattle.readings.proofs.Tests.{yes}
use Rattle.boundingbox.specs.Ends.{channel}
use Rattle.boundingbox.specs.Contained.{contains}
use Rattle.boundingbox.specs.Wholes.{side, sum_to}
use Rattle.cut.specs.Draw.{low_end, high_end}
use Rattle.cut.specs.Laws.{Readings, Padded}
use Rattle.cut.proofs.Stretched.{sum_same, sum_stretched}
use Rattle.cut.proofs.AsDocument.{sums_exact}
use Rattle.cut.proofs.Padding.{fewer}
use Rattle.probability.specs.Probability.{probability}
use Rattle.probability.specs.Laws.{S, W, quotient}
use Rattle.probability.proofs.Near.{S-small}
use Rattle.probability.proofs.Computed.{computed_exact}
use Rattle.probability.proofs.Padding.{sides_pad, outside_pad}
use Rattle.probability.proofs.Quotient.{distance_is, held, some_out, one_division}

-- ---- what a sum from the first channel on grows by is the sum
pub sum_first : (g : ℕ → ℕ) (n r : ℕ) → sum_to g 0 + r ≡ sum_to g (0 + n) → r ≡ sum_to g n
sum_first g n r e = let z : sum_to g 0 ≡ 0 = unfold sum_to in refl in
    let m : sum_to g (0 + n) ≡ sum_to g n = ap (sum_to g) (zero-add n) in
    omega arith

-- ---- the quotient
-- nothing, over any whole number from 1 on
none_over : (m : ℕ) → 0 < m → round binary64 false 0 m ≡ nought
none_over m h = let is : round binary64 false 0 1 ≡ nought = unfold round in refl in round_same binary64 false 0 m 0 1 h (zero-lt-suc 0) (zero-mul 1 ∙ sym (zero-mul m)) ∙ is

module _ (n : ℕ) (lo hi p : List Float) (R : Readings lo hi p n) where
  -- the sides grow by what lies outside
  pub grows : sum_to (side (low_end lo p) (high_end hi p)) n ≡ W lo hi n + S lo hi p n
  grows =
      let e : S lo hi p n ≡ _ = sum_same _ _ n (λ i h. distance_is (rank (channel lo i)) (rank (channel hi i)) (rank (channel p i)) (R.box.ordered i h)) in
      go _ _ _ _ e (sum_stretched lo hi p n R)
    where
      go : (s o w t : ℕ) → s ≡ o → o + w ≡ t → t ≡ w + s
      go s o w t e f = omega arith

  abbrev all : ℕ
  all = W lo hi n + S lo hi p n

  pub all_fits : all ≤ 67108864
  all_fits = rw grows at ((sums_exact n lo hi p R).most n (le_refl n))

  -- where the whole-number sum does not pass 2^24, it is the computed sum
  pub by_integers : S lo hi p n ≤ 2 ^ 24 → round binary64 false (S lo hi p n) (max all 1) ≡ probability lo hi p n
  by_integers h = by-test (contains lo hi p p n) inside outside ∙ sym (one_division n lo hi p R ∙ ap (quotient lo hi p n) (computed_exact n lo hi p R h))
    where
      some : (t : ℕ) → 0 < max t 1
      some t = omega arith

      same : (w s : ℕ) → 0 < s → max (w + s) 1 ≡ w + s
      same w s h = omega arith

      inside : contains lo hi p p n ≡ true → round binary64 false (S lo hi p n) (max all 1) ≡ quotient lo hi p n (S lo hi p n)
      inside t = rw (t, eqb→eq (S lo hi p n) 0 (yes (held n lo hi p R ∙ t))) (none_over (max (W lo hi n + 0) 1) (some (W lo hi n + 0)))

      outside : contains lo hi p p n ≡ false → round binary64 false (S lo hi p n) (max all 1) ≡ quotient lo hi p n (S lo hi p n)
      outside t = rw t (ap (round binary64 false (S lo hi p n)) (same (W lo hi n) (S lo hi p n) (subst (λ (s : ℕ). 0 < s) (computed_exact n lo hi p R h) (some_out n lo hi p R t))))

-- ---- sums over m channels of n, which are all that a tree of d channels has
module _ (d n : ℕ) (lo hi p : List Float) (Z : Padded lo hi p d n) (R : Readings lo hi p n) (m : ℕ) (h : d ≤ m) (k : m ≤ n) where
  pub few_small : m ≤ 8 → S lo hi p n ≤ 2 ^ 24
  few_small l = rw (outside_pad d n lo hi p Z m h k) at (S-small m lo hi p (fewer m n lo hi p k R) l)

  -- and of more channels they are the same
  module _ (s t : ℕ) (e : s ≡ S lo hi p m) (f : t ≡ W lo hi m + S lo hi p m) where
    pub told_part : s ≡ S lo hi p n
    told_part = e ∙ outside_pad d n lo hi p Z m h k

    pub told_all : t ≡ W lo hi n + S lo hi p n
    told_all = f ∙ ap₂ (λ (w s : ℕ). w + s) (sides_pad d n lo hi p Z m h k) (outside_pad d n lo hi p Z m h k)
