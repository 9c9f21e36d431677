-- The fill of a sample is its size over its capacity, rounded once, full or not. Assumes nothing.
use mathlib.Core.Path.{◌≡◌, refl, sym, ◌∙◌}
use Prim.Native.Nat.{ℕ, ◌^◌, ◌≤◌, ◌<◌}
use native.Mathlib.Nat.{le_refl, le_trans, le_of_lt, one-mul, mul-one, zero-lt-suc}
use mathlib.Core.Bool.{Bool, true, false, cond}
use lib.IntN.{pos}
use lib.Dec.{eqb, leb→le}
use lib.Pow.{pow_mono}
use lib.Ieee.{binary64, round, div, of_int}
use lib.Ieee.Exact.{HasValue}
use lib.Ieee.Scale.{round_same}
use borrow.Author.Tests.{eqb-true}
use Rattle.readings.proofs.Wholes.{of_int_value, div_whole}
use Rattle.startingchance.specs.Chance.{one, fill_fraction}

pub fill_is : (n c : ℕ) → n ≤ c → 0 < c → c < 2 ^ 16 → fill_fraction n c ≡ round binary64 false n c
unfolding fill_fraction
fill_is n c h C L = go (eqb n c) (eqb-true n c)
  where
    full : n ≡ c → one ≡ round binary64 false n c
    full e = let is : one ≡ round binary64 false 1 1 = unfold round in refl in is ∙ round_same binary64 false 1 1 n c (zero-lt-suc 0) C (one-mul c ∙ sym e ∙ sym (mul-one n))

    whole : (k : ℕ) → k ≤ c → HasValue (of_int binary64 (pos k)) false k 1
    whole k h = of_int_value binary64 k (le_trans h (le_trans (le_of_lt L) (pow_mono (leb→le 16 53 tt))))

    go : (b : Bool) → (b ≡ true → n ≡ c) → cond b one (div binary64 (of_int binary64 (pos n)) (of_int binary64 (pos c))) ≡ round binary64 false n c
    go true k = full (k refl)
    go false k = div_whole binary64 (of_int binary64 (pos n)) (of_int binary64 (pos c)) n c C (whole n h) (whole c (le_refl c))
