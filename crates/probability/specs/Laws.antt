-- What holds of the chance on coordinates, at every number of channels up to 32, as `few` of `Box` in `Readings` asks: the statements. Each is proved in proofs/, in the file that its comment names.
use Rattle.std.specs.Prelude.{◌≡◌, List, ℕ, ◌+◌, ◌-◌, ◌^◌, ◌≤◌, ◌<◌, true, false, cond, Float}
use Rattle.std.specs.Float.{binary64}
use Rattle.std.specs.Float.Ieee.{round, add, lt, le, to_unsigned}
use Rattle.std.specs.Float.Ieee.Exact.{HasValue}
use Rattle.readings.specs.Coordinate.{rank}
use Rattle.readings.specs.Number.{nought}
use Rattle.boundingbox.specs.Ends.{channel}
use Rattle.boundingbox.specs.Sides.{range_sum}
use Rattle.boundingbox.specs.Contained.{contains}
use Rattle.boundingbox.specs.Wholes.{side, sum_to}
use Rattle.cut.specs.Sums.{one}
use Rattle.cut.specs.Laws.{Readings, Padded}
use Rattle.probability.specs.Probability.{outside, probability}

-- how far x lies outside the side from a to b: above it or below it
abbrev pub distance : ℕ → ℕ → ℕ → ℕ
distance a b x = x - b + (a - x)

-- the same in channel i of a box and a query
abbrev pub distance_at : List Float → List Float → List Float → ℕ → ℕ
distance_at lo hi p i = distance (rank (channel lo i)) (rank (channel hi i)) (rank (channel p i))

-- Document 01, 'Walk report': 'S the summed distance outside the box and W the summed sides'. S is request A.7's 'whole-number sum'.
abbrev pub S : List Float → List Float → List Float → ℕ → ℕ
S lo hi p n = sum_to (distance_at lo hi p) n

abbrev pub W : List Float → List Float → ℕ → ℕ
W lo hi n = sum_to (side (channel lo) (channel hi)) n

-- Request A.7: 'the computed sum', `outside`, as the whole number that it is (`computed` of `NearSums`)
abbrev pub computed_sum : List Float → List Float → List Float → ℕ → ℕ
computed_sum lo hi p n = to_unsigned 64 (outside lo hi p n)

-- Request A.7: 'The distance between the computed sum and the whole-number sum is at most 126, and it is 0 up to 8 channels' (Computed.antt).
pub record NearSums (lo hi p : List Float) (n : ℕ) : Type 0 where
  pub computed : HasValue (outside lo hi p n) false (computed_sum lo hi p n) 1
  pub over : computed_sum lo hi p n ≤ S lo hi p n + 126
  pub under : S lo hi p n ≤ computed_sum lo hi p n + 126
  pub few : n ≤ 8 → computed_sum lo hi p n ≡ S lo hi p n
  -- and it is 0 wherever the whole-number sum does not pass 2^24, up to which every whole number is an f32
  pub small : S lo hi p n ≤ 2 ^ 24 → computed_sum lo hi p n ≡ S lo hi p n
  -- the f64 sum of the sides is exact, and so is that of the sides and the computed sum, which divides
  pub sides : HasValue (range_sum lo hi n) false (W lo hi n) 1
  pub all : HasValue (add binary64 (range_sum lo hi n) (outside lo hi p n)) false (W lo hi n + computed_sum lo hi p n) 1

abbrev pub SumsNear : Type 0
SumsNear = (n : ℕ) (lo hi p : List Float) → Readings lo hi p n → NearSums lo hi p n

-- Document 01: '0 if the query is inside; otherwise S / (W + S) in one rounded division', with s in the place of S
abbrev pub quotient : List Float → List Float → List Float → ℕ → ℕ → Float
quotient lo hi p n s = cond (contains lo hi p p n) nought (round binary64 false s (W lo hi n + s))

-- Request A.7: 'The probability is the single rounded division of the computed sum by the f64 sum of it and the box's sides', both of which are exact by `NearSums` (Quotient.antt).
abbrev pub OneDivision : Type 0
OneDivision = (n : ℕ) (lo hi p : List Float) → Readings lo hi p n → probability lo hi p n ≡ quotient lo hi p n (computed_sum lo hi p n)

-- Up to 8 channels it is document 01's (Quotient.antt).
abbrev pub AsDocument : Type 0
AsDocument = (n : ℕ) (lo hi p : List Float) → n ≤ 8 → Readings lo hi p n → probability lo hi p n ≡ quotient lo hi p n (S lo hi p n)

-- It lies in 0 to 1 (Quotient.antt).
abbrev pub InRange : Type 0
InRange = (n : ℕ) (lo hi p : List Float) → Readings lo hi p n → (le nought (probability lo hi p n) ≡ true) × (le (probability lo hi p n) one ≡ true)

-- The computed sum and the chance are 0 where the box holds the query, and above 0 where not (Quotient.antt).
abbrev pub ZeroInside : Type 0
ZeroInside = (n : ℕ) (lo hi p : List Float) → Readings lo hi p n
    → (contains lo hi p p n ≡ true → (computed_sum lo hi p n ≡ 0) × (probability lo hi p n ≡ nought)) × (contains lo hi p p n ≡ false → (0 < computed_sum lo hi p n) × (lt nought (probability lo hi p n) ≡ true))

-- So a query outside in one channel never gets 0, however the sum is rounded (Quotient.antt).
abbrev pub NeverZeroOutside : Type 0
NeverZeroOutside = (n : ℕ) (lo hi p : List Float) (i : ℕ) → Readings lo hi p n → i < n → 0 < distance_at lo hi p i → (0 < computed_sum lo hi p n) × (lt nought (probability lo hi p n) ≡ true)

-- Rows hold more channels than a tree may have: those from d on are +0.0 in box and query, and change no chance (Padding.antt).
abbrev pub PaddingAddsNothing : Type 0
PaddingAddsNothing = (d n : ℕ) (lo hi p : List Float) → Padded lo hi p d n → Readings lo hi p n → probability lo hi p n ≡ probability lo hi p d
