-- The sides of a box as floats, and their sum. Definitions.
use Rattle.std.specs.Prelude.{ℕ, zero, suc, cond, List, Float}
use Rattle.std.specs.Float.{binary32, binary64}
use Rattle.std.specs.Float.Ieee.{add, sub, lt}
use Rattle.boundingbox.specs.Ends.{channel}
use Rattle.readings.specs.Number.{nought}

-- How far b lies above a, and 0 where it does not: boundingbox.rs's `(y - x) as f64` where x is below y, the f32 difference, which the cast keeps.
unfoldable pub gap_of : Float → Float → Float
gap_of a b = cond (lt a b) (sub binary32 b a) nought

-- the f64 sum of g 0 to g (n - 1), added up in channel order from +0.0, as Rust's `sum` adds
unfoldable pub total : (ℕ → Float) → ℕ → Float
total g zero = nought
total g (suc n) = add binary64 (total g n) (g n)

-- boundingbox.rs, `range_sum`: the sum of the sides of the first n channels of the box from lo to hi
abbrev pub range_sum : List Float → List Float → ℕ → Float
range_sum lo hi n = total (λ i. gap_of (channel lo i) (channel hi i)) n
