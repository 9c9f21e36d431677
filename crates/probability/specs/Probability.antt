-- The chance that a cut parts a point from a box, in the floats' own operations, each of which rounds once: `probability_of_cut` of boundingbox.rs, for every float. Definitions.
use Rattle.std.specs.Prelude.{cond, List, ℕ, zero, suc, Float}
use Rattle.std.specs.Float.{binary32, binary64}
use Rattle.std.specs.Float.Ieee.{add, sub, div, lt, eq}
use Rattle.readings.specs.Number.{nought}
use Rattle.boundingbox.specs.Ends.{channel}
use Rattle.boundingbox.specs.Sides.{range_sum}
use Rattle.cut.specs.Sums.{one}

-- `if x - y > 0.0 { x - y } else { 0.0 }`, in f32
unfoldable pub past_by : Float → Float → Float
past_by x y = cond (lt nought (sub binary32 x y)) (sub binary32 x y) nought

-- the f32 sum of g 0 to g (n - 1), added up in channel order from +0.0, as Rust's `sum` adds
unfoldable pub total32 : (ℕ → Float) → ℕ → Float
total32 g zero = nought
total32 g (suc n) = add binary32 (total32 g n) (g n)

-- how far the first n channels of xs lie past those of ys: `minsum` of the lower ends and the point, `maxsum` of the point and the upper ends
abbrev pub past_sum : List Float → List Float → ℕ → Float
past_sum xs ys n = total32 (λ i. past_by (channel xs i) (channel ys i)) n

-- `let sum = maxsum + minsum`, in f32. Request A.7: 'the order of additions is the Rust's'
abbrev pub outside : List Float → List Float → List Float → ℕ → Float
outside lo hi p n = add binary32 (past_sum p hi n) (past_sum lo p n)

-- 0.0 where `sum == 0.0`, else 1.0 where `self.range_sum == 0.0`, else `(sum as f64) / (self.range_sum + sum as f64)`: the cast keeps the sum
unfoldable pub part_of : Float → Float → Float
part_of s w = cond (eq s nought) nought (cond (eq w nought) one (div binary64 s (add binary64 w s)))

-- the chance, of the box from lo to hi and the point p, over n channels
unfoldable pub probability : List Float → List Float → List Float → ℕ → Float
probability lo hi p n = part_of (outside lo hi p n) (range_sum lo hi n)
