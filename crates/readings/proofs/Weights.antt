-- Weights are numbers: `Ordered` has their order, and that one is known by its key. Assumes nothing.
use Rattle.std.proofs.Common.{not, ◌&&◌, T, eqb}
use lib.Ieee.{Float, nan, inf, fin, binary32, fits}
use lib.Ieee.Fits.{and_i}
use Rattle.readings.specs.Number.{is_number}
use Rattle.readings.specs.Weight.{is_weight}

-- an f32 that is a weight
pub weight_number : (x : Float) → T (fits binary32 x) → T (is_weight x) → T (is_number x)
unfolding is_weight is_number
weight_number nan f t = absurd t
weight_number (inf s) f t = absurd t
weight_number (fin s m e) f t = and_i (fits binary32 (fin s m e)) (not (s && eqb m 0)) f t
