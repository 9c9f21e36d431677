-- `part_of` meets its contract: both numbers are values of f64, so that one division rounds once. Assumes nothing.
use native.Mathlib.Omega.{arith}
use lib.Ieee.{binary64}
use Rattle.readings.proofs.Wholes.{of_int_value, div_whole}
use Rattle.probability.proofs.part_of.Goals as goal

pub returns : goal.returns
returns c = let p = c.requires in
    let e = c.at_least_one.ensures in
    rw e (div_whole binary64 _ _ _ _ (omega arith) (of_int_value binary64 _ (omega (arith, p.0, p.1))) (of_int_value binary64 _ (omega (arith, p.1))))
