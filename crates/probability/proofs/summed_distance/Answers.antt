-- `summed_distance` meets its contract: after i turns the two sums are those of the first i channels. Assumes nothing.
use native.Mathlib.Omega.{arith}
use native.Mathlib.Numerals.{add-one}
use mathlib.Core.Path.{◌≡◌, refl}
use lib.Ieee.{of_bits}
use Rattle.limits.specs.Limits.{width}
use Rattle.probability.specs.Probability.{total32}
use Rattle.probability.proofs.summed_distance.Goals as goal

pub loop-i-init : goal.loop-i-init
unfolding total32 of_bits
loop-i-init c = (refl, refl)

pub loop-i-preserved : goal.loop-i-preserved
unfolding total32
loop-i-preserved c = let h = c.loop-i.invariant in
    (rw (add-one, c.past_by-minsum.ensures, h.0), rw (add-one, c.past_by-maxsum.ensures, h.1))

pub returns : goal.returns
returns c = let e : c.loop-i.i ≡ width = omega arith in
    rw (c.loop-i.invariant.0, c.loop-i.invariant.1, e)
