-- `BoundingBox::get_range_sum` meets its contract: the sum so far is that of the sides passed. Assumes nothing.
use native.Mathlib.Numerals.{add-one}
use mathlib.Core.Path.{refl}
use lib.Ieee.{of_bits}
use Rattle.boundingbox.specs.Sides.{total}
use Rattle.boundingbox.proofs.BoundingBox.get_range_sum.Goals as goal

pub loop-i-init : goal.loop-i-init
unfolding total of_bits
loop-i-init c = refl

pub loop-i-preserved : goal.loop-i-preserved
unfolding total
loop-i-preserved c = rw (add-one, c.gap-sum.ensures, c.loop-i.invariant)
