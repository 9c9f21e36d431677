-- `outside_sum` meets its contract: after i turns the sum is that of the first i channels. Assumes nothing.
use Rattle.std.proofs.Common.{refl, add-one}
use lib.Ieee.{of_bits}
use Rattle.boundingbox.specs.Sides.{total}
use Rattle.cut.specs.Draw.{outside_sum}
use Rattle.cut.proofs.outside_sum.Goals as goal

pub loop-i-init : goal.loop-i-init
unfolding outside_sum total of_bits
loop-i-init c = refl

pub loop-i-preserved : goal.loop-i-preserved
unfolding outside_sum total
loop-i-preserved c = rw (add-one, c.outside_of-sum.ensures, c.loop-i.invariant)
