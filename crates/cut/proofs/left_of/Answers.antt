-- `left_of` meets its contract: each branch is what its test selects. Assumes nothing.
use Rattle.cut.specs.Draw.{left_of}
use lib.Ieee.{of_bits}
use Rattle.cut.proofs.left_of.Goals as goal

pub returns-then-side : goal.returns-then-side
unfolding left_of of_bits
returns-then-side c = rw c.if-side.true

pub returns-else-side : goal.returns-else-side
unfolding left_of of_bits
returns-else-side c = rw c.if-side.false
