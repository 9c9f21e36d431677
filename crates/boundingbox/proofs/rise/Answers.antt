-- `boundingbox::rise` meets its contract: each branch is what its test selects. Assumes nothing.
use lib.Ieee.{of_bits}
use Rattle.boundingbox.specs.Sides.{gap_of}
use Rattle.boundingbox.proofs.rise.Goals as goal

pub returns-then-a-b : goal.returns-then-a-b
unfolding gap_of
returns-then-a-b c = rw c.if-a-b.true

pub returns-else-a-b : goal.returns-else-a-b
unfolding gap_of of_bits
returns-else-a-b c = rw c.if-a-b.false
