-- `side_reaches` meets its contract: each branch is what its test selects. Assumes nothing.
use Rattle.cut.specs.Draw.{reaches}
use lib.Ieee.{of_bits}
use Rattle.cut.proofs.side_reaches.Goals as goal

pub returns-then-side : goal.returns-then-side
unfolding reaches of_bits
returns-then-side c = rw c.if-side.true

pub returns-else-side : goal.returns-else-side
unfolding reaches of_bits
returns-else-side c = rw c.if-side.false
