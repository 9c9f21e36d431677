-- `past_by` meets its contract: each branch is what its test selects. Assumes nothing.
use lib.Ieee.{of_bits}
use Rattle.probability.specs.Probability.{past_by}
use Rattle.probability.proofs.past_by.Goals as goal

pub returns-then-x-y : goal.returns-then-x-y
unfolding past_by of_bits
returns-then-x-y c = rw c.if-x-y.true

pub returns-else-x-y : goal.returns-else-x-y
unfolding past_by of_bits
returns-else-x-y c = rw c.if-x-y.false
