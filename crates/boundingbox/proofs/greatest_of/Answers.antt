-- `boundingbox::greatest_of` meets its contract: each branch is what its test selects. Assumes nothing.
use Rattle.boundingbox.specs.Ends.{greatest}
use Rattle.boundingbox.proofs.greatest_of.Goals as goal

pub returns-then-x-y : goal.returns-then-x-y
unfolding greatest
returns-then-x-y c = rw c.if-x-y.true

pub returns-else-x-y : goal.returns-else-x-y
unfolding greatest
returns-else-x-y c = rw c.if-x-y.false
