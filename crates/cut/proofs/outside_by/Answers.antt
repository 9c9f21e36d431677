-- `outside_by` meets its contract: each branch is what its test selects. Assumes nothing.
use Rattle.boundingbox.specs.Sides.{gap_of}
use Rattle.cut.specs.Draw.{outside_of}
use Rattle.cut.proofs.outside_by.Goals as goal

pub returns-then-x-low : goal.returns-then-x-low
unfolding outside_of gap_of
returns-then-x-low c = rw c.if-x-low.true

pub returns-else-x-low : goal.returns-else-x-low
unfolding outside_of
returns-else-x-low c = rw c.if-x-low.false c.rise-above.ensures
