-- `place` meets its contract: each way out is what its tests select. Assumes nothing.
use Rattle.cut.specs.Draw.{placed, moved}
use Rattle.cut.proofs.place.Goals as goal

pub returns-then-cut-high : goal.returns-then-cut-high
unfolding placed moved
returns-then-cut-high c = rw (← c.narrow.ensures, c.if-low-cut.true, c.if-cut-high.true)

pub returns-else-cut-high : goal.returns-else-cut-high
unfolding placed moved
returns-else-cut-high c = rw (← c.narrow.ensures, c.if-low-cut.true, c.if-cut-high.false)

pub returns-else-low-cut : goal.returns-else-low-cut
unfolding placed moved
returns-else-low-cut c = rw (← c.narrow.ensures, c.if-low-cut.false)
