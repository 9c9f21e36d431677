-- `put_rows` meets its contract: after k turns the first k rows stand. Assumes nothing.
use Rattle.lines.proofs.Writes.{long}
use Rattle.recorded.proofs.Rows.{rowed_none, rowed_next, rowed_all}
use Rattle.recorded.proofs.intervals.put_rows.Goals as goal

pub loop-row-init : goal.loop-row-init
loop-row-init c = rowed_none _ _ _

pub loop-row-preserved : goal.loop-row-preserved
loop-row-preserved c = rowed_next c.loop-row.invariant c.loop-row-test.true c.put_pair-p.ensures.wrote c.put_pair-p.ensures.next

pub shape_of-out : goal.shape_of-out
shape_of-out c = long c.loop-row.invariant.wrote

pub returns : goal.returns
returns c = let it = rowed_all c.loop-row.invariant c.loop-row-test.false in record { wrote = it.0; next = it.1 }
