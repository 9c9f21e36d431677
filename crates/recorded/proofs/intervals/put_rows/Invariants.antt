use Rattle.recorded.proofs.Rows.{Rowed}
use Rattle.recorded.proofs.intervals.put_rows.Given as goal

abbrev pub invariant-loop-row : goal.invariant-loop-row
invariant-loop-row l = Rowed l.rows l.initial.out l.out l.at l.p l.row-index
