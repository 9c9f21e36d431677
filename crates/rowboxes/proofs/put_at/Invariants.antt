-- After j turns the first j of the block are written.
use Rattle.rowboxes.specs.Rows.{PutTo}
use Rattle.rowboxes.proofs.put_at.Given as goal

abbrev pub invariant-loop-j : goal.invariant-loop-j
invariant-loop-j l = PutTo l.j l.at l.block l.initial.row l.row
