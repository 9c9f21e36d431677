-- After j turns the first j of the block are written.
use Rattle.rowboxes.specs.Rows.{BlockTo}
use Rattle.rowboxes.proofs.block_of.Given as goal

abbrev pub invariant-loop-j : goal.invariant-loop-j
invariant-loop-j g l = BlockTo l.j (goal.F-post g l.of) l.at l.block
