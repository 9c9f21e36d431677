-- After k turns the first k blocks of both rows are set.
use Prim.Native.Nat.{◌*◌}
use Rattle.rowboxes.specs.Rows.{lanes, FilledEnds}
use Rattle.rowboxes.proofs.set_ends.Given as goal

abbrev pub invariant-loop-k : goal.invariant-loop-k
invariant-loop-k g l = FilledEnds (goal.F-post g l.low) (goal.G-post g l.high) (l.k * lanes) l.initial.ends l.ends
