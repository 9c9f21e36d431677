use Rattle.recorded.proofs.Choices.{RowRead}
use Rattle.recorded.proofs.cuts.row_at.Given as goal

abbrev pub invariant-loop-i : goal.invariant-loop-i
invariant-loop-i l = RowRead l.bytes l.at l.row l.i
