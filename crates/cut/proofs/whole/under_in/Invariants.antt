use Rattle.cut.specs.Sums.{side_in}
use Rattle.cut.proofs.Sums.{Passed}
use Rattle.cut.proofs.whole.under_in.Given as goal

abbrev pub invariant-loop-i : goal.invariant-loop-i
invariant-loop-i l = Passed (side_in l.sides) l.at l.bound l.i l.sum l.before l.count
