use Rattle.std.proofs.Common.{◌≡◌}
use Rattle.cut.specs.Draw.{outside_sum}
use Rattle.cut.proofs.outside_sum.Given as goal

abbrev pub invariant-loop-i : goal.invariant-loop-i
invariant-loop-i l = l.sum ≡ outside_sum l.low l.high l.point l.i
