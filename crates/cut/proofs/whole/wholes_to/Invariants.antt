use Rattle.std.proofs.Common.{◌≡◌, length}
use Rattle.limits.specs.Limits.{width}
use Rattle.cut.specs.Sums.{grown, FirstSides}
use Rattle.cut.proofs.whole.wholes_to.Given as goal

abbrev pub invariant-loop-i : goal.invariant-loop-i
invariant-loop-i l = (length l.sides ≡ width) × FirstSides (grown l.low l.high l.point) l.i l.sides
