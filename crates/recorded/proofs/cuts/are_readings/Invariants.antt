use mathlib.Core.Path.{◌≡◌}
use Rattle.recorded.specs.Cuts.{are_readings}
use Rattle.recorded.proofs.cuts.are_readings.Given as goal

abbrev pub invariant-loop-i : goal.invariant-loop-i
invariant-loop-i l = l.all ≡ are_readings l.low l.high l.point l.i
