use mathlib.Core.Path.{◌≡◌}
use Rattle.boundingbox.specs.Sides.{range_sum}
use Rattle.boundingbox.proofs.BoundingBox.get_range_sum.Given as goal

abbrev pub invariant-loop-i : goal.invariant-loop-i
invariant-loop-i l = l.sum ≡ range_sum l.lower l.upper l.i
