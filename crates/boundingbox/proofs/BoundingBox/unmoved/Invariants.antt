use mathlib.Core.Path.{◌≡◌}
use Rattle.boundingbox.specs.Contained.{contains}
use Rattle.boundingbox.proofs.BoundingBox.unmoved.Given as goal

abbrev pub invariant-loop-i : goal.invariant-loop-i
invariant-loop-i l = l.held ≡ contains l.lower l.upper l.minvalues l.maxvalues l.i
