use mathlib.Core.Path.{◌≡◌}
use Prim.Native.Nat.{min}
use Rattle.boundingbox.specs.Contained.{strictly_contains}
use Rattle.boundingbox.proofs.BoundingBox.strictly_contains.Given as goal

abbrev pub invariant-loop-i : goal.invariant-loop-i
invariant-loop-i l = l.held ≡ strictly_contains l.lower l.upper l.point (min l.dimensions l.i)
