use Prim.Native.Nat.{◌-◌}
use Rattle.limits.specs.Limits.{width}
use Rattle.pointstore.specs.Puts.{or_nought}
use Rattle.pointstore.proofs.Rows.{Filled}
use Rattle.pointstore.proofs.row_of.Given as goal

abbrev pub invariant-loop-i : goal.invariant-loop-i
invariant-loop-i l = Filled (or_nought l.coordinates) width l.i l.row

abbrev pub decreases-loop-i : goal.decreases-loop-i
decreases-loop-i l = width - l.i
