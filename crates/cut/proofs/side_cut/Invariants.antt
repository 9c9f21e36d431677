use Rattle.std.proofs.Common.{◌≡◌, ◌-◌}
use Rattle.limits.specs.Limits.{width}
use Rattle.cut.specs.Draw.{side_of, side_from}
use Rattle.cut.proofs.side_cut.Given as goal

abbrev pub invariant-loop-i : goal.invariant-loop-i
invariant-loop-i l = side_from (side_of l.low l.high l.point) (width - l.i) l.i l.rest ≡ side_from (side_of l.low l.high l.point) width 0 l.range
