use mathlib.Core.Path.{◌≡◌}
use Prim.Native.Nat.{◌-◌, ◌≤◌}
use Rattle.runlayout.specs.Layout.{size, making_width, channels, capacity, rest_from}
use Rattle.runlayout.specs.Check.{verdict}
use Rattle.runlayout.proofs.check_calls.Given as goal

abbrev pub invariant-loop-p : goal.invariant-loop-p
invariant-loop-p l = (l.p ≤ size l.run) × (verdict (channels l.run) (capacity l.run) l.lent l.used (rest_from l.run (channels l.run) l.p) ≡ verdict (channels l.run) (capacity l.run) l.lent 1 (rest_from l.run (channels l.run) (making_width l.run)))

abbrev pub decreases-loop-p : goal.decreases-loop-p
decreases-loop-p l = size l.run - l.p
