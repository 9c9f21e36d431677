use mathlib.Core.List.{List}
use Prim.Native.Nat.{ℕ, ◌-◌, ◌≤◌}
use lib.Ieee.{Float}
use Rattle.limits.specs.Limits.{capacity_limit}
use Rattle.sampler.specs.Heap.{heavier, sinks, sunk}
use Rattle.sampler.specs.Sample.{Entry, above, beyond, Slots}
use Rattle.sampler.proofs.Ways.{OnWay}
use Rattle.sampler.proofs.Sampler.swap_down.Given as goal

abbrev pub invariant-loop-current : goal.invariant-loop-current
invariant-loop-current l = (l.current ≤ capacity_limit) ×
    ((ks : List Entry) (ws : List Float) (ps : List ℕ) → Slots l.size ks ws ps l.initial.sample.weights l.initial.sample.held
    → OnWay (sinks above beyond) (heavier above beyond) (λ i. l.size - i) l.size (sunk above beyond ks l.start_index) ws ps l.sample.weights l.sample.held l.current)

abbrev pub decreases-loop-current : goal.decreases-loop-current
decreases-loop-current l = l.size - l.current
