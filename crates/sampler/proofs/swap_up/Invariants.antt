use mathlib.Core.List.{List}
use Prim.Native.Nat.{ℕ, ◌+◌, ◌≤◌}
use lib.Ieee.{Float}
use Rattle.sampler.specs.Heap.{parent, rises, raised}
use Rattle.sampler.specs.Sample.{Entry, above, beyond, Slots}
use Rattle.sampler.proofs.Ways.{OnWay}
use Rattle.sampler.proofs.swap_up.Given as goal

abbrev pub invariant-loop-current : goal.invariant-loop-current
invariant-loop-current l = (l.current ≤ l.start_index) ×
    ((ks : List Entry) (ws : List Float) (ps : List ℕ) → Slots (l.start_index + 1) ks ws ps l.initial.sample.weights l.initial.sample.held
    → OnWay (rises above beyond) (λ _. parent) (λ i. i) (l.start_index + 1) (raised above beyond ks l.start_index) ws ps l.sample.weights l.sample.held l.current)

abbrev pub decreases-loop-current : goal.decreases-loop-current
decreases-loop-current l = l.current
