use mathlib.Core.Path.{◌≡◌}
use mathlib.Core.List.{List}
use Prim.Native.Nat.{ℕ, ◌-◌, ◌≤◌}
use lib.ListN.{length}
use Rattle.runlayout.specs.Layout.{size, number, making_width}
use Rattle.runsteps.specs.Standing.{kept}
use Rattle.run.specs.Running.{Running}
use Rattle.run.proofs.run_calls.Given as goal

abbrev pub invariant-loop-p : goal.invariant-loop-p
invariant-loop-p l = (l.p ≤ size l.run) × (length l.answers ≡ length l.initial.answers) × (l.kind ≡ number l.run l.p)
    × ((final : List ℕ) (count : ℕ) → Running l.run (making_width l.run) 1 l.initial.current (kept l.initial.store l.initial.table.points l.initial.table.written l.initial.sample.weights l.initial.sample.held) l.initial.answers final count → Running l.run l.p l.out l.current (kept l.store l.table.points l.table.written l.sample.weights l.sample.held) l.answers final count)

abbrev pub decreases-loop-p : goal.decreases-loop-p
decreases-loop-p l = size l.run - l.p
