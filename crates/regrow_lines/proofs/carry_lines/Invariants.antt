use mathlib.Core.Path.{◌≡◌}
use Prim.Native.Nat.{ℕ, ◌+◌, ◌-◌, ◌≤◌}
use lib.Ieee.{Float}
use lib.ListN.{length}
use Rattle.wholetree.specs.Whole.{whole}
use Rattle.sampledtree.specs.Sampled.{Sampled}
use Rattle.samplerplustree.specs.State.{SampledState}
use Rattle.regrow_lines.proofs.Turns.{Carrying}
use Rattle.regrow_lines.proofs.carry_lines.Given as goal

abbrev pub invariant-loop-out : goal.invariant-loop-out
invariant-loop-out l = (l.at ≤ length l.text) × (l.next ≤ l.number + l.at) × (l.end ≤ length l.initial.out) × (length l.out ≡ length l.initial.out)
    × ((d : ℕ) (s : Float) (X : Sampled (whole d)) → SampledState d s X l.initial.current l.initial.store l.initial.table.points l.initial.table.written l.initial.sample.weights l.initial.sample.held
    → Carrying d s X l.text l.number l.initial.rows l.initial.out l.current l.store l.table.points l.table.written l.sample.weights l.sample.held l.rows l.out l.at l.next l.end)

abbrev pub decreases-loop-out : goal.decreases-loop-out
decreases-loop-out l = length l.text - l.at
