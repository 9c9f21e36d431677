use mathlib.Core.Path.{◌≡◌}
use Prim.Native.Nat.{ℕ, ◌+◌, ◌*◌, ◌≤◌}
use lib.Ieee.{Float}
use lib.ListN.{length}
use Rattle.wholetree.specs.Whole.{whole}
use Rattle.sampledtree.specs.Sampled.{Sampled}
use Rattle.samplerplustree.specs.State.{SampledState}
use Rattle.regrow.proofs.Growing.{Grown}
use Rattle.regrow.proofs.grow.Given as goal

abbrev pub invariant-loop-turn : goal.invariant-loop-turn
invariant-loop-turn g l = (l.from ≤ l.to) × (l.to ≤ length l.text) × (length l.text ≡ length l.initial.text) × (length l.out ≡ length l.initial.out) × (l.number ≤ 1 + 65536 * l.turn)
    × ((d : ℕ) (s : Float) (X : Sampled (whole d)) → SampledState d s X l.initial.current l.initial.store l.initial.table.points l.initial.table.written l.initial.sample.weights l.initial.sample.held
    → Grown d s X l.number l.current l.store l.table.points l.table.written l.sample.weights l.sample.held)
