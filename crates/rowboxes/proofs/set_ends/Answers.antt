-- `set_ends` meets its contract: each turn sets a block of both rows. Assumes nothing.
use borrow.Author.Rules.{rules}
use native.Mathlib.Omega.{arith}
use mathlib.Core.Path.{◌≡◌}
use Prim.Native.Nat.{ℕ, ◌+◌, ◌*◌}
use Rattle.rowboxes.specs.Rows.{lanes}
use Rattle.rowboxes.proofs.Rows.{ends_turn}
use Rattle.rowboxes.proofs.set_ends.Goals as goal

pub loop-k-preserved : goal.loop-k-preserved
loop-k-preserved g c =
    let low = c.block_of-lower.ensures in
    let high = c.block_of-upper.ensures in
    rw (turned c.loop-k.k) (ends_turn _ _ _ _ _ _ _ _ c.loop-k.invariant (record { long = low.long; each = λ j h. let r = low.each j h in search rules }) (record { long = high.long; each = λ j h. let r = high.each j h in search rules }) c.put_ends.ensures)
  where
    turned : (k : ℕ) → (k + 1) * lanes ≡ k * lanes + lanes
    turned k = omega arith
