-- `keep_join` meets its contract: each turn sets a block of both rows of the slot. Assumes nothing.
use borrow.Author.Rules.{rules}
use native.Mathlib.Omega.{arith}
use mathlib.Core.Path.{◌≡◌, ap₂, ◌∙◌}
use mathlib.Core.List.{List}
use Prim.Native.Nat.{ℕ, ◌+◌, ◌*◌}
use lib.Ieee.{Float}
use Rattle.boundingbox.specs.Ends.{channel, least, greatest}
use Rattle.rowboxes.specs.Rows.{lanes}
use Rattle.branchboxes.proofs.Slots.{slot_none, slot_turn, slot_met, low_read, high_read}
use Rattle.branchboxes.proofs.keep_join.Goals as goal

pub loop-k-init : goal.loop-k-init
loop-k-init c = slot_none _ _ _ _ _ c.requires.hand.0 c.requires.padded.1

pub loop-k-preserved : goal.loop-k-preserved
loop-k-preserved c =
    let A = c.args in
    let n = A.sizes.now.capacity in
    let F = c.loop-k.invariant in
    let low = c.block_of-low.ensures in
    let high = c.block_of-high.ensures in
    let at : ℕ = c.loop-k.k * lanes in
    rw (turned c.loop-k.k) (slot_turn _ _ at A.index _ c.loop-k.boxes _ _ _ c.requires.hand.0 F (record {
      long = low.long;
      each = λ j h.
          let r : channel c.block_of-low.result j ≡ least (channel c.end_of-low_a.result.now (at + j)) (channel c.end_of-low_b.result.now (at + j)) = let r = low.each j h in search rules in
          r ∙ ap₂ (λ (x y : List Float). least (channel x (at + j)) (channel y (at + j))) c.end_of-low_a.ensures c.end_of-low_b.ensures
          ∙ ap₂ least (low_read F n A.a A.points.now (at + j) (omega arith)) (low_read F n A.b A.points.now (at + j) (omega arith));
    }) (record {
      long = high.long;
      each = λ j h.
          let r : channel c.block_of-high.result j ≡ greatest (channel c.end_of-high_a.result.now (at + j)) (channel c.end_of-high_b.result.now (at + j)) = let r = high.each j h in search rules in
          r ∙ ap₂ (λ (x y : List Float). greatest (channel x (at + j)) (channel y (at + j))) c.end_of-high_a.ensures c.end_of-high_b.ensures
          ∙ ap₂ greatest (high_read F n A.a A.points.now (at + j) (omega arith)) (high_read F n A.b A.points.now (at + j) (omega arith));
    }) c.put_ends.ensures)
  where
    turned : (k : ℕ) → (k + 1) * lanes ≡ k * lanes + lanes
    turned k = omega arith

pub returns : goal.returns
returns c = let A = c.args in
    let P = c.requires.padded in
    let h = c.requires.hand in
    let m = slot_met A.sizes.now.capacity A.a A.b A.points.now A.boxes.now A.sizes.now.cached A.sizes.now.channels A.index (c.loop-k.k * lanes) c.loop-k.boxes A.sizes.now.few.1 P.0 P.1 h.1 h.2 h.0 (omega arith) c.loop-k.invariant in
    record { kept = m.0; padded = m.1 }
