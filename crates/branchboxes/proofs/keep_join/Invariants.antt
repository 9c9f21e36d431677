-- After k turns the first k blocks of the slot are written.
use Prim.Native.Nat.{◌*◌}
use Rattle.rowboxes.specs.Rows.{lanes}
use Rattle.branchboxes.proofs.Slots.{FilledSlot, Low, High}
use Rattle.branchboxes.proofs.keep_join.Given as goal

abbrev pub invariant-loop-k : goal.invariant-loop-k
invariant-loop-k l = let c = l.sizes.capacity in
    FilledSlot (Low c l.a l.b l.points l.initial.boxes) (High c l.a l.b l.points l.initial.boxes) (l.k * lanes) l.index l.initial.boxes l.boxes
