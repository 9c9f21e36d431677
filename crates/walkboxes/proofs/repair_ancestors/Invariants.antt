use Prim.Native.Nat.{◌≤◌}
use Rattle.boxstore.proofs.Repairs.{Repaired}
use Rattle.rowboxes.specs.Rows.{PaddedBoxes}
use Rattle.walkboxes.proofs.repair_ancestors.Given as goal

abbrev pub invariant-loop-row : goal.invariant-loop-row
invariant-loop-row l = (l.row ≤ l.n) × Repaired l.sizes.capacity l.sizes.cached l.n l.sizes.channels l.path l.point l.nodes l.points l.initial.boxes l.boxes l.row × PaddedBoxes l.sizes.channels l.boxes
