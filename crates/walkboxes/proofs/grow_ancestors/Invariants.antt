use Prim.Native.Nat.{◌≤◌}
use Rattle.boxstore.proofs.Climbs.{Climbed}
use Rattle.rowboxes.specs.Rows.{PaddedBoxes}
use Rattle.walkboxes.proofs.grow_ancestors.Given as goal

abbrev pub invariant-loop-row : goal.invariant-loop-row
invariant-loop-row l = (l.row ≤ l.n) × Climbed l.cached l.n l.path l.point l.initial.boxes l.boxes l.row × PaddedBoxes l.channels l.boxes
