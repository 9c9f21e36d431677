use Rattle.rowboxes.specs.Rows.{PaddedEnds, box_of}
use Rattle.nodeview.proofs.Going.{Going}
use Rattle.nodeview.proofs.write_rows.Given as goal

abbrev pub invariant-loop-m : goal.invariant-loop-m
invariant-loop-m l = Going l.capacity l.cached l.nodes l.copies l.points l.boxes l.path l.len l.point l.m (box_of l.ends) l.initial.rows l.rows × PaddedEnds l.dimensions l.ends
