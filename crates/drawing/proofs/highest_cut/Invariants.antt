use Rattle.drawing.proofs.Going.{Going}
use Rattle.drawing.proofs.highest_cut.Given as goal

abbrev pub invariant-loop-m : goal.invariant-loop-m
invariant-loop-m l = Going l.boxing.sizes.capacity l.boxing.sizes.cached l.boxing.sizes.channels l.boxing.nodes.now l.boxing.points.now l.boxing.boxes.now l.path l.len l.leaf l.words l.point l.m l.ends l.chosen
