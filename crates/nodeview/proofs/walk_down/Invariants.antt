use Prim.Native.Nat.{◌-◌}
use Rattle.limits.specs.Limits.{capacity_limit}
use Rattle.nodeview.proofs.Walking.{Walking}
use Rattle.nodeview.proofs.walk_down.Given as goal

abbrev pub invariant-loop-node : goal.invariant-loop-node
invariant-loop-node l = Walking l.dimensions l.capacity l.cached l.nodes l.cuts l.boxes l.point l.root l.initial.path l.initial.chances l.path l.n l.node l.chances

abbrev pub decreases-loop-node : goal.decreases-loop-node
decreases-loop-node l = capacity_limit - l.n
