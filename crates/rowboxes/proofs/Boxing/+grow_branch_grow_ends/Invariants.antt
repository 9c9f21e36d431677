-- What falls with each call is how deep the rows go below the node.
use Prim.Native.Nat.{◌+◌, ◌*◌}
use Rattle.limits.specs.Limits.{capacity_limit}
use Rattle.boxstore.proofs.Depths.{deep}
use Rattle.rowboxes.proofs.Boxing.+grow_branch_grow_ends.Given as goal

abbrev pub decreases-grow_branch : goal.decreases-grow_branch
decreases-grow_branch l = 2 * deep l.self.now.nodes.now l.self.now.sizes.capacity capacity_limit l.node

abbrev pub decreases-grow_ends : goal.decreases-grow_ends
decreases-grow_ends l = 2 * deep l.self.now.nodes.now l.self.now.sizes.capacity capacity_limit l.node + 1
