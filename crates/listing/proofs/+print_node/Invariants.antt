-- What falls with each call is how deep the rows go below the node.
use Rattle.limits.specs.Limits.{capacity_limit}
use Rattle.boxstore.proofs.Depths.{deep}
use Rattle.listing.proofs.+print_node.Given as goal

abbrev pub decreases-print_node : goal.decreases-print_node
decreases-print_node l = deep l.nodes.now l.capacity capacity_limit l.id
