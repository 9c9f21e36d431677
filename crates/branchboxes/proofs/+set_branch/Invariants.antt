-- What falls with each call is how deep the rows go below the branch's sides.
use Rattle.branchboxes.proofs.Pairs.{deep_sides}
use Rattle.branchboxes.proofs.+set_branch.Given as goal

abbrev pub decreases-set_branch : goal.decreases-set_branch
decreases-set_branch l = deep_sides l.boxing.now.nodes.now l.boxing.now.sizes.capacity l.node
