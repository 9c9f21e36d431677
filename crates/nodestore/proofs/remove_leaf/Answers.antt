-- `remove_leaf` meets its contract: the path has the branch that goes and the node that takes its place. Assumes nothing.
use Rattle.nodestore.proofs.Ends.{index_low, fork_asks, fork_arrays}
use Rattle.nodestore.proofs.remove_leaf.Goals as goal

pub put_copies-requires : goal.put_copies-requires
put_copies-requires c = index_low c.requires.some_reached.reached

pub lift-requires : goal.lift-requires
lift-requires c = let s = c.requires in
    let a = fork_asks s.some_reached.reached s.index_value s.le_n _ _ c.node_at-b.ensures c.sibling_at-s.ensures in
    record { b_lt_branch_limit = a.0; last = a.1.0; climb = a.1.1 }

pub returns : goal.returns
returns c = let s = c.requires in
    λ d x t p w. rw (c.lift.ensures.linked, c.lift.ensures.cut_after, c.put_copies.ensures) (fork_arrays w s.index_value s.le_n _ _ c.node_at-b.ensures c.sibling_at-s.ensures)
