-- `place_branch` meets its contract: the row written is the new branch's, its mass read from the node below it. Assumes nothing.
use native.Mathlib.Omega.{arith}
use Rattle.nodestore.proofs.Places.{mass_asks, mass_low, insert_asks, placed_arrays}
use Rattle.nodestore.proofs.place_branch.Goals as goal

pub mass_of-m-requires : goal.mass_of-m-requires
mass_of-m-requires c = let it = mass_asks c.requires.graft _ c.node_at-old.ensures in record { node_lt_branch_limit = it.0; capacity_bound = it.1 }

pub row_for-row-requires : goal.row_for-row-requires
row_for-row-requires c = record { mass_bound = omega (arith, c.mass_of-m.ensures, mass_low c.requires.graft _ c.node_at-old.ensures); dimension_lt_width = omega (arith, c.requires.graft.channel_is, c.requires.graft.channel_small) }

pub insert-requires : goal.insert-requires
insert-requires c = let s = c.requires.graft in
    let a = insert_asks s _ _ _ c.node_at-old.ensures c.mass_of-m.ensures (rw c.leaf_id.ensures at c.row_for-row.ensures) in
    record { b_lt_branch_limit = s.small; last = a.0; climb = a.1 }

pub returns : goal.returns
returns c = λ d n t p h x w. rw (c.insert.ensures.linked, c.insert.ensures.cut_after, c.put_copies.ensures)
    (placed_arrays w _ _ _ c.node_at-old.ensures c.mass_of-m.ensures (rw c.leaf_id.ensures at c.row_for-row.ensures))
