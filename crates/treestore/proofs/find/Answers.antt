-- `find` meets its contract: the walk, its leaf and the test of their rows. Assumes nothing.
use native.Mathlib.Omega.{arith}
use Rattle.treestore.proofs.Findings.{some_walks, some_walked, leaf_low, leaf_padded, index_padded, found_in}
use Rattle.treestore.proofs.find.Goals as goal

pub offset_bounds-points-index : goal.offset_bounds-points-index
offset_bounds-points-index c = omega (arith, c.requires.sought.index_small)

pub bounds-points-index : goal.bounds-points-index
bounds-points-index c = c.requires.sought.index_small

pub set_path-n-requires : goal.set_path-n-requires
set_path-n-requires c = record { capacity_le_capacity_limit = c.requires.sought.small; some_walks = some_walks c.requires.sought }

pub leaf_at-leaf-requires : goal.leaf_at-leaf-requires
leaf_at-leaf-requires c = some_walked c.requires.sought _ _ c.set_path-n.ensures.walked

pub offset_bounds-points-leaf : goal.offset_bounds-points-leaf
offset_bounds-points-leaf c = omega (arith, leaf_low c.requires.sought _ _ c.set_path-n.ensures.walked _ c.leaf_at-leaf.ensures)

pub bounds-points-leaf : goal.bounds-points-leaf
bounds-points-leaf c = leaf_low c.requires.sought _ _ c.set_path-n.ensures.walked _ c.leaf_at-leaf.ensures

pub offset_bounds-points-index-2 : goal.offset_bounds-points-index-2
offset_bounds-points-index-2 c = omega (arith, c.requires.sought.index_small)

pub bounds-points-index-2 : goal.bounds-points-index-2
bounds-points-index-2 c = c.requires.sought.index_small

pub same_point-held-requires : goal.same_point-held-requires
same_point-held-requires c = let s = c.requires.sought in
    record { narrow = s.channels_few; padded = (leaf_padded s _ _ c.set_path-n.ensures.walked _ c.leaf_at-leaf.ensures, index_padded s) }

pub returns : goal.returns
returns c = λ t p G. found_in G _ _ c.set_path-n.ensures.walked _ c.leaf_at-leaf.ensures _ _ c.same_point-held.ensures c.set_path-n.ensures.rest
