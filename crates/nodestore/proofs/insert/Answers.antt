-- `insert` meets its contract: cell, pointer and masses are written one after the other. Assumes nothing.
use Rattle.nodestore.specs.Rows.{heavier}
use Rattle.nodestore.proofs.Facts.{edited}
use Rattle.nodestore.proofs.insert.Goals as goal

pub manage_ancestors-requires : goal.manage_ancestors-requires
manage_ancestors-requires c = rw (c.relink_at.ensures, c.put_cell.ensures.0, c.wide16.ensures.0) c.requires.climb

pub returns : goal.returns
returns c = let a = c.args in
    let e = c.wide16.ensures.0 in
    record { linked = edited heavier a.nodes.now a.above.now a.row a.old a.b e c.put_cell.ensures.0 c.relink_at.ensures c.manage_ancestors.ensures; cut_after = rw (← e) c.put_cell.ensures.1 }
