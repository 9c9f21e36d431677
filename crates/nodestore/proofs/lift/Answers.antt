-- `lift` meets its contract: cell, pointer and masses are written one after the other. Assumes nothing.
use lib.Ieee.{of_bits}
use Rattle.layout.specs.Layout.{no_row}
use Rattle.nodestore.specs.Rows.{lighter}
use Rattle.nodestore.proofs.Facts.{edited}
use Rattle.nodestore.proofs.lift.Goals as goal

pub manage_ancestors-requires : goal.manage_ancestors-requires
manage_ancestors-requires c = rw (c.relink_at.ensures, c.put_cell.ensures.0, c.wide16.ensures.0) c.requires.climb

pub returns : goal.returns
unfolding of_bits
returns c = let a = c.args in
    let e = c.wide16.ensures.0 in
    record { linked = edited lighter a.nodes.now a.above.now no_row a.b a.s e c.put_cell.ensures.0 c.relink_at.ensures c.manage_ancestors.ensures; cut_after = rw (← e) c.put_cell.ensures.1 }
