-- `write_rows` meets its contract: m rows are written, and the ends are those of the box of the last row's node unless that is at hand (`Going`). Assumes nothing.
use mathlib.Core.Path.{◌∙◌, refl}
use native.Mathlib.Omega.{arith}
use lib.ListN.{length-set}
use Rattle.nodeview.proofs.Nodes.{leaf_low, mass_asks, all_padded}
use Rattle.nodeview.proofs.Going.{both_stand, below_box, branch_box, box_readings, going_starts, going_on, going_ends}
use Rattle.nodeview.proofs.write_rows.Goals as goal

pub invariant_of-boxing : goal.invariant_of-boxing
invariant_of-boxing c = let p = c.requires.walk in record { padded = (p.table_padded, p.boxes_padded) }

pub leaf_at-leaf-requires : goal.leaf_at-leaf-requires
leaf_at-leaf-requires c = let p = c.requires.walk in record { channels = _; tree = p.tree; reading = p.reading; walked = p.writing.walked }

pub overflow_sub-len : goal.overflow_sub-len
overflow_sub-len c = omega (arith, c.requires.walk.writing.walked.count)

pub node_at-leaf_id-requires : goal.node_at-leaf_id-requires
node_at-leaf_id-requires c = let w = c.requires.walk.writing.walked in omega (arith, w.count, w.most)

pub mass_of-leaf_mass-requires : goal.mass_of-leaf_mass-requires
mass_of-leaf_mass-requires c = let w = c.requires.walk.writing in let it = mass_asks w _ 0 (omega (arith, w.walked.count)) _ c.node_at-leaf_id.ensures in record { node_lt_branch_limit = it.0; capacity_bound = it.1 }

pub overflow_sub-len-2 : goal.overflow_sub-len-2
overflow_sub-len-2 c = omega (arith, c.requires.walk.writing.walked.count)

pub offset_bounds-points-leaf : goal.offset_bounds-points-leaf
offset_bounds-points-leaf c = let w = c.requires.walk.writing in omega (arith, leaf_low w _ (c.leaf_at-leaf.ensures _ _ _ w.walked))

pub bounds-points-leaf : goal.bounds-points-leaf
bounds-points-leaf c = let w = c.requires.walk.writing in leaf_low w _ (c.leaf_at-leaf.ensures _ _ _ w.walked)

pub leaf_row-requires : goal.leaf_row-requires
leaf_row-requires c = let p = c.requires.walk in
    record { narrow = p.narrow; padded = (p.table_padded _ (leaf_low p.writing _ (c.leaf_at-leaf.ensures _ _ _ p.writing.walked)), p.point_padded) }

pub bounds-rows-0 : goal.bounds-rows-0
bounds-rows-0 c = let p = c.requires.walk in omega (arith, p.room, p.writing.walked.count)

pub loop-m-init : goal.loop-m-init
loop-m-init c = let p = c.requires.walk in
    let w = p.writing.walked in (
      going_starts _ _ _ _ _ _ _ _ _ c.args.rows.now p.room (omega (arith, w.count)) _
          _ (omega (arith, w.count)) _ c.node_at-leaf_id.ensures _ c.leaf_at-leaf.ensures _ c.mass_of-leaf_mass.ensures c.leaf_row.ensures _ p.writing,
      record { two = refl; low = p.point_padded; high = p.point_padded },
    )

pub overflow_sub-depth : goal.overflow_sub-depth
overflow_sub-depth c = omega (arith, c.loop-m-test.true)

pub overflow_sub-depth-in-loop-m : goal.overflow_sub-depth-in-loop-m
overflow_sub-depth-in-loop-m c = omega (arith, c.loop-m-test.true)

pub node_at-node-requires : goal.node_at-node-requires
node_at-node-requires c = omega (arith, c.requires.walk.writing.walked.most)

pub overflow_sub-len-in-loop-m : goal.overflow_sub-len-in-loop-m
overflow_sub-len-in-loop-m c = omega (arith, c.loop-m-test.true)

pub node_at-requires : goal.node_at-requires
node_at-requires c = omega (arith, c.loop-m.invariant.0.some, c.requires.walk.writing.walked.most)

pub sibling_at-requires : goal.sibling_at-requires
sibling_at-requires c = omega (arith, c.loop-m.invariant.0.some, c.requires.walk.writing.walked.most)

pub branch_ends-requires : goal.branch_ends-requires
branch_ends-requires c = let p = c.requires.walk in
    let w = p.writing in
    let g = c.loop-m.invariant in
    let m = c.loop-m.m in
    let h = c.loop-m-test.true in
    let e = c.wide16.ensures.0 in
    let f = c.wide16-below.ensures.0 ∙ c.node_at.ensures in
    let s = c.wide16-sibling.ensures.0 ∙ c.sibling_at.ensures in record { stands = both_stand _ _ _ _ _ _ _ _ _ w m g.0.some h _ e _ f _ s; given = below_box _ _ _ _ _ _ _ _ _ w m g.0.some h _ e _ f _ s _ g.0.box; padded = g.1 }

pub offset_bounds-chances-depth : goal.offset_bounds-chances-depth
offset_bounds-chances-depth c = omega (arith, c.loop-m-test.true, c.requires.walk.writing.walked.most)

pub bounds-chances-depth : goal.bounds-chances-depth
bounds-chances-depth c = omega (arith, c.loop-m-test.true, c.requires.walk.writing.walked.most)

pub chance_of-chance-requires : goal.chance_of-chance-requires
chance_of-chance-requires c = let p = c.requires.walk in
    let w = p.writing in
    let g = c.loop-m.invariant in
    let m = c.loop-m.m in
    let h = c.loop-m-test.true in
    let e = c.wide16.ensures.0 in
    let f = c.wide16-below.ensures.0 ∙ c.node_at.ensures in
    let s = c.wide16-sibling.ensures.0 ∙ c.sibling_at.ensures in
    let o = c.wide16-branch.ensures.0 ∙ c.node_at-node.ensures in
    let r = c.branch_ends.ensures in record { readings = (λ l. box_readings _ _ _ _ _ _ _ _ _ _ m (omega (arith, h)) _ o _ (branch_box _ _ _ _ _ _ _ _ _ w m g.0.some h _ e _ f _ s _ o _ (r.pair l)) w); padded = (λ _. all_padded _ _ _ p.narrow r.padded p.point_padded) }

pub mass_of-mass-requires : goal.mass_of-mass-requires
mass_of-mass-requires c = let it = mass_asks c.requires.walk.writing _ c.loop-m.m (omega (arith, c.loop-m-test.true)) _ c.node_at-node.ensures in record { node_lt_branch_limit = it.0; capacity_bound = it.1 }

pub offset_bounds-rows-m : goal.offset_bounds-rows-m
offset_bounds-rows-m c = omega (arith, c.loop-m-test.true, c.requires.walk.writing.walked.most)

pub bounds-rows-m : goal.bounds-rows-m
bounds-rows-m c = let g = c.loop-m.invariant.0 in omega (arith, g.room, g.long, c.loop-m-test.true)

pub loop-m-preserved : goal.loop-m-preserved
loop-m-preserved c = let p = c.requires in
    let w = p.walk.writing in
    let g = c.loop-m.invariant.0 in
    let m = c.loop-m.m in
    let h = c.loop-m-test.true in
    let e = c.wide16.ensures.0 in
    let f = c.wide16-below.ensures.0 ∙ c.node_at.ensures in
    let s = c.wide16-sibling.ensures.0 ∙ c.sibling_at.ensures in
    let n = c.node_at-node.ensures in
    let o = c.wide16-branch.ensures.0 ∙ n in
    let r = c.branch_ends.ensures in (
      going_on _ _ _ _ _ _ _ _ _ c.args.chances.now p.chances m _ _ _ g h _ (omega (arith, h)) _ o _ (λ l. branch_box _ _ _ _ _ _ _ _ _ w m g.some h _ e _ f _ s _ o _ (r.pair l))
          _ n _ c.mass_of-mass.ensures _ c.chance_of-chance.ensures _ c.numbers_of.ensures,
      r.padded,
    )

pub shape_of-rows : goal.shape_of-rows
shape_of-rows c = c.loop-m.invariant.0.long ∙ simp length-set

pub returns : goal.returns
returns c = let p = c.requires.walk in
    going_ends _ _ _ _ _ _ _ _ _ _ p.room (omega (arith, p.writing.walked.count)) _ _ _ _ c.loop-m.invariant.0 c.loop-m-test.false
