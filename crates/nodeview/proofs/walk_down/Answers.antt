-- `walk_down` meets its contract: at each turn the walk of every tree that stands has come to the node, and the chances above it are kept (`Walking`). Assumes nothing.
use native.Mathlib.Omega.{arith}
use Rattle.nodeview.proofs.Walking.{walking_starts, walking_ends, this, node_readings, node_padded, walking_on}
use Rattle.nodeview.proofs.walk_down.Goals as goal

pub loop-node-init : goal.loop-node-init
loop-node-init c = walking_starts _ _ _ _ _ _ _ _ _ _ c.requires.few c.requires.stands c.args.path.now c.begin.ensures.whole c.begin.ensures.root

pub step_at-s-requires : goal.step_at-s-requires
step_at-s-requires c = let g = c.loop-node.invariant in
    let t = this _ _ _ _ _ _ _ _ _ _ _ _ _ _ g c.loop-node-test.true in
    record { i_lt_branch_limit = omega (arith, c.wide16-i.ensures.0, g.few, t.small); i_bound = rw c.wide16-i.ensures.0 t.chan }

pub offset_bounds-path-n : goal.offset_bounds-path-n
offset_bounds-path-n c = let g = c.loop-node.invariant in omega (arith, (this _ _ _ _ _ _ _ _ _ _ _ _ _ _ g c.loop-node-test.true).room, g.few)

pub bounds-path-n : goal.bounds-path-n
bounds-path-n c = let g = c.loop-node.invariant in omega (arith, (this _ _ _ _ _ _ _ _ _ _ _ _ _ _ g c.loop-node-test.true).room, g.few)

pub overflow_sub-n : goal.overflow_sub-n
overflow_sub-n c = c.loop-node.invariant.some

pub keep_chance-requires : goal.keep_chance-requires
keep_chance-requires c = let g = c.loop-node.invariant in
    let h = c.loop-node-test.true in
    let t = this _ _ _ _ _ _ _ _ _ _ _ _ _ _ g h in
    rw c.wide16-i.ensures.0 (record { low = (omega (arith, t.room, g.few), omega (arith, t.small, g.few)); readings = node_readings _ _ _ _ _ _ _ _ _ _ _ _ _ _ g h; padded = node_padded _ _ _ _ _ _ _ _ _ _ _ _ _ _ g h })

pub overflow_add-n : goal.overflow_add-n
overflow_add-n c = let g = c.loop-node.invariant in omega (arith, (this _ _ _ _ _ _ _ _ _ _ _ _ _ _ g c.loop-node-test.true).room, g.few)

pub loop-node-smaller : goal.loop-node-smaller
loop-node-smaller c = let g = c.loop-node.invariant in omega (arith, (this _ _ _ _ _ _ _ _ _ _ _ _ _ _ g c.loop-node-test.true).room, g.few)

pub loop-node-preserved : goal.loop-node-preserved
loop-node-preserved c = let e = c.wide16-i.ensures.0 in
    let k = c.keep_chance.ensures in
    walking_on _ _ _ _ _ _ _ _ _ _ _ _ _ _ c.loop-node.invariant c.loop-node-test.true _ (rw e at c.step_at-s.ensures) _ k.whole (rw e at k.kept)

pub returns : goal.returns
returns c = let it = walking_ends _ _ _ _ _ _ _ _ _ _ _ _ _ _ c.loop-node.invariant c.loop-node-test.false c.args.path.now c.begin.ensures.root in record { walked = it.0; rest = it.1.0; chances = it.1.1.0; others = it.1.1.1 }
