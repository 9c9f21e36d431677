-- `grow_ancestors` meets its contract: from the row on, the boxes are those of the tree with the new branch in it. Assumes nothing.
use native.Mathlib.Omega.{arith}
use mathlib.Core.Path.{sym, ap, ◌∙◌}
use lib.ListN.{set}
use Rattle.boxstore.proofs.Written.{written_cached, written_other}
use Rattle.boxstore.proofs.Climbs.{climb_start, climb_turn}
use Rattle.rowboxes.proofs.Rows.{made_ends, padded_set, small}
use Rattle.walkboxes.proofs.Held.{climb_held}
use Rattle.walkboxes.proofs.grow_ancestors.Goals as goal

pub loop-row-init : goal.loop-row-init
loop-row-init c = (omega arith, climb_start _ _ _ _ _ c.requires.few.1, c.requires.padded.1)

pub offset_bounds-boxes-index : goal.offset_bounds-boxes-index
offset_bounds-boxes-index c = let l = small _ _ c.if-index-cached.true c.requires.few.1 in omega (arith, l)

pub bounds-boxes-index : goal.bounds-boxes-index
bounds-boxes-index c = small _ _ c.if-index-cached.true c.requires.few.1

pub widen-requires : goal.widen-requires
widen-requires c = let p = c.requires in
    record { padded = (c.loop-row.invariant.2.slots _ (small _ _ c.if-index-cached.true c.requires.few.1), p.padded.0, p.padded.0) }

pub loop-row-preserved-then-index-cached : goal.loop-row-preserved-then-index-cached
loop-row-preserved-then-index-cached c = let p = c.requires in
    let at = c.loop-row in
    let node = c.wide16-index in
    let l = c.if-index-cached.true in
    let s = small node.result _ l c.requires.few.1 in
    let e = c.widen.ensures in
    (omega arith, climb_turn _ _ _ _ _ c.requires.few.1 _ (omega arith) at.invariant.0 _ _ _ (node.ensures.0 ∙ c.node_at.ensures) (ap (set at.boxes node.result) e ∙ sym (written_cached _ _ _ _ l)) at.invariant.1, padded_set _ node.result at.boxes _ s at.invariant.2 (let E = at.invariant.2.slots _ s in made_ends _ _ _ _ _ _ E.low p.padded.0 E.high p.padded.0 e))

pub loop-row-preserved : goal.loop-row-preserved
loop-row-preserved c = let p = c.requires in
    let i = c.loop-row.invariant in
    (omega arith, climb_turn _ _ _ _ _ c.requires.few.1 _ (omega arith) i.0 _ _ _ (c.wide16-index.ensures.0 ∙ c.node_at.ensures) (sym (written_other _ _ _ _ c.if-index-cached.false)) i.1, i.2)

pub returns : goal.returns
returns c = let p = c.requires in
    let i = c.loop-row.invariant in
    record { grown = climb_held _ _ _ _ _ _ _ _ c.requires.few.1 i.0 c.loop-row-test.false p.stands.1 i.1; padded = i.2 }
