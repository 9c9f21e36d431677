-- `repair_ancestors` meets its contract: from the row on, the boxes are those of the tree without the point. Assumes nothing.
use native.Mathlib.Omega.{arith}
use mathlib.Core.Path.{◌∙◌}
use Rattle.boxstore.proofs.Repairs.{repair_start, repair_sides, repair_turn, repair_stop, repair_end}
use Rattle.walkboxes.proofs.repair_ancestors.Goals as goal

pub loop-row-init : goal.loop-row-init
loop-row-init c = (omega arith, repair_start _ _ _ _ _ _ _ _ _ c.args.sizes.now.few.1, c.requires.padded.2)

pub check_contains_and_rebuild_box-requires : goal.check_contains_and_rebuild_box-requires
check_contains_and_rebuild_box-requires c =
    let p = c.requires in
    let i = c.loop-row.invariant in
    record { stands = (λ _. repair_sides _ _ _ _ _ _ _ _ _ c.args.sizes.now.few.1 _ c.loop-row-test.true i.0 _ _ (c.wide16-index.ensures.0 ∙ c.node_at.ensures) i.1 c.args.sizes.now.few.0 p.stands); padded = (p.padded.0, p.padded.1, i.2) }

pub returns-then-check_contains_and_rebuild_box : goal.returns-then-check_contains_and_rebuild_box
returns-then-check_contains_and_rebuild_box c = let i = c.loop-row.invariant in
    let E = c.check_contains_and_rebuild_box.ensures in
    record { repaired = repair_stop _ _ _ _ _ _ _ _ _ c.args.sizes.now.few.1 _ c.loop-row-test.true i.0 _ _ (c.wide16-index.ensures.0 ∙ c.node_at.ensures) i.1 _ _ E.rebuilt c.if-check_contains_and_rebuild_box.true; padded = E.padded }

pub loop-row-preserved : goal.loop-row-preserved
loop-row-preserved c = let i = c.loop-row.invariant in
    let E = c.check_contains_and_rebuild_box.ensures in
    (omega arith, repair_turn _ _ _ _ _ _ _ _ _ c.args.sizes.now.few.1 _ c.loop-row-test.true i.0 _ _ (c.wide16-index.ensures.0 ∙ c.node_at.ensures) i.1 _ _ E.rebuilt c.if-check_contains_and_rebuild_box.false, E.padded)

pub returns : goal.returns
returns c = let i = c.loop-row.invariant in record { repaired = repair_end _ _ _ _ _ _ _ _ _ _ _ (omega arith) i.1; padded = i.2 }
