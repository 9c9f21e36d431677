-- `highest_cut` meets its contract: before the node of height m it has chosen what the tree keeps of the m nodes below. Assumes nothing.
use native.Mathlib.Omega.{arith}
use mathlib.Core.Path.{refl, subst, ◌∙◌}
use mathlib.Core.Logic.{inl, inr}
use borrow.Author.Tests.{le-leb, lt-leb}
use Rattle.branchboxes.proofs.Walks.{both_stand, under_box, branch_box}
use Rattle.drawing.specs.Choice.{Numbered}
use Rattle.drawing.proofs.Going.{Ends, leaf_box, readings, padded_rows, is_numbered, going_starts, chosen_number, in_slots, next_ends, kept_end, kept_there, going_on}
use Rattle.drawing.proofs.highest_cut.Goals as goal
use Rattle.drawing.proofs.highest_cut.Goals.{then-partly, else-partly, After-drawn_of-draw}

-- the ends of the node's box, from which it is drawn
ends_here : (c : After-drawn_of-draw) → Ends c.args.boxing.now.sizes.capacity c.args.boxing.now.sizes.cached c.args.boxing.now.sizes.channels c.args.boxing.now.nodes.now c.args.boxing.now.points.now c.args.boxing.now.boxes.now c.args.path.now c.args.len c.args.leaf c.args.words.now c.args.point.now c.loop-m.m c.wide16-branch.result c.if-partly.ends
ends_here c =
    let q = c.requires in
    let D = q.walked.drawing in
    next_ends _ _ _ _ _ _ _ _ _ _ _ _ _ _ c.loop-m.invariant c.loop-m-test.true _ (c.wide16-branch.ensures.0 ∙ c.node_at.ensures) q.walked c.args.boxing.now.sizes.few.0 c.args.boxing.now.padded.1 _ (elim c.if-partly.branch [
      | then-partly w ↦ inl (le-leb _ _ w.if-partly.true, rw w.ends-is (branch_box _ _ D.boxed D.once D.count D.is_trail _ c.loop-m.invariant.some c.loop-m-test.true _ (w.wide16-below.ensures.0 ∙ w.node_at-then-partly.ensures) _ (w.wide16-sibling.ensures.0 ∙ w.sibling_at.ensures) _ (c.wide16-branch.ensures.0 ∙ c.node_at.ensures) _ w.ends_above.ensures.pair), rw w.ends-is w.ends_above.ensures.padded)
      | else-partly w ↦ inr (lt-leb _ _ w.if-partly.false, w.ends-is)
    ])

pub bounds-words-0 : goal.bounds-words-0
bounds-words-0 c = let D = c.requires.walked.drawing in omega (arith, D.count, D.enough)

pub chosen_first-chosen-requires : goal.chosen_first-chosen-requires
chosen_first-chosen-requires c = let q = c.requires in
    let B = leaf_box _ _ _ _ _ _ _ _ _ _ _ q.walked c.args.boxing.now.padded.0 in
    record { row = q.walked.drawing.leaf_small; readings = readings _ _ _ _ _ _ _ _ _ _ _ 0 _ B q.walked; padded = padded_rows _ _ _ _ _ _ _ _ _ _ _ 0 _ B c.args.boxing.now.sizes.few.2 q.padded; number = is_numbered _ _ _ _ _ _ _ _ _ _ _ 0 _ B _ refl q.walked (omega (arith, c.shared_slice_known-2-1.given 0)) }

pub loop-m-init : goal.loop-m-init
loop-m-init c = let q = c.requires in
    going_starts _ _ _ _ _ _ _ _ _ _ _ q.walked q.padded c.args.boxing.now.padded.0 (omega (arith, c.shared_slice_known-2-1.given 0)) _ c.chosen_first-chosen.ensures

pub ends_above-requires : goal.ends_above-requires
ends_above-requires c = let q = c.requires in
    let D = q.walked.drawing in
    let g = c.loop-m.invariant in
    let h = c.loop-m-test.true in
    let f = c.wide16-below.ensures.0 ∙ c.node_at-then-partly.ensures in
    let s = c.wide16-sibling.ensures.0 ∙ c.sibling_at.ensures in
    record { stands = both_stand _ _ D.boxed D.once D.count D.is_trail _ g.some h _ f _ s; given = under_box _ _ D.boxed D.once D.count D.is_trail _ g.some h _ f _ s _ g.box; padded = g.padded }

pub bounds-words-m : goal.bounds-words-m
bounds-words-m c = omega (arith, c.loop-m-test.true, c.requires.walked.drawing.enough)

pub drawn_of-draw-requires : goal.drawn_of-draw-requires
drawn_of-draw-requires c =
    let B : Ends c.args.boxing.now.sizes.capacity c.args.boxing.now.sizes.cached c.args.boxing.now.sizes.channels c.args.boxing.now.nodes.now c.args.boxing.now.points.now c.args.boxing.now.boxes.now c.args.path.now c.args.len c.args.leaf c.args.words.now c.args.point.now c.loop-m.m c.wide16-branch.result c.if-partly.ends =
    (let q = c.requires in
    let D = q.walked.drawing in
    next_ends _ _ _ _ _ _ _ _ _ _ _ _ _ _ c.loop-m.invariant c.loop-m-test.true _ (c.wide16-branch.ensures.0 ∙ c.node_at.ensures) q.walked c.args.boxing.now.sizes.few.0 c.args.boxing.now.padded.1 _ (elim c.if-partly.branch [
      | then-partly w ↦ inl (le-leb _ _ w.if-partly.true, rw w.ends-is (branch_box _ _ D.boxed D.once D.count D.is_trail _ c.loop-m.invariant.some c.loop-m-test.true _ (w.wide16-below.ensures.0 ∙ w.node_at-then-partly.ensures) _ (w.wide16-sibling.ensures.0 ∙ w.sibling_at.ensures) _ (c.wide16-branch.ensures.0 ∙ c.node_at.ensures) _ w.ends_above.ensures.pair), rw w.ends-is w.ends_above.ensures.padded)
      | else-partly w ↦ inr (lt-leb _ _ w.if-partly.false, w.ends-is)
    ])) in
    let q = c.requires in
    let K = B.here in
    record { slot = λ _. in_slots _ _ _ _ _ _ _ _ _ _ _ _ _ _ c.loop-m.invariant c.loop-m-test.true _ (c.wide16-branch.ensures.0 ∙ c.node_at.ensures) q.walked c.args.boxing.now.sizes.few.0; readings = readings _ _ _ _ _ _ _ _ _ _ _ _ _ K q.walked; padded = padded_rows _ _ _ _ _ _ _ _ _ _ _ _ _ K c.args.boxing.now.sizes.few.2 q.padded }

pub highest_of-requires : goal.highest_of-requires
highest_of-requires c = chosen_number _ _ _ _ _ _ _ _ _ _ _ _ _ _ c.loop-m.invariant c.requires.walked

pub returns-in_default : goal.returns-in_default
returns-in_default c =
    let B = ends_here (goal.at.returns-in_default c).After-drawn_of-draw in
    rw c.highest_of.ensures (kept_there _ _ _ _ _ _ _ _ _ _ _ _ _ _ c.loop-m.invariant c.loop-m-test.true _ (c.wide16-branch.ensures.0 ∙ c.node_at.ensures) _ B (omega (arith, c.shared_slice_known-in-loop-m-1.given c.loop-m.m)) _ c.drawn_of-draw.ensures c.in_default.is)

pub chosen_at-chosen-requires : goal.chosen_at-chosen-requires
chosen_at-chosen-requires c =
    let B = ends_here (goal.at.chosen_at-chosen-requires c).After-drawn_of-draw in
    subst Numbered c.in-Some.is (is_numbered _ _ _ _ _ _ _ _ _ _ _ _ _ B.here _ c.drawn_of-draw.ensures c.requires.walked (omega (arith, c.shared_slice_known-in-loop-m-1.given c.loop-m.m)))

pub loop-m-preserved : goal.loop-m-preserved
loop-m-preserved c =
    let B = ends_here (goal.at.loop-m-preserved c).After-drawn_of-draw in
    going_on _ _ _ _ _ _ _ _ _ _ _ _ _ _ c.loop-m.invariant c.loop-m-test.true _ (c.wide16-branch.ensures.0 ∙ c.node_at.ensures) _ B (omega (arith, c.shared_slice_known-in-loop-m-1.given c.loop-m.m)) _ c.drawn_of-draw.ensures _ c.in-Some.is _ c.chosen_at-chosen.ensures

pub highest_of-requires-2 : goal.highest_of-requires-2
highest_of-requires-2 c = chosen_number _ _ _ _ _ _ _ _ _ _ _ _ _ _ c.loop-m.invariant c.requires.walked

pub returns : goal.returns
returns c = rw c.highest_of-2.ensures (kept_end _ _ _ _ _ _ _ _ _ _ _ _ _ _ c.loop-m.invariant c.loop-m-test.false)
