-- `grow_branch` and `grow_ends` meet their contracts. Assumes nothing.
use native.Mathlib.Omega.{arith}
use mathlib.Core.Path.{sym, ap, ◌∙◌}
use mathlib.Core.List.{List, []}
use lib.ListN.{get_or}
use lib.Ieee.{Float}
use Rattle.boundingbox.specs.Ends.{least, greatest}
use Rattle.boxstore.proofs.Parts.{at_pair, both_leaves, in_table, parts, sides_grown}
use Rattle.rowboxes.proofs.Rows.{joined_padded, made_ends, hand_grown, nought_least, nought_greatest}
use Rattle.rowboxes.proofs.Boxing.+grow_branch_grow_ends.Goals as goal

pub grow_branch-returns-then-capacity-left-clause-grown : goal.grow_branch-returns-then-capacity-left-clause-grown
grow_branch-returns-then-capacity-left-clause-grown t c =
    let e = c.side_of-left.ensures in
    let f = c.side_of-right.ensures in
    let b = both_leaves c.args.self.now.sizes.capacity c.side_of-left.result c.side_of-right.result c.if-capacity-left.true in
    let g = rw (e, f) at c.widen_by_two.ensures in
    (at_pair _ _ _ _ _ _ c.requires.branch (rw e at b.0) (rw f at b.1)).grown _ _ _ _ (ap (λ (X : List (List Float)). get_or X 0 []) g) (ap (λ (X : List (List Float)). get_or X 1 []) g)

pub grow_branch-returns-then-capacity-left-clause-padded : goal.grow_branch-returns-then-capacity-left-clause-padded
grow_branch-returns-then-capacity-left-clause-padded t c =
    let w = parts _ _ _ _ _ _ c.args.self.now.sizes.few.0 c.requires.branch c.requires.stands in
    let e = c.side_of-left.ensures in
    let f = c.side_of-right.ensures in
    let b = both_leaves c.args.self.now.sizes.capacity c.side_of-left.result c.side_of-right.result c.if-capacity-left.true in
    let i = in_table _ _ _ _ _ _ (rw e at b.0) w.left_some in
    let j = in_table _ _ _ _ _ _ (rw f at b.1) w.right_some in
    let P = c.requires.padded in
    let Q = c.args.self.now.padded in
    let d = c.args.self.now.sizes.channels in
    made_ends d _ _ _ _ _ P.low (joined_padded least nought_least d _ _ (Q.0 _ i) (Q.0 _ j)) P.high (joined_padded greatest nought_greatest d _ _ (Q.0 _ i) (Q.0 _ j)) (rw (e, f) at c.widen_by_two.ensures)

pub grow_branch-grow_ends-requires : goal.grow_branch-grow_ends-requires
grow_branch-grow_ends-requires t c =
    let w = parts _ _ _ _ _ _ c.args.self.now.sizes.few.0 c.requires.branch c.requires.stands in
    rw c.side_of-left.ensures (omega (arith, w.left_less, c.decreases), (w.left_some, c.requires.padded))

pub grow_branch-grow_ends-requires-2 : goal.grow_branch-grow_ends-requires-2
grow_branch-grow_ends-requires-2 t c =
    let w = parts _ _ _ _ _ _ c.args.self.now.sizes.few.0 c.requires.branch c.requires.stands in
    let P = c.requires.padded in
    rw c.side_of-right.ensures (omega (arith, w.right_less, c.decreases), (w.right_some, c.grow_ends.ensures.padded))

pub grow_branch-returns-clause-grown : goal.grow_branch-returns-clause-grown
grow_branch-returns-clause-grown t c =
    let a = c.args in
    sides_grown a.self.now.sizes.capacity a.self.now.sizes.cached a.node a.self.now.nodes.now a.self.now.points.now a.self.now.boxes.now c.requires.branch _ _ _ _ _ _
    (rw c.side_of-left.ensures at c.grow_ends.ensures.grown) (rw c.side_of-right.ensures at c.grow_ends-2.ensures.grown)

pub grow_ends-returns-then-at_hand-clause-grown : goal.grow_ends-returns-then-at_hand-clause-grown
grow_ends-returns-then-at_hand-clause-grown t c = hand_grown _ _ c.args.node _ _ _ (sym c.at_hand.ensures ∙ c.if-at_hand.true) _ _ _ c.widen_by.ensures.wide
