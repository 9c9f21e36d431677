-- `set_branch` meets its contract. Assumes nothing.
use native.Mathlib.Omega.{arith}
use Rattle.boxstore.proofs.Parts.{sides_box}
use Rattle.rowboxes.specs.Rows.{box_of}
use Rattle.branchboxes.proofs.Pairs.{two_sides, pair_sides, both_lie, hand_pair, first_far, side_deep, second_some, grown_pair}
use Rattle.branchboxes.proofs.+set_branch.Goals as goal

pub join-requires : goal.join-requires
join-requires t c =
    let W = two_sides _ _ _ _ _ _ _ _ c.side_of-left.ensures c.side_of-right.ensures _ _ c.requires.stands c.at_hand-given.ensures c.at_hand.ensures in
    record { hand = both_lie _ _ _ _ _ _ _ _ _ W c.if-given-at_hand.true; padded = c.requires.padded }

pub returns-then-given-at_hand : goal.returns-then-given-at_hand
returns-then-given-at_hand t c =
    let W = two_sides _ _ _ _ _ _ _ _ c.side_of-left.ensures c.side_of-right.ensures _ _ c.requires.stands c.at_hand-given.ensures c.at_hand.ensures in
    let J = c.join.ensures in
    record { sides = pair_sides _ _ _ _ _ _ _ _ c.side_of-left.ensures c.side_of-right.ensures (box_of c.join.new.ends) (hand_pair _ _ _ _ _ _ _ _ _ W c.if-given-at_hand.true _ J.joined); padded = J.padded }

pub set_branch-requires : goal.set_branch-requires
set_branch-requires t c =
    let A = c.args in
    let W = two_sides _ _ _ _ _ _ _ _ c.side_of-left.ensures c.side_of-right.ensures _ _ c.requires.stands c.at_hand-given.ensures c.at_hand.ensures in
    let F = first_far _ _ _ _ _ _ _ _ _ W c.args.boxing.now.sizes.few.0 c.if-given-at_hand.false in
    let m = side_deep A.boxing.now.nodes.now A.boxing.now.sizes.capacity A.node c.at_hand-given.result _ _ c.side_of-left.ensures c.side_of-right.ensures in
    rw c.either-first.ensures (omega (arith, F.less, m, c.decreases), (F.sides, c.requires.padded))

pub grow_ends-requires : goal.grow_ends-requires
grow_ends-requires t c =
    let W = two_sides _ _ _ _ _ _ _ _ c.side_of-left.ensures c.side_of-right.ensures _ _ c.requires.stands c.at_hand-given.ensures c.at_hand.ensures in
    rw c.either-second.ensures (record { stands = second_some _ _ _ _ _ _ _ _ _ W; padded = c.set_branch.ensures.padded })

pub returns : goal.returns
returns t c =
    let A = c.args in
    let W = two_sides _ _ _ _ _ _ _ _ c.side_of-left.ensures c.side_of-right.ensures _ _ c.requires.stands c.at_hand-given.ensures c.at_hand.ensures in
    let F = first_far _ _ _ _ _ _ _ _ _ W c.args.boxing.now.sizes.few.0 c.if-given-at_hand.false in
    let E = rw c.either-first.ensures at c.set_branch.ensures.sides in
    let G = rw c.either-second.ensures at c.grow_ends.ensures.grown in
    record { sides = pair_sides _ _ _ _ _ _ _ _ c.side_of-left.ensures c.side_of-right.ensures (box_of c.grow_ends.new.ends) (grown_pair A.boxing.now.sizes.capacity A.boxing.now.sizes.cached A.boxing.now.nodes.now A.boxing.now.points.now A.boxing.now.boxes.now c.at_hand-given.result c.side_of-left.result c.side_of-right.result c.set_branch.new.ends c.grow_ends.new.ends (sides_box A.boxing.now.sizes.capacity A.boxing.now.sizes.cached _ A.boxing.now.nodes.now A.boxing.now.points.now A.boxing.now.boxes.now F.branch (box_of c.set_branch.new.ends) E) G); padded = c.grow_ends.ensures.padded }
