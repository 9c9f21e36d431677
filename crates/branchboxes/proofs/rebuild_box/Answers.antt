-- `rebuild_box` meets its contract: the box kept is that of the two sides. Assumes nothing.
use lib.Ieee.{of_bits}
use Rattle.rowboxes.proofs.Rows.{no_ends_lem}
use Rattle.branchboxes.proofs.Pairs.{two_sides, sides_kept, both_lie, hands_kept}
use Rattle.branchboxes.proofs.rebuild_box.Goals as goal

pub keep_join-requires : goal.keep_join-requires
keep_join-requires c = let W = two_sides _ _ _ _ _ _ _ _ c.side_of-left.ensures c.side_of-right.ensures _ _ c.requires.stands.1 c.at_hand.ensures c.at_hand-2.ensures in
    let B = both_lie _ _ _ _ _ _ _ _ _ W c.if-at_hand.true in
    record { hand = (c.requires.stands.1.small, B.0, B.1); padded = c.requires.padded }

pub returns-then-at_hand : goal.returns-then-at_hand
returns-then-at_hand c = let A = c.args in
    let W = two_sides _ _ _ _ _ _ _ _ c.side_of-left.ensures c.side_of-right.ensures _ _ c.requires.stands.1 c.at_hand.ensures c.at_hand-2.ensures in
    let K = c.keep_join.ensures in
    record { kept = hands_kept _ _ _ _ _ _ _ _ _ W c.if-at_hand.true A.index c.side_of-left.ensures c.side_of-right.ensures c.requires.stands.0 c.keep_join.new.boxes K.kept; padded = K.padded }

pub set_branch-requires : goal.set_branch-requires
unfolding of_bits
set_branch-requires c = record { stands = c.requires.stands.1; padded = no_ends_lem _ }

pub keep_ends-requires : goal.keep_ends-requires
keep_ends-requires c = record { slot = c.requires.stands.1.small; padded = (c.requires.padded.1, c.set_branch.ensures.padded) }

pub returns : goal.returns
returns c = let A = c.args in
    let E = c.set_branch.ensures in
    let K = c.keep_ends.ensures in
    record { kept = sides_kept _ _ _ _ _ A.index c.requires.stands.0 c.keep_ends.new.boxes c.set_branch.new.ends E.padded.two E.sides K.kept; padded = K.padded }
