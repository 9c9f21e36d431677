-- `ends_above` meets its contract: where the node is at hand and its sibling is not, the ends are set by the sibling and moved out to the node, else they are the
-- node's and moved out to the sibling. Assumes nothing.
use mathlib.Core.Bool.{cond}
use Rattle.boxstore.specs.Grown.{BoxOf}
use Rattle.rowboxes.specs.Rows.{box_of}
use Rattle.branchboxes.proofs.Pairs.{Two, hand_pair, first_far, first_set, first_given, grown_pair}
use Rattle.branchboxes.proofs.ends_above.Goals as goal
use Rattle.branchboxes.proofs.ends_above.Goals.{then-given, else-given, After-at_hand}

-- what is known of the two nodes
nodes_at : (c : After-at_hand) → let a = c.args in
    Two a.boxing.now.sizes.capacity a.boxing.now.sizes.cached a.boxing.now.nodes.now a.boxing.now.points.now a.boxing.now.boxes.now a.below a.sibling c.at_hand-given.result c.at_hand.result
nodes_at c = record { left_some = c.requires.stands.0; right_some = c.requires.stands.1; left_hand = c.at_hand-given.ensures; right_hand = c.at_hand.ensures }

pub returns-then-given-at_hand-clause-pair : goal.returns-then-given-at_hand-clause-pair
returns-then-given-at_hand-clause-pair c = hand_pair _ _ _ _ _ _ _ _ _ (nodes_at (goal.at.returns-then-given-at_hand-clause-pair c).After-at_hand) c.if-given-at_hand.true c.join.new.ends c.join.ensures.joined

pub set_branch-requires-clause-stands : goal.set_branch-requires-clause-stands
set_branch-requires-clause-stands c = (rw c.if-given.true at (first_far _ _ _ _ _ _ _ _ _ (nodes_at (goal.at.set_branch-requires-clause-stands c).After-at_hand) c.args.boxing.now.sizes.few.0 c.if-given-at_hand.false)).sides

pub returns-clause-pair : goal.returns-clause-pair
returns-clause-pair c =
    let A = c.args in
    let W = nodes_at (goal.at.returns-clause-pair c).After-at_hand in
    let E : BoxOf A.boxing.now.sizes.capacity A.boxing.now.sizes.cached (cond c.at_hand-given.result A.sibling A.below) A.boxing.now.nodes.now A.boxing.now.points.now A.boxing.now.boxes.now (box_of c.if-given.ends) =
    elim c.if-given.branch [
      | then-given w ↦ rw w.ends-is (first_set _ _ _ _ _ _ _ _ _ W c.args.boxing.now.sizes.few.0 c.if-given-at_hand.false w.if-given.true _ w.set_branch.ensures.sides)
      | else-given w ↦ rw w.ends-is (first_given _ _ _ _ _ _ _ _ _ W w.if-given.false _ c.requires.given)
    ] in
    grown_pair _ _ _ _ _ c.at_hand-given.result A.below A.sibling c.if-given.ends c.grow_ends.new.ends E (rw c.either-other.ensures at c.grow_ends.ensures.grown)
