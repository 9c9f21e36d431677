-- `print_node` meets its contract. Assumes nothing.
use native.Mathlib.Omega.{arith}
use Rattle.listing.proofs.Parts.{in_table, leaf_printed, branch_printed, parts}
use Rattle.listing.proofs.+print_node.Goals as goal

pub mass_of-mass-requires : goal.mass_of-mass-requires
mass_of-mass-requires t c = in_table _ _ _ _ _ c.if-capacity-id.true c.requires.stands

pub put_leaf-requires : goal.put_leaf-requires
put_leaf-requires t c = omega (arith, c.requires.stands.room)

pub returns-then-capacity-id : goal.returns-then-capacity-id
returns-then-capacity-id t c = leaf_printed _ _ _ _ _ c.if-capacity-id.true c.mass_of-mass.ensures c.put_leaf.ensures.wrote

pub number_of-left_side-requires : goal.number_of-left_side-requires
number_of-left_side-requires t c = let w = parts _ _ _ _ _ c.requires.few c.if-capacity-id.false c.requires.stands in (omega arith, omega arith)

pub number_of-right_side-requires : goal.number_of-right_side-requires
number_of-right_side-requires t c = let w = parts _ _ _ _ _ c.requires.few c.if-capacity-id.false c.requires.stands in (omega arith, omega arith)

pub print_branch-below-requires : goal.print_branch-below-requires
print_branch-below-requires t c = let w = parts _ _ _ _ _ c.requires.few c.if-capacity-id.false c.requires.stands in (omega arith, omega (arith, c.requires.stands.room))

pub print_node-between-requires : goal.print_node-between-requires
print_node-between-requires t c =
    let w = parts _ _ _ _ _ c.requires.few c.if-capacity-id.false c.requires.stands in
    rw c.number_of-left_side.ensures (omega (arith, w.left_less, c.decreases), (c.requires.few, w.left_some c.print_branch-below.ensures))

pub print_node-requires : goal.print_node-requires
print_node-requires t c =
    let w = parts _ _ _ _ _ c.requires.few c.if-capacity-id.false c.requires.stands in
    rw c.number_of-right_side.ensures (omega (arith, w.right_less, c.decreases), (c.requires.few, w.right_some c.print_branch-below.ensures (rw c.number_of-left_side.ensures at c.print_node-between.ensures)))

pub returns : goal.returns
returns t c =
    branch_printed _ _ _ _ _ c.if-capacity-id.false c.print_branch-below.ensures (rw c.number_of-left_side.ensures at c.print_node-between.ensures) (rw c.number_of-right_side.ensures at c.print_node.ensures)
