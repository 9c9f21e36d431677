-- `print_tree` meets its contract, of an empty tree and of any other. Assumes nothing.
use Rattle.listing.proofs.States.{some_listed, none_printed, some_printed}
use Rattle.listing.proofs.print_tree.Goals as goal

pub returns-then-tree-eq0 : goal.returns-then-tree-eq0
returns-then-tree-eq0 c = none_printed _ _ _ _ c.if-tree-eq0.true c.put_names-below.ensures

pub print_node-requires : goal.print_node-requires
print_node-requires c =
    let it = some_listed _ _ _ _ c.if-tree-eq0.false c.requires.near c.requires.stands c.put_names-below.ensures in
    rw (c.wide16.ensures.0, c.wide16-2.ensures.0) (record { few = it.0; stands = it.1 })

pub returns : goal.returns
returns c = some_printed _ _ _ _ c.if-tree-eq0.false c.put_names-below.ensures (rw (c.wide16.ensures.0, c.wide16-2.ensures.0) at c.print_node.ensures)
