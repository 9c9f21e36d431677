-- `add_leaf` meets its contract: the add is done, and never refused. Assumes nothing.
use Rattle.samplerplustree.proofs.Leaves.{leaf_added, leaf_small, never_refused, seen_room}
use Rattle.samplerplustree.proofs.add_leaf.Goals as goal

pub add_found-requires : goal.add_found-requires
add_found-requires c = let it = seen_room _ _ _ _ _ _ _ c.requires in record { seen = it.0; room = it.1 }

pub returns-in-Ok : goal.returns-in-Ok
returns-in-Ok c = record { small = leaf_small _ _ _ c.args.index c.args.words.now _ _ c.add_found.ensures c.requires _ c.in-Ok.is; adds = leaf_added _ _ _ c.args.index c.args.words.now _ _ c.add_found.ensures _ c.in-Ok.is }

pub returns-in-Err : goal.returns-in-Err
returns-in-Err c = absurd (never_refused _ _ _ c.args.index c.args.words.now _ _ c.add_found.ensures c.requires _ c.in-Err.is)
