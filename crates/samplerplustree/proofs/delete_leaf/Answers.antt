-- `delete_leaf` meets its contract: the delete is done, and never refused. Assumes nothing.
use Rattle.randomcuttree.proofs.Calls.{seeks, some_seen}
use Rattle.samplerplustree.proofs.Leaves.{copy_written, written_there, leaf_deleted, always_held}
use Rattle.samplerplustree.proofs.Paths.{path_seen}
use Rattle.samplerplustree.proofs.delete_leaf.Goals as goal

pub find-found-requires : goal.find-found-requires
find-found-requires c = let q = c.requires in seeks q.state (copy_written q).1

pub delete_found-requires : goal.delete_found-requires
delete_found-requires c = let q = c.requires in some_seen q.state (copy_written q).1 c.find-found.ensures

pub returns-in-Ok : goal.returns-in-Ok
returns-in-Ok c = record { done = leaf_deleted _ _ _ c.args.index _ _ c.delete_found.ensures c.requires _ c.in-Ok.is; path = λ d n t W marks S. path_seen S (written_there c.requires S).1 c.find-found.ensures }

pub returns-in-Err : goal.returns-in-Err
returns-in-Err c = absurd (always_held _ _ _ c.args.index _ _ c.delete_found.ensures c.requires _ c.in-Err.is)
