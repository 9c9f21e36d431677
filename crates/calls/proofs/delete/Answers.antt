-- `calls::delete` meets its contract. Assumes nothing.
use Rattle.calls.proofs.Edits.{delete_does}
use Rattle.calls.proofs.delete.Goals as goal

pub returns : goal.returns
returns c = delete_does _ _ _ _ _ _ _ _ _ c.delete-answer.ensures c.header_deleted.ensures c.tell_delete.ensures
