-- `calls::add` meets its contract. Assumes nothing.
use Rattle.calls.proofs.Edits.{add_does}
use Rattle.calls.proofs.add.Goals as goal

pub returns : goal.returns
returns c = add_does _ _ _ _ _ _ _ _ _ _ c.add-answer.ensures c.header_added.ensures c.tell_add.ensures
