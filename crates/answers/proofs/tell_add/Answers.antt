-- `answers::tell_add` meets its contract. Assumes nothing.
use Rattle.answers.specs.Said.{filled}
use Rattle.answers.proofs.tell_add.Goals as goal

pub returns-in-Ok : goal.returns-in-Ok
unfolding filled
returns-in-Ok c = rw c.in-Ok.is

pub returns-in-Err : goal.returns-in-Err
unfolding filled
returns-in-Err c = rw (c.in-Err.is, c.number.ensures)
