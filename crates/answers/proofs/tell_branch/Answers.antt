-- `answers::tell_branch` meets its contract. Assumes nothing.
use Rattle.answers.specs.Said.{filled}
use Rattle.answers.proofs.tell_branch.Goals as goal

pub returns-in-Ok : goal.returns-in-Ok
unfolding filled
returns-in-Ok c = rw (c.in-Ok.is, c.wide32.ensures.0, c.pattern_of.ensures)

pub returns-in-Err : goal.returns-in-Err
unfolding filled
returns-in-Err c = rw (c.in-Err.is, c.number.ensures)
