-- `arrivals::tell_update` meets its contract. Assumes nothing.
use borrow.Author.Rules.{rules}
use Rattle.answers.specs.Said.{filled}
use Rattle.arrivals.proofs.tell_update.Goals as goal

pub returns-in-Ok-None : goal.returns-in-Ok-None
unfolding filled
returns-in-Ok-None c = search rules

pub returns-in-Err : goal.returns-in-Err
unfolding filled
returns-in-Err c = rw (c.in-Err.is, c.number.ensures)
