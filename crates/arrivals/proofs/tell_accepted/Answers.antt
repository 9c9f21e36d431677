-- `arrivals::tell_accepted` meets its contract. Assumes nothing.
use Rattle.answers.specs.Said.{filled}
use Rattle.arrivals.proofs.tell_accepted.Goals as goal

pub returns-in-None : goal.returns-in-None
unfolding filled
returns-in-None c = rw c.in-None.is

pub returns-in-Some : goal.returns-in-Some
unfolding filled
returns-in-Some c = rw c.in-Some.is
