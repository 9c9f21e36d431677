-- `after_release` meets its contract, by what the call gave. Assumes nothing.
use Rattle.recorded.proofs.intervals.after_release.Goals as goal

pub returns-in-Some : goal.returns-in-Some
returns-in-Some c = rw c.in-Some.is

pub returns-in-None : goal.returns-in-None
returns-in-None c = rw c.in-None.is
