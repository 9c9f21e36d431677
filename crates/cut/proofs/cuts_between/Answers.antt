-- `cuts_between` meets its contract: each branch is what its test selects. Assumes nothing.
use Rattle.cut.proofs.cuts_between.Goals as goal

pub returns-then-from-cut : goal.returns-then-from-cut
returns-then-from-cut c = rw c.if-from-cut.true

pub returns-else-from-cut : goal.returns-else-from-cut
returns-else-from-cut c = rw c.if-from-cut.false
