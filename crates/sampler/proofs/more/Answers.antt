-- `more` meets its contract: each branch is what its test selects. Assumes nothing.
use Rattle.sampler.proofs.more.Goals as goal

pub returns-then-left-right : goal.returns-then-left-right
returns-then-left-right c = rw c.if-left-right.true

pub returns-else-left-right : goal.returns-else-left-right
returns-else-left-right c = rw c.if-left-right.false
