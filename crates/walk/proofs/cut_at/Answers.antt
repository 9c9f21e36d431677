-- `cut_at` meets its contract. Assumes nothing.
use Rattle.walk.proofs.cut_at.Goals as goal

pub returns : goal.returns
returns c = rw c.wide16.ensures.0
