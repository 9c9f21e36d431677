-- `chacha20::quarter_at` meets its contract. Assumes nothing.
use Rattle.chacha20.specs.Block.{quarter_at}
use Rattle.chacha20.proofs.quarter_at.Goals as goal

pub returns : goal.returns
unfolding quarter_at
returns c = rw c.quarter_round-q.ensures
