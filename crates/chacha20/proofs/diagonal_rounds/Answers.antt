-- `chacha20::diagonal_rounds` meets its contract. Assumes nothing.
use Rattle.chacha20.specs.Block.{diagonals}
use Rattle.chacha20.proofs.diagonal_rounds.Goals as goal

pub returns : goal.returns
unfolding diagonals
returns c = rw (c.quarter_at-4.ensures, c.quarter_at-3.ensures, c.quarter_at-2.ensures, c.quarter_at.ensures)
