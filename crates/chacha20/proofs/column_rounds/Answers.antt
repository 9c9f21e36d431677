-- `chacha20::column_rounds` meets its contract. Assumes nothing.
use Rattle.chacha20.specs.Block.{columns}
use Rattle.chacha20.proofs.column_rounds.Goals as goal

pub returns : goal.returns
unfolding columns
returns c = rw (c.quarter_at-4.ensures, c.quarter_at-3.ensures, c.quarter_at-2.ensures, c.quarter_at.ensures)
