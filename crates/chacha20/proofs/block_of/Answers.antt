-- `chacha20::block_of` meets its contract. Assumes nothing.
use Rattle.chacha20.specs.Block.{block_of}
use Rattle.chacha20.proofs.block_of.Goals as goal

pub returns : goal.returns
unfolding block_of
returns c = rw (c.add_state.ensures, c.twenty_rounds.ensures)
