-- `chacha20::chacha20_block` meets its contract. Assumes nothing.
use Rattle.chacha20.specs.Block.{chacha20_block}
use Rattle.chacha20.proofs.chacha20_block.Goals as goal

pub returns : goal.returns
unfolding chacha20_block
returns c = rw (c.put_each.ensures, c.block_of.ensures, c.state_of-state.ensures)
