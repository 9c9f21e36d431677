-- `chacha20::state_of` meets its contract. Assumes nothing.
use Rattle.chacha20.proofs.state_of.Goals as goal

pub returns : goal.returns
returns c = rw (c.u32_at-11.ensures, c.u32_at-10.ensures, c.u32_at-9.ensures, c.u32_at-8.ensures, c.u32_at-7.ensures, c.u32_at-6.ensures, c.u32_at-5.ensures, c.u32_at-4.ensures, c.u32_at-3.ensures, c.u32_at-2.ensures, c.u32_at.ensures)
