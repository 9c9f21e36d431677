-- `left_of` meets its contract, by whether something is evicted. Assumes nothing.
use lib.Ieee.{of_bits}
use Rattle.recorded_samples.proofs.left_of.Goals as goal

pub returns-in-None : goal.returns-in-None
unfolding of_bits
returns-in-None c = rw c.in-None.is

pub returns-in-Some : goal.returns-in-Some
returns-in-Some c = rw c.in-Some.is
