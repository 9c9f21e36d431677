-- `coordinate_at` meets its contract: each branch is what its test selects. Assumes nothing.
use borrow.Author.Tests.{lt-ltb, le-ltb}
use lib.Ieee.{of_bits}
use Rattle.pointstore.proofs.coordinate_at.Goals as goal

pub returns-then-i-coordinates : goal.returns-then-i-coordinates
returns-then-i-coordinates c = rw (lt-ltb _ _ c.if-i-coordinates.true)

pub returns-else-i-coordinates : goal.returns-else-i-coordinates
unfolding of_bits
returns-else-i-coordinates c = rw (le-ltb _ _ c.if-i-coordinates.false)
