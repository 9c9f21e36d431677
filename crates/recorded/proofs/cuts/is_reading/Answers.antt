-- `is_reading` meets its contract: the four tests joined. Assumes nothing.
use Rattle.recorded.proofs.cuts.is_reading.Goals as goal

pub returns : goal.returns
returns c = rw (c.is_coordinate-lower.ensures, c.is_coordinate-upper.ensures, c.is_coordinate-inner.ensures)
