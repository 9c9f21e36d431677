-- `is_initial` meets its contract, by its two tests. Assumes nothing.
use Rattle.recorded_samples.proofs.is_initial.Goals as goal

pub returns : goal.returns
returns c = rw (c.is_full-full.ensures, c.starts-starts.ensures)
