-- `chance_of` meets its contract: the chance at the fill. Assumes nothing.
use Rattle.recorded_samples.proofs.chance_of.Goals as goal

pub returns : goal.returns
returns c = rw c.get_fill_fraction.ensures at c.initial_accept_probability.ensures
