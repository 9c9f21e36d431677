-- `evict` meets its contract, by whether there is an entry. Assumes nothing.
use lib.Ieee.{of_bits}
use Rattle.recorded_samples.proofs.Arrivals.{evicts_none, evicts_some}
use Rattle.recorded_samples.proofs.evict.Goals as goal

pub returns-then-sampler-eq0 : goal.returns-then-sampler-eq0
unfolding of_bits
returns-then-sampler-eq0 c = λ ks at. evicts_none _ c.requires.0 c.requires.1 c.if-sampler-eq0.true ks at

pub returns : goal.returns
returns c = λ ks at. evicts_some _ c.requires.0 c.requires.1 c.if-sampler-eq0.false c.evict_max-evicted.ensures.answer c.evict_max-evicted.ensures.slots ks at
