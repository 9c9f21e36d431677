-- `Sampler::accepts` meets its contract, by its one test. Assumes nothing.
use Rattle.sampler.proofs.Sampler.accepts.Goals as goal

pub returns-else-initial : goal.returns-else-initial
returns-else-initial c = rw c.if-initial.false
