-- `arrivals::write_sample` meets its contract. Assumes nothing.
use Rattle.arrivals.proofs.Sample.{sample_written}
use Rattle.arrivals.proofs.write_sample.Goals as goal

pub returns : goal.returns
returns c = let s = c.args in
    sample_written s.tree s.sample.now.weights s.sample.now.held s.answers.now _ _ s.out _ _ c.wide16.ensures.0 c.wide16-2.ensures.0 c.put_two.ensures c.write_slots.ensures
