use Rattle.recorded_samples.proofs.Samples.{Sequenced}
use Rattle.recorded_samples.proofs.answer_sample.Given as goal

abbrev pub invariant-loop-i : goal.invariant-loop-i
invariant-loop-i l = Sequenced l.given l.initial.out l.out l.state l.sample.weights l.sample.held l.i
