use Rattle.recorded_samples.proofs.Heaps.{Heaped}
use Rattle.recorded_samples.proofs.put_heap.Given as goal

abbrev pub invariant-loop-k : goal.invariant-loop-k
invariant-loop-k l = Heaped l.size l.sample.weights l.sample.held l.initial.out l.out l.at l.p l.k
