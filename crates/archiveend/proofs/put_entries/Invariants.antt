use Rattle.archiveend.proofs.Entries.{Putting}
use Rattle.archiveend.proofs.put_entries.Given as goal

abbrev pub invariant-loop-i : goal.invariant-loop-i
invariant-loop-i l = Putting l.sample.weights l.sample.held l.n l.initial.out l.at l.i l.p l.out
