use Rattle.recorded.proofs.Sequences.{Turns}
use Rattle.recorded.proofs.intervals.answer_sequence.Given as goal

abbrev pub invariant-loop-i : goal.invariant-loop-i
invariant-loop-i l = Turns l.given l.initial.out l.initial.state l.initial.rows l.out l.state l.rows l.i
