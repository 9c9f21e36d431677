use Rattle.recorded.proofs.Values.{Valued}
use Rattle.recorded.proofs.floats.answer_floats.Given as goal

abbrev pub invariant-loop-i : goal.invariant-loop-i
invariant-loop-i l = Valued l.kind l.given l.initial.out l.out l.p l.i
