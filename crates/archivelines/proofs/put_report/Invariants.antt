use Rattle.archivelines.proofs.Answers.{Writing}
use Rattle.archivelines.proofs.put_report.Given as goal

abbrev pub invariant-loop-i : goal.invariant-loop-i
invariant-loop-i l = Writing l.initial.out l.at l.rows l.n l.out l.p l.i
