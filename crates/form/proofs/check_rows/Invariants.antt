use Rattle.std.proofs.Common.{length, ◌-◌}
use Rattle.form.proofs.Lines.{Counting}
use Rattle.form.proofs.check_rows.Given as goal

abbrev pub invariant-loop-start : goal.invariant-loop-start
invariant-loop-start l = Counting l.bytes l.start l.at l.n

abbrev pub decreases-loop-start : goal.decreases-loop-start
decreases-loop-start l = length l.bytes - l.at
