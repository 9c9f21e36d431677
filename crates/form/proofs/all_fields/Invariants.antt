use Rattle.std.proofs.Common.{length, ◌+◌, ◌-◌}
use Rattle.std.specs.Fn.{FnReturnsAt}
use Rattle.form.proofs.Fields.{Testing}
use Rattle.form.proofs.all_fields.Given as goal

abbrev pub invariant-loop-at : goal.invariant-loop-at
invariant-loop-at g l = Testing (FnReturnsAt g.F.Fn l.fn.test) l.row l.start l.at

abbrev pub decreases-loop-at : goal.decreases-loop-at
decreases-loop-at g l = length l.row + 1 - l.at
