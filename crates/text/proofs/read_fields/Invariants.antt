use Rattle.std.proofs.Common.{length, ◌+◌, ◌-◌}
use Rattle.std.specs.Fn.{FnReturnsAt}
use Rattle.text.proofs.Stores.{Storing}
use Rattle.text.proofs.read_fields.Given as goal

abbrev pub invariant-loop-at : goal.invariant-loop-at
invariant-loop-at g l = Storing (FnReturnsAt g.F.Fn l.fn.read) l.row l.start l.initial.values l.values l.at l.n

abbrev pub decreases-loop-at : goal.decreases-loop-at
decreases-loop-at g l = length l.row + 1 - l.at
