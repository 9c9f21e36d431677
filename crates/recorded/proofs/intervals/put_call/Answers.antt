-- `put_call` meets its contract: two pairs, one after the other. Assumes nothing.
use mathlib.Core.Path.{refl}
use native.Mathlib.Omega.{arith}
use Rattle.lines.proofs.Writes.{then}
use Rattle.recorded.proofs.intervals.put_call.Goals as goal

pub returns : goal.returns
returns c = record {
  manager_is = refl;
  wrote = then c.put_pair-p.ensures.wrote (rw c.top_of.ensures at c.put_pair.ensures.wrote);
  next = omega arith;
}
