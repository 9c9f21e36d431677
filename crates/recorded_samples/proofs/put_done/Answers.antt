-- `put_done` meets its contract: a pair, two words and a double, one after another. Assumes nothing.
use native.Mathlib.Omega.{arith}
use Rattle.lines.proofs.Writes.{then}
use Rattle.recorded_samples.proofs.put_done.Goals as goal

pub returns : goal.returns
returns c = record {
  wrote = then (then (then c.put_pair-p.ensures.wrote (rw c.wide16.ensures.0 at c.put_word-q.ensures.wrote)) (rw (c.wide32.ensures.0, c.pattern_of.ensures) at c.put_word-s.ensures.wrote)) (rw (c.wide64.ensures, c.pattern_of_double.ensures) at c.put_double.ensures.wrote);
  next = omega arith;
}
