-- `archivelines::put_passed` meets its contract. Assumes nothing.
use native.Mathlib.Omega.{arith}
use Rattle.archivelines.specs.Answers.{passed_line}
use Rattle.lines.proofs.Writes.{then}
use Rattle.archivelines.proofs.put_passed.Goals as goal

pub returns : goal.returns
unfolding passed_line
returns c = record { wrote = then c.put_bytes-p.ensures c.put_last.ensures.wrote; few = omega (arith, c.put_bytes-p.ensures.next, c.put_last.ensures.few) }
