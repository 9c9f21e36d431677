-- `archivelines::put_kept` meets its contract. Assumes nothing.
use native.Mathlib.Omega.{arith}
use Rattle.archivelines.specs.Answers.{kept_line}
use Rattle.lines.proofs.Writes.{then}
use Rattle.archivelines.proofs.put_kept.Goals as goal

pub returns : goal.returns
unfolding kept_line
returns c = record { wrote = then (then c.put_bytes-p.ensures c.put_field-q.ensures.wrote) c.put_last.ensures.wrote; few = omega (arith, c.put_bytes-p.ensures.next, c.put_field-q.ensures.few, c.put_last.ensures.few) }
