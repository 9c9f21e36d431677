-- `archivelines::put_evicted` meets its contract. Assumes nothing.
use native.Mathlib.Omega.{arith}
use Rattle.archivelines.specs.Answers.{evicted_line}
use Rattle.lines.proofs.Writes.{then}
use Rattle.archivelines.proofs.put_evicted.Goals as goal

pub returns : goal.returns
unfolding evicted_line
returns c = record { wrote = then (then (then (then c.put_bytes-p1.ensures c.put_field-p2.ensures.wrote) c.put_bytes-p3.ensures) c.put_field-p4.ensures.wrote) c.put_last.ensures.wrote; few = omega (arith, c.put_bytes-p1.ensures.next, c.put_field-p2.ensures.few, c.put_bytes-p3.ensures.next, c.put_field-p4.ensures.few, c.put_last.ensures.few) }
