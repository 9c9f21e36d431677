-- `archivelines::put_report_row` meets its contract. Assumes nothing.
use native.Mathlib.Omega.{arith}
use Rattle.lines.proofs.Writes.{then}
use Rattle.archivelines.proofs.Answers.{row_written}
use Rattle.archivelines.proofs.put_report_row.Goals as goal

pub returns : goal.returns
returns c = record { wrote = row_written _ c.wide64.ensures c.wide64-2.ensures c.wide64-3.ensures c.wide64-4.ensures (then (then (then (then (then c.put_bytes-p1.ensures c.put_field-p2.ensures.wrote) c.put_field-p3.ensures.wrote) c.put_field-p4.ensures.wrote) c.put_hex-p5.ensures.wrote) c.put_bytes.ensures); few = omega (arith, c.put_bytes-p1.ensures.next, c.put_field-p2.ensures.few, c.put_field-p3.ensures.few, c.put_field-p4.ensures.few, c.put_hex-p5.ensures.few, c.put_bytes.ensures.next) }
