-- `put_refused` meets its contract: its line part after part. Assumes nothing.
use native.Mathlib.Omega.{arith}
use Rattle.lines.specs.Lines.{refused_line}
use Rattle.lines.proofs.Writes.{then}
use Rattle.lines.proofs.put_refused.Goals as goal

pub returns : goal.returns
unfolding refused_line
returns c = record { wrote = then (then c.put_bytes-p.ensures c.put_field-q.ensures.wrote) c.put_last.ensures.wrote; few = omega arith }
