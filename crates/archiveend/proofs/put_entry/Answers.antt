-- `archiveend::put_entry` meets its contract. Assumes nothing.
use native.Mathlib.Omega.{arith}
use Rattle.lines.proofs.Writes.{then}
use Rattle.archiveend.specs.End.{entry_line}
use Rattle.archiveend.proofs.put_entry.Goals as goal

pub returns : goal.returns
unfolding entry_line
returns c = record { wrote = then (then c.put_hex-p.ensures.wrote c.put_bytes-q.ensures) c.put_last.ensures.wrote; few = omega arith }
