-- `put_last` meets its contract. Assumes nothing.
use native.Mathlib.Omega.{arith}
use Rattle.lines.proofs.Writes.{then}
use Rattle.lines.proofs.Placed.{as_written}
use Rattle.lines.proofs.put_last.Goals as goal

pub returns : goal.returns
returns c = record { wrote = then (as_written _ _ _ _ _ c.put_decimal-count.ensures.placed) c.put_byte.ensures; few = omega arith }
