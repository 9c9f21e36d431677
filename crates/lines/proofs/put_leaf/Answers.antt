-- `put_leaf` meets its contract: a leaf's line part after part. Assumes nothing.
use native.Mathlib.Omega.{arith}
use Rattle.lines.specs.Lines.{leaf_line}
use Rattle.lines.proofs.Writes.{then}
use Rattle.lines.proofs.put_leaf.Goals as goal

pub returns : goal.returns
unfolding leaf_line
returns c = record { wrote = then (then c.put_field-p.ensures.wrote c.put_bytes-q.ensures) c.put_last.ensures.wrote; few = omega arith }
