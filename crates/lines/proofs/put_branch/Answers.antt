-- `put_branch` meets its contract: a branch's line part after part. Assumes nothing.
use native.Mathlib.Omega.{arith}
use Rattle.lines.specs.Lines.{branch_line}
use Rattle.lines.proofs.Writes.{then}
use Rattle.lines.proofs.put_branch.Goals as goal

pub returns : goal.returns
unfolding branch_line
returns c = record { wrote = then (then (then (then (then (then c.put_field-p1.ensures.wrote c.put_field-p2.ensures.wrote) c.put_hex-p3.ensures.wrote) c.put_byte-p4.ensures) c.put_field-p5.ensures.wrote) c.put_field-p6.ensures.wrote) c.put_last.ensures.wrote; few = omega arith }
