-- `put_three` meets its contract: three words, one after another. Assumes nothing.
use native.Mathlib.Omega.{arith}
use Rattle.lines.proofs.Writes.{then}
use Rattle.recorded.proofs.cuts.put_three.Goals as goal

pub returns : goal.returns
returns c = record { wrote = then (then c.put_word-p.ensures.wrote c.put_word-q.ensures.wrote) c.put_word.ensures.wrote; next = omega arith }
