use native.Mathlib.Omega.{arith}
use Rattle.lines.proofs.Writes.{then}
use Rattle.recorded.proofs.words.put_double.Goals as goal

pub returns : goal.returns
returns c = record { wrote = then c.put_word-p.ensures.wrote c.put_word.ensures.wrote; next = omega arith }
