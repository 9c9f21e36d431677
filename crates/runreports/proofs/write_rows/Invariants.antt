use mathlib.Core.Path.{◌≡◌}
use Prim.Native.Nat.{◌*◌}
use lib.Seq.{sets}
use Rattle.little.specs.Little.{bytes_of}
use Rattle.runreports.specs.Written.{lent_numbers}
use Rattle.runreports.proofs.Rows.{up_to}
use Rattle.runreports.proofs.write_rows.Given as goal

abbrev pub invariant-loop-i : goal.invariant-loop-i
invariant-loop-i l = l.answers ≡ sets l.initial.answers (4 * l.out) (bytes_of (lent_numbers (up_to l.i l.rows)))
