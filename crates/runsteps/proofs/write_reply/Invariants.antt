use mathlib.Core.Path.{◌≡◌}
use Prim.Native.Nat.{◌*◌}
use lib.ListN.{take}
use lib.Seq.{sets}
use Rattle.little.specs.Little.{bytes_of}
use Rattle.runsteps.proofs.write_reply.Given as goal

abbrev pub invariant-loop-i : goal.invariant-loop-i
invariant-loop-i l = l.answers ≡ sets l.initial.answers (4 * l.out) (bytes_of (take l.i l.reply))
