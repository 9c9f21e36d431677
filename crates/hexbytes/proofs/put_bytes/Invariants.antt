use lib.ListN.{length}
use Rattle.hexbytes.proofs.Digits.{Reading}
use Rattle.hexbytes.proofs.put_bytes.Given as goal

abbrev pub invariant-loop-i : goal.invariant-loop-i
invariant-loop-i l = Reading l.field (length l.initial.bytes) l.bytes l.i
