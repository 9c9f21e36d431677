use Rattle.lines.proofs.Writes.{Copying}
use Rattle.lines.proofs.put_bytes.Given as goal

abbrev pub invariant-loop-byte : goal.invariant-loop-byte
invariant-loop-byte l = Copying l.initial.out l.at l.bytes l.out l.p l.byte-index
