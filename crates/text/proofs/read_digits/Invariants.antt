use Rattle.text.proofs.Numbers.{Digits}
use Rattle.text.proofs.read_digits.Given as goal

abbrev pub invariant-loop-byte : goal.invariant-loop-byte
invariant-loop-byte l = Digits l.base l.field l.v l.byte-index
