use mathlib.Core.Path.{◌≡◌}
use lib.ListN.{length, take}
use Rattle.text.specs.Pieces.{pieces}
use Rattle.rfc8439.specs.Vectors.{holding}
use Rattle.rfc8439.proofs.count.Given as goal

-- the pieces so far are counted, and those of them that hold
abbrev pub invariant-loop-line : goal.invariant-loop-line
invariant-loop-line l = (l.pieces ≡ length l.yielded) × (l.held ≡ holding (take (length l.yielded) (pieces 10 l.text)))
