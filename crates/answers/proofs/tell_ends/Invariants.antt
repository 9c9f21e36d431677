use mathlib.Core.Path.{◌≡◌}
use Prim.Native.Nat.{ℕ, min}
use lib.Ieee.{binary32, to_bits}
use Rattle.limits.specs.Limits.{width}
use Rattle.boundingbox.specs.Ends.{channel}
use Rattle.answers.proofs.Told.{Told}
use Rattle.answers.proofs.tell_ends.Given as goal

abbrev pub invariant-loop-i : goal.invariant-loop-i
invariant-loop-i l = (l.d ≡ min l.dimensions width) × Told 0 (λ (j : ℕ). to_bits binary32 (channel l.low j)) (λ (j : ℕ). to_bits binary32 (channel l.high j)) l.d l.i l.reply
