use mathlib.Core.Path.{◌≡◌}
use Prim.Native.Nat.{ℕ, ◌+◌}
use lib.Seq.{sets}
use lib.Ieee.{binary32, of_bits}
use Rattle.wholetree.specs.Whole.{tab}
use Rattle.runlayout.specs.Layout.{number}
use Rattle.rungiven.proofs.read_coordinates.Given as goal

abbrev pub invariant-loop-i : goal.invariant-loop-i
invariant-loop-i l = l.coordinates ≡ sets l.initial.coordinates 0 (tab l.i (λ (j : ℕ). of_bits binary32 (number l.run (l.from + j))))
