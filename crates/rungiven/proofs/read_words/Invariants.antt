use mathlib.Core.Path.{◌≡◌}
use Prim.Native.Nat.{ℕ, ◌+◌, ◌*◌}
use lib.Seq.{sets}
use Rattle.wholetree.specs.Whole.{tab}
use Rattle.runlayout.specs.Layout.{double}
use Rattle.rungiven.proofs.read_words.Given as goal

abbrev pub invariant-loop-i : goal.invariant-loop-i
invariant-loop-i l = l.words ≡ sets l.initial.words 0 (tab l.i (λ (j : ℕ). double l.run (l.from + 2 * j)))
