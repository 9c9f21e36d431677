use mathlib.Core.Path.{◌≡◌}
use lib.Ieee.{Float}
use Rattle.boundingbox.proofs.Joined.{written}
use Rattle.boundingbox.proofs.moved.Given as goal

abbrev pub invariant-loop-i : goal.invariant-loop-i
invariant-loop-i g l = (f : Float → Float → Float) → ((x y r : Float) → goal.F-post g l.pick x y r → r ≡ f x y) → l.ends ≡ written f l.initial.ends l.values l.i
