use mathlib.Core.Path.{◌≡◌}
use Prim.Native.Nat.{ℕ, ◌+◌, ◌*◌, ◌≤◌, ◌<◌}
use Rattle.limits.specs.Limits.{width}
use Rattle.boundingbox.specs.Wholes.{sum_to}
use Rattle.boundingbox.proofs.sum_of.Given as goal

abbrev pub invariant-loop-i : goal.invariant-loop-i
invariant-loop-i g l = record {
  few : l.sum ≤ 2097152 * l.i;
  grows : (f : ℕ → ℕ) → ((i r : ℕ) → i < width → goal.F-post g l.of i r → r ≡ f i) → sum_to f l.from + l.sum ≡ sum_to f (l.from + l.i);
}
