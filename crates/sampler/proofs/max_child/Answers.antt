-- `sampler::max_child` meets its contract: each way out is the case of `heavier` that its test shows. Assumes nothing.
use mathlib.Core.Path.{◌≡◌}
use mathlib.Core.Bool.{Bool, true, false, cond}
use mathlib.Core.List.{List}
use Prim.Native.Nat.{ℕ, ◌+◌, ◌*◌, ◌≤◌}
use native.Mathlib.Omega.{arith}
use lib.ListN.{get_or}
use lib.Ieee.{Float, nan, lt}
use borrow.Author.Tests.{lt-ltb, le-ltb}
use Rattle.sampler.specs.Heap.{heavier}
use Rattle.sampler.proofs.Places.{weight_at}
use Rattle.sampler.proofs.max_child.Goals as goal

-- whether the right child weighs more
abbrev tests : List Float → ℕ → Bool
tests weights i = lt (get_or weights (2 * i + 1) nan) (get_or weights (2 * i + 1 + 1) nan)

-- the number that is added for the test's answer b
added : (b : Bool) (left m : ℕ) → m ≡ cond b 1 0 → (m ≤ 1) × (left + m ≡ cond b (left + 1) left)
added true left m e = (omega arith, omega arith)
added false left m e = (omega arith, omega arith)

pub overflow_add-result : goal.overflow_add-result
overflow_add-result c = let a = c.args in
    omega (arith, (added (tests a.weights.now a.current) 0 _ c.more.ensures).0)

pub returns-then-left-size : goal.returns-then-left-size
unfolding heavier
returns-then-left-size c = let a = c.args in
    let left = 2 * a.current + 1 in
    let right = 2 * a.current + 2 in
    let next : left + 1 ≡ right = omega arith in
    let m = added (tests a.weights.now a.current) left _ c.more.ensures in
    record { range = (omega arith, omega (arith, m.0)); is = λ ks ws ps points at. rw (at.size, lt-ltb right a.size (omega arith), ← weight_at at right (omega arith), ← weight_at at left (omega arith), ← next) m.1 }

pub returns : goal.returns
unfolding heavier
returns c = let a = c.args in
    record { range = (omega arith, omega arith); is = λ ks ws ps points at. rw (at.size, le-ltb (2 * a.current + 2) a.size (omega (arith, c.if-left-size.false))) }
