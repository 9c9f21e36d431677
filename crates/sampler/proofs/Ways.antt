-- An entry's way as a loop takes it, a step at a turn. Assumes nothing.
use mathlib.Core.Path.{◌≡◌, refl}
use mathlib.Core.Bool.{Bool, true, false}
use mathlib.Core.List.{List}
use Prim.Native.Nat.{ℕ, zero, suc, ◌≤◌, ◌<◌}
use native.Mathlib.Omega.{arith}
use lib.Ieee.{Float, nan}
use Rattle.sampler.specs.Heap.{swapped, moved}
use Rattle.sampler.specs.Sample.{Entry, beyond, Slots}
use Rattle.sampler.proofs.Places.{slots_swapped}

module _ (goes : List Entry → ℕ → Bool) (to : List Entry → ℕ → ℕ) where
  still : (n : ℕ) (xs : List Entry) (i : ℕ) → goes xs i ≡ false → moved beyond goes to n xs i ≡ xs
  unfolding moved
  still zero xs i h = refl
  still (suc n) xs i h = rw h

  -- The loop at place i: the slots keep entries of which the steps that are left make `result`. From there at most `far i` are left.
  pub record OnWay (far : ℕ → ℕ) (n : ℕ) (result : List Entry) (ws : List Float) (ps : List ℕ) (weights : List Float) (points : List ℕ) (i : ℕ) : Type 0 where
    pub left : ℕ
    pub entries : List Entry
    pub slots : Slots n entries ws ps weights points
    pub enough : far i ≤ left
    pub same : moved beyond goes to left entries i ≡ result

  module _ {far : ℕ → ℕ} {n : ℕ} {result : List Entry} {ws : List Float} {ps : List ℕ} {weights : List Float} {points : List ℕ} {i : ℕ} (w : OnWay far n result ws ps weights points i) where
    pub way_ends : goes w.entries i ≡ false → Slots n result ws ps weights points
    way_ends h = rw (← w.same, still w.left w.entries i h) w.slots

    pub way_goes : (j : ℕ) → i < n → j < n → far j < far i → goes w.entries i ≡ true → to w.entries i ≡ j
        → OnWay far n result ws ps (swapped nan weights i j) (swapped 0 points i j) j
    unfolding moved
    way_goes j h l less g t = go w.left w.enough w.same
      where
        go : (s : ℕ) → far i ≤ s → moved beyond goes to s w.entries i ≡ result → OnWay far n result ws ps (swapped nan weights i j) (swapped 0 points i j) j
        go zero e m = absurd (omega arith)
        go (suc s) e m =
            record { left = s; entries = swapped beyond w.entries i j; slots = slots_swapped w.slots i j h l; enough = omega arith; same = rw (g, t) at m }
