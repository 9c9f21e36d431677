-- Slots told one after another, and that they are the entries that they keep. Laws.
use mathlib.Core.Path.{◌≡◌, refl, ◌∙◌}
use mathlib.Core.List.{List, map}
use Prim.Native.Nat.{ℕ, zero, suc, ◌+◌, ◌*◌, ◌≤◌, ◌<◌}
use native.Mathlib.Numerals.{add-one}
use native.Mathlib.Omega.{arith}
use lib.ListN.{get_or, length-map, get_or-append, get_or-map}
use lib.Ieee.{Float, nan, binary32, to_bits}
use Rattle.little.specs.Little.{bytes32}
use Rattle.lines.specs.Lines.{Wrote}
use Rattle.lines.proofs.Writes.{then}
use Rattle.sampler.specs.Sample.{Entry, beyond, Slots}
use Rattle.sampler.proofs.Places.{weight_at}
use Rattle.recorded_samples.specs.Samples.{slots_to, entries_to}

-- THE FIRST k SLOTS
pub record Heaped (size : ℕ) (weights : List Float) (points lent out : List ℕ) (at p k : ℕ) : Type 0 where
  pub within : k ≤ size
  pub place : p ≡ at + 8 * k
  pub wrote : Wrote lent at (slots_to weights points k) p out

pub heaped_none : (size : ℕ) (weights : List Float) (points lent : List ℕ) (at : ℕ) → Heaped size weights points lent lent at at 0
unfolding slots_to
heaped_none size weights points lent at = record { within = omega arith; place = omega arith; wrote = record { next = omega arith; left = refl } }

pub heaped_next : {size : ℕ} {weights : List Float} {points lent out : List ℕ} {at p k : ℕ} → Heaped size weights points lent out at p k → k < size
    → {x y q r : ℕ} {m o : List ℕ} → x ≡ to_bits binary32 (get_or weights k nan) → y ≡ get_or points k 0
    → Wrote out p (bytes32 x) q m → Wrote m q (bytes32 y) r o → q ≡ p + 4 → r ≡ q + 4 → Heaped size weights points lent o at r (k + 1)
unfolding slots_to
heaped_next {size} {weights} {points} {lent} {out} {at} {p} {k} d h e f v w a b =
    record { within = omega arith; place = omega (arith, d.place); wrote = rw (add-one k) (then d.wrote (rw (e, f) at (then v w))) }

pub heaped_all : {size : ℕ} {weights : List Float} {points lent out : List ℕ} {at p k : ℕ} → Heaped size weights points lent out at p k → size ≤ k → Wrote lent at (slots_to weights points size) p out × (p ≡ at + 8 * size)
heaped_all {size} {weights} {points} {lent} {out} {at} {p} {k} d h = let z : k ≡ size = omega (arith, d.within) in (rw z at d.wrote, omega (arith, d.place))

-- THE ENTRIES
module _ {n : ℕ} {ks : List Entry} {ws : List Float} {ps : List ℕ} {weights : List Float} {points : List ℕ} (at : Slots n ks ws ps weights points) where
  pub point_at : (i : ℕ) → i < n → get_or points i 0 ≡ (get_or ks i beyond).index
  point_at i h =
      rw at.points_are
      (get_or-append (map (λ k. k.index) ks) ps 0 i (rw (length-map, at.size) h) ∙ get_or-map (λ k. k.index) ks i beyond)

  pub slots_told : (m : ℕ) → m ≤ n → slots_to weights points m ≡ entries_to ks m
  unfolding slots_to entries_to
  slots_told zero h = refl
  slots_told (suc m) h = rw (slots_told m (omega arith), weight_at at m (omega arith), point_at m (omega arith))
