-- The sample's arrays when an entry is added, and when the first is evicted. Assumes nothing.
use mathlib.Core.Path.{◌≡◌, refl, sym, ap, ◌∙◌}
use mathlib.Core.List.{List, ◌∷◌, ◌++◌, map}
use Prim.Native.Nat.{ℕ, suc, ◌+◌, ◌-◌, ◌≤◌, ◌<◌}
use native.Mathlib.Omega.{arith}
use lib.ListN.{length, replicate}
use lib.Ieee.{Float}
use Rattle.limits.specs.Limits.{capacity_limit}
use Rattle.readings.specs.Number.{nought}
use Rattle.sampler.specs.Heap.{pushed, popped}
use Rattle.sampler.specs.Sample.{Entry, above, beyond, Slots, Evicts}
use Rattle.samplerplustree.specs.State.{weights_of, held_of}

-- what `add_point` promises of the slots
abbrev pub Pushes : ℕ → Entry → List Float → List ℕ → List Float → List ℕ → Type 0
Pushes n k weights points weights' points' =
    (ks : List Entry) (w : Float) (ws : List Float) (p : ℕ) (ps : List ℕ) → Slots n ks (w ∷ ws) (p ∷ ps) weights points → Slots (n + 1) (pushed above beyond ks k) ws ps weights' points'

-- zeros in every slot beyond
abbrev Zeroed : ℕ → List Entry → List Float → List ℕ → Type 0
Zeroed n ks weights held = Slots n ks (replicate (capacity_limit - n) nought) (replicate (capacity_limit - n) 0) weights held

sample_of : (n : ℕ) (ks : List Entry) (weights : List Float) (held : List ℕ) → Zeroed n ks weights held → (weights ≡ weights_of ks) × (held ≡ held_of ks)
sample_of n ks weights held S = (
  S.weights_are ∙ ap (λ (m : ℕ). map (λ (k : Entry). k.weight) ks ++ replicate (capacity_limit - m) nought) (sym S.size),
  S.points_are ∙ ap (λ (m : ℕ). map (λ (k : Entry). k.index) ks ++ replicate (capacity_limit - m) 0) (sym S.size),
)

one_off : {A : Type 0} (z : A) (n : ℕ) → n < capacity_limit → replicate (capacity_limit - n) z ≡ z ∷ replicate (capacity_limit - (n + 1)) z
one_off z n l = let e : capacity_limit - n ≡ suc (capacity_limit - (n + 1)) = omega arith in ap (λ (m : ℕ). replicate m z) e

module _ (ks : List Entry) (weights : List Float) (held : List ℕ) (f : weights ≡ weights_of ks) (g : held ≡ held_of ks) (weights' : List Float) (held' : List ℕ) where
  pub one_more : (k : Entry) → length ks < capacity_limit → Pushes (length ks) k weights held weights' held'
      → (weights' ≡ weights_of (pushed above beyond ks k)) × (held' ≡ held_of (pushed above beyond ks k))
  one_more k l P = sample_of (length ks + 1) (pushed above beyond ks k) weights' held' (P ks nought _ 0 _ (record {
    size = refl;
    weights_are = f ∙ ap (λ (r : List Float). map (λ (y : Entry). y.weight) ks ++ r) (one_off nought (length ks) l);
    points_are = g ∙ ap (λ (r : List ℕ). map (λ (y : Entry). y.index) ks ++ r) (one_off 0 (length ks) l);
  }))

  pub one_less : 0 < length ks → length ks ≤ capacity_limit → Evicts (length ks) weights held weights' held' → (weights' ≡ weights_of (popped above beyond ks)) × (held' ≡ held_of (popped above beyond ks))
  one_less l m E =
      let n : length ks - 1 + 1 ≡ length ks = omega arith in
      let L = E ks _ _ (record { size = refl; weights_are = f; points_are = g }) in
      sample_of (length ks - 1) (popped above beyond ks) weights' held' (record {
        size = L.size;
        weights_are = L.weights_are ∙ ap (λ (r : List Float). map (λ (y : Entry). y.weight) (popped above beyond ks) ++ r) (sym (one_off nought (length ks - 1) (omega arith) ∙ ap (λ (j : ℕ). nought ∷ replicate (capacity_limit - j) nought) n));
        points_are = L.points_are ∙ ap (λ (r : List ℕ). map (λ (y : Entry). y.index) (popped above beyond ks) ++ r) (sym (one_off 0 (length ks - 1) (omega arith) ∙ ap (λ (j : ℕ). 0 ∷ replicate (capacity_limit - j) 0) n));
      })
