-- An accepted arrival, any arrival, and an eviction. Laws.
use mathlib.Core.Path.{◌≡◌, refl, sym, ap, ◌∙◌}
use mathlib.Core.Bool.{Bool, true, false, ◌&&◌, ◌||◌, false≢true}
use mathlib.Core.List.{List, [], ◌∷◌}
use Prim.Native.Nat.{ℕ, suc, ◌+◌, ◌-◌, ◌≤◌, ◌<◌}
use native.Mathlib.Omega.{arith}
use borrow.Author.Tests.{eq-eqb, lt-ltb}
use lib.Dec.{eqb, ltb, ltb→lt}
use lib.ListN.{length, get_or, replicate}
use lib.Ieee.{Float, nan, lt}
use lib.Ieee.Bits.{is_true}
use lib.Ieee.Fits.{and_l, and_r}
use Rattle.limits.specs.Limits.{capacity_limit}
use Rattle.readings.specs.Number.{nought}
use Rattle.readings.proofs.Tests.{yes}
use Rattle.sampler.specs.declared.Sampler.{Sampler}
use Rattle.std.specs.Prelude.{Option}
use Rattle.sampler.specs.declared.Evicted.{Evicted}
use Rattle.sampler.specs.Heap.{pushed, popped}
use Rattle.sampler.specs.Sample.{Entry, above, beyond, Slots, evicted_of, Evicts, Accepts}
use Rattle.sampler.proofs.Places.{weight_at}
use Rattle.sampledtree.specs.Sampled.{Offer, passes, begins, evicts, offer, against}
use Rattle.recorded_samples.specs.declared.Arrived.{Arrived}
use Rattle.recorded_samples.specs.declared.Done.TheVariants.{Nothing, Start, Gone}
use Rattle.recorded_samples.specs.Samples.{Kept, is_initial, sized, left_of, Roomy, admitted_of, sample_admitted, done_of, sample_after, arrived_at, dropped, left_by, Does}
use Rattle.recorded_samples.proofs.Heaps.{point_at}

-- AN ACCEPTED ARRIVAL: what is left by its eviction, if any, and by its add
module _ (s : Sampler) (initial : Bool) {weights : List Float} {points : List ℕ} {weights₁ : List Float} {points₁ : List ℕ} {a : Option Evicted} {l : Arrived} (A : Accepts s initial a weights points weights₁ points₁) (L : l ≡ left_of s a) where
  left_started : initial ≡ true → l ≡ record { done = Start; sampler = s }
  left_started e = L ∙ ap (left_of s) (A.started e).0

  left_evicting : initial ≡ false → l ≡ record { done = Gone (get_or points 0 0) (get_or weights 0 nan); sampler = sized s (s.current_size - 1) }
  left_evicting e = L ∙ ap (left_of s) (A.evicting e).0

  pub room_left_lem : Roomy s initial → l.sampler.current_size < capacity_limit
  room_left_lem R = go initial refl
    where
      go : (b : Bool) → initial ≡ b → l.sampler.current_size < capacity_limit
      go true e = rw (left_started e) (R.room e)
      go false e = rw (left_evicting e) (omega (arith, R.entry e, R.within))

  pub admitted : Roomy s initial → {after : Sampler} → after ≡ sized l.sampler (l.sampler.current_size + 1)
      → record { done = l.done; sampler = after } ≡ admitted_of s initial weights points
  unfolding admitted_of
  admitted R {after} f = go initial refl
    where
      go : (b : Bool) → initial ≡ b → record { done = l.done; sampler = after } ≡ admitted_of s initial weights points
      go true e = rw (f, e, left_started e)
      go false e = let z : s.current_size - 1 + 1 ≡ s.current_size = omega (arith, R.entry e) in rw (f, e, left_evicting e, z)

  pub admitted_kept : Roomy s initial → (w : Float) (i : ℕ) {weights₂ : List Float} {points₂ : List ℕ}
      → ((ks : List Entry) (v : Float) (ws : List Float) (p : ℕ) (ps : List ℕ) → Slots l.sampler.current_size ks (v ∷ ws) (p ∷ ps) weights₁ points₁
      → Slots (l.sampler.current_size + 1) (pushed above beyond ks (record { weight = w; index = i })) ws ps weights₂ points₂)
      → {after : Sampler} → after ≡ sized l.sampler (l.sampler.current_size + 1)
      → (ks : List Entry) → Kept s.current_size ks weights points → Kept after.current_size (sample_admitted initial ks w i) weights₂ points₂
  unfolding sample_admitted
  admitted_kept R w i {weights₂} {points₂} add {after} f ks at = go initial refl
    where
      go : (b : Bool) → initial ≡ b → Kept after.current_size (sample_admitted initial ks w i) weights₂ points₂
      go true e =
          let z : capacity_limit - s.current_size ≡ suc (capacity_limit - (s.current_size + 1)) = omega (arith, R.room e) in
          let at₁ : Slots s.current_size ks (nought ∷ replicate (capacity_limit - (s.current_size + 1)) nought) (0 ∷ replicate (capacity_limit - (s.current_size + 1)) 0) weights₁ points₁ = rw ((A.started e).1, (A.started e).2) (rw z at at) in
          rw (f, e, left_started e) ((rw (left_started e) at add) ks nought _ 0 _ at₁)
      go false e =
          let z : s.current_size - 1 + 1 ≡ s.current_size = omega (arith, R.entry e) in
          rw (f, e, left_evicting e, z) (rw z at ((rw (left_evicting e) at add) _ nought _ 0 _ ((A.evicting e).1 ks _ _ at)))

-- an arrival that does not start, by whether it weighs less than the first entry
against_lower : (w : Float) (ks : List Entry) → 0 < length ks → lt w (get_or ks 0 beyond).weight ≡ true → against ks w ≡ evicts (get_or ks 0 beyond).index (popped above beyond ks)
against_lower w [] n h = absurd (omega arith)
against_lower w (k ∷ ks) n h = rw h

against_not : (w : Float) (ks : List Entry) → (0 < length ks → lt w (get_or ks 0 beyond).weight ≡ false) → against ks w ≡ passes
against_not w [] h = refl
against_not w (k ∷ ks) h = rw (h (omega arith))

-- ANY ARRIVAL: whether it is accepted is told by three tests
module _ (s : Sampler) (share : Float) (word : ℕ) (accepts : Bool) {initial holds : Bool} (I : initial ≡ is_initial s.current_size s.capacity share word) (H : holds ≡ ltb 0 s.current_size)
    (fits : s.current_size ≤ s.capacity) (room : s.capacity ≤ capacity_limit) where
  not_full : initial ≡ true → s.current_size < s.capacity
  not_full e = go (eqb s.current_size s.capacity) refl
    where
      go : (b : Bool) → eqb s.current_size s.capacity ≡ b → s.current_size < s.capacity
      go true f = absurd (false≢true (sym (rw f at I) ∙ e))
      go false f = let ne : s.current_size ≡ s.capacity → ⊥ = λ g. false≢true (sym f ∙ eq-eqb s.current_size s.capacity g) in omega arith

  pub roomy : ((initial || holds) && accepts) ≡ true → Roomy s initial
  roomy h = record {
    room = λ e. omega (arith, not_full e);
    entry = λ e. ltb→lt _ _ (rw (H, e) at (and_l (initial || holds) accepts (yes h)));
    within = omega arith;
  }

  module _ (w : Float) (i : ℕ) (ks : List Entry) {weights : List Float} {points : List ℕ} (at : Kept s.current_size ks weights points) (B : accepts ≡ (initial || lt w (get_or weights 0 nan))) where
    offer_begins : initial ≡ true → offer s.capacity share ks w word ≡ begins
    offer_begins e = rw (at.size, sym I ∙ e)

    offer_against : initial ≡ false → offer s.capacity share ks w word ≡ against ks w
    offer_against e = rw (at.size, sym I ∙ e)

    arrives : {r : Arrived} {weights' : List Float} {points' : List ℕ} (o : Offer) → offer s.capacity share ks w word ≡ o
        → r.done ≡ done_of ks o → r.sampler.capacity ≡ s.capacity → r.sampler.current_size ≤ s.capacity
        → Kept r.sampler.current_size (sample_after ks (record { weight = w; index = i }) o) weights' points'
        → Does s.capacity ks (offer s.capacity share ks w word) (arrived_at s.capacity share ks word w i) r weights' points'
    arrives o e a f g k = record { done_is = rw e a; capacity_is = f; fits = g; kept = rw e k }

    pub arrives_some : ((initial || holds) && accepts) ≡ true → {r : Arrived} {weights' : List Float} {points' : List ℕ} → r ≡ admitted_of s initial weights points
        → Kept r.sampler.current_size (sample_admitted initial ks w i) weights' points' → Does s.capacity ks (offer s.capacity share ks w word) (arrived_at s.capacity share ks word w i) r weights' points'
    unfolding admitted_of sample_admitted
    arrives_some h {r} {weights'} {points'} f k = go initial refl
      where
        go : (b : Bool) → initial ≡ b → Does s.capacity ks (offer s.capacity share ks w word) (arrived_at s.capacity share ks word w i) r weights' points'
        go true e = arrives begins (offer_begins e) (rw (f, e)) (rw (f, e)) (rw (f, e) (omega (arith, not_full e))) (rw e at k)
        go false e =
            let n : 0 < s.current_size = (roomy h).entry e in
            let lower : lt w (get_or ks 0 beyond).weight ≡ true = rw (← weight_at at 0 n) (rw (B, e) at (is_true accepts (and_r (initial || holds) accepts (yes h)))) in
            arrives (evicts (get_or ks 0 beyond).index (popped above beyond ks)) (offer_against e ∙ against_lower w ks (rw at.size n) lower)
            (rw (f, e, point_at at 0 n, weight_at at 0 n)) (rw (f, e)) (rw (f, e) fits) (rw e at k)

    pub arrives_none : ((initial || holds) && accepts) ≡ false → Does s.capacity ks (offer s.capacity share ks w word) (arrived_at s.capacity share ks word w i) (record { done = Nothing; sampler = s }) weights points
    arrives_none h = go initial refl
      where
        go : (b : Bool) → initial ≡ b → Does s.capacity ks (offer s.capacity share ks w word) (arrived_at s.capacity share ks word w i) (record { done = Nothing; sampler = s }) weights points
        go true e = absurd (false≢true (sym h ∙ (rw (B, e))))
        go false e =
            let lower : 0 < length ks → lt w (get_or ks 0 beyond).weight ≡ false = λ n. let l : 0 < s.current_size = rw (← at.size) n in rw (← weight_at at 0 l) (rw (B, H, lt-ltb 0 s.current_size l, e) at h) in
            arrives passes (offer_against e ∙ against_not w ks lower) refl refl fits at

-- AN EVICTION by itself, by whether there is an entry
module _ (s : Sampler) (fits : s.current_size ≤ s.capacity) (room : s.capacity ≤ capacity_limit) {weights : List Float} {points : List ℕ} where
  pub evicts_none : s.current_size ≡ 0 → (ks : List Entry) → Kept s.current_size ks weights points
      → Does s.capacity ks (dropped ks) (left_by ks (dropped ks)) (record { done = Nothing; sampler = s }) weights points
  evicts_none e [] at = record { done_is = refl; capacity_is = refl; fits = fits; kept = at }
  evicts_none e (k ∷ ks) at = absurd (omega (arith, at.size))

  pub evicts_some : (s.current_size ≡ 0 → ⊥) → {e : Evicted} {weights' : List Float} {points' : List ℕ} → e ≡ evicted_of s weights points → Evicts s.current_size weights points weights' points'
      → (ks : List Entry) → Kept s.current_size ks weights points
      → Does s.capacity ks (dropped ks) (left_by ks (dropped ks)) (record { done = Gone e.index e.weight; sampler = e.sampler }) weights' points'
  evicts_some n f E [] at = absurd (omega (arith, at.size))
  evicts_some n f E (k ∷ ks) at =
      let m : 0 < s.current_size = omega arith in
      let z : capacity_limit - (s.current_size - 1) ≡ suc (capacity_limit - s.current_size) = omega arith in
      record {
        done_is = rw (f, point_at at 0 m, weight_at at 0 m);
        capacity_is = rw f;
        fits = rw f (omega arith);
        kept = rw (f, z) (E (k ∷ ks) _ _ at);
      }
