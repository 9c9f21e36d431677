-- One item more of a sequence, and a whole sequence. Laws.
use mathlib.Core.Path.{◌≡◌, refl, ◌∙◌}
use mathlib.Core.List.{List}
use Prim.Native.Nat.{ℕ, suc, ◌+◌, ◌-◌, ◌*◌, ◌/◌, ◌≤◌, ◌<◌}
use native.Mathlib.Omega.{arith}
use borrow.Author.Tests.{eq-eqb, ne_eqb, lt-ltb, le-ltb}
use lib.ListN.{length, replicate}
use lib.Ieee.{Float}
use Rattle.limits.specs.Limits.{capacity_limit}
use Rattle.readings.specs.Number.{nought}
use Rattle.lines.specs.Lines.{Wrote}
use Rattle.lines.proofs.Writes.{then}
use Rattle.recorded.proofs.Stores.{nothing}
use Rattle.sampler.specs.declared.Sampler.{Sampler}
use Rattle.sampler.specs.Sample.{Entry}
use Rattle.sampledtree.specs.Sampled.{Offer, offer}
use Rattle.recorded_samples.specs.declared.Arrived.{Arrived}
use Rattle.recorded_samples.specs.declared.Reached.{Reached}
use Rattle.recorded_samples.specs.Samples.{item_bytes, looking, evicting, most_bytes, Kept, chance_at, arrived_at, dropped, left_by, Does, told_done, slots_to, told_next, sample_next, Told, Turned, share_given, capacity_given, word_of, weight_of, index_of, after, sample_answer}
use Rattle.recorded_samples.proofs.Heaps.{slots_told}

-- TURNS
module _ (s : Sampler) (share : Float) (ks : List Entry) (word : ℕ) (w : Float) (i : ℕ) {at : ℕ} {lent out : List ℕ} {weights : List Float} {points : List ℕ}
    (fits : s.current_size ≤ s.capacity) (room : s.capacity ≤ capacity_limit) (held : Kept s.current_size ks weights points) where
  pub turn_look : i ≡ looking → {n p : ℕ} → n ≡ s.current_size → Wrote lent at (slots_to weights points n) p out × (p ≡ at + 8 * n)
      → Turned s.capacity share ks word w i at lent (record { sampler = s; place = p }) weights points out
  unfolding told_next sample_next
  turn_look h {n} {p} e v = record {
    capacity_is = refl;
    fits = fits;
    kept = rw (eq-eqb i looking h) held;
    wrote = rw (eq-eqb i looking h, held.size) (rw (e, slots_told held s.current_size (omega arith)) at v.0);
    few = omega (arith, v.1);
  }

  -- what is done and told, whatever the item's answer and the sample after it are
  turn_done : {o : Offer} {ls : List Entry} → told_next s.capacity share ks word w i ≡ told_done ks o ls (chance_at (length ks) s.capacity share) → sample_next s.capacity share ks word w i ≡ ls
      → {chance : Float} {a : Arrived} {t : Reached} {weights' : List Float} {points' : List ℕ} → chance ≡ chance_at s.current_size s.capacity share
      → Does s.capacity ks o ls a weights' points' → Told a chance at lent t out → Turned s.capacity share ks word w i at lent t weights' points' out
  turn_done f g {chance} {a} {t} e A T =
      let c : chance ≡ chance_at (length ks) s.capacity share = rw held.size e in
      record {
        capacity_is = rw T.sampler_is A.capacity_is;
        fits = rw T.sampler_is A.fits;
        kept = rw (g, T.sampler_is) A.kept;
        wrote = rw (f, A.kept.size) (rw (A.done_is, c) at T.wrote);
        few = omega (arith, T.next);
      }

  module _ {chance : Float} {a : Arrived} {t : Reached} {weights' : List Float} {points' : List ℕ} (e : chance ≡ chance_at s.current_size s.capacity share) where
    pub turn_evict : i ≡ evicting → Does s.capacity ks (dropped ks) (left_by ks (dropped ks)) a weights' points' → Told a chance at lent t out → Turned s.capacity share ks word w i at lent t weights' points' out
    unfolding told_next sample_next
    turn_evict h A T = turn_done (rw h) (rw h) e A T

    pub turn_arrival : (i ≡ looking → ⊥) → (i ≡ evicting → ⊥) → Does s.capacity ks (offer s.capacity share ks w word) (arrived_at s.capacity share ks word w i) a weights' points' → Told a chance at lent t out
        → Turned s.capacity share ks word w i at lent t weights' points' out
    unfolding told_next sample_next
    turn_arrival h k A T = turn_done (rw (ne_eqb i looking h, ne_eqb i evicting k)) (rw (ne_eqb i looking h, ne_eqb i evicting k)) e A T

-- A SEQUENCE, of which i items are done
pub record Sequenced (given lent out : List ℕ) (state : Reached) (weights : List Float) (points : List ℕ) (i : ℕ) : Type 0 where
  pub some : 1 ≤ i
  pub within : i ≤ length given / item_bytes
  pub capacity_is : state.sampler.capacity ≡ capacity_given given
  pub room : capacity_given given ≤ capacity_limit
  pub fits : state.sampler.current_size ≤ state.sampler.capacity
  pub kept : Kept state.sampler.current_size (after given (i - 1)).sample weights points
  pub wrote : Wrote lent 0 (after given (i - 1)).written state.place out
  pub few : state.place ≤ most_bytes * i

module _ (given : List ℕ) {lent : List ℕ} where
  pub sequenced_start : (length given / item_bytes ≡ 0 → ⊥) → {m capacity : ℕ} → m ≡ capacity → capacity ≡ capacity_given given → m ≤ capacity_limit
      → {s : Sampler} {weights : List Float} {points : List ℕ} → s ≡ record { capacity = capacity; current_size = 0 } → weights ≡ replicate capacity_limit nought → points ≡ replicate capacity_limit 0
      → Sequenced given lent lent (record { sampler = s; place = 0 }) weights points 1
  unfolding after
  sequenced_start h d e l f g k = record {
    some = omega arith;
    within = omega arith;
    capacity_is = rw f e;
    room = rw (← e, ← d) l;
    fits = rw f (omega arith);
    kept = rw f (record { size = refl; weights_are = g; points_are = k });
    wrote = nothing refl;
    few = omega arith;
  }

  pub sequenced_none : length given / item_bytes ≡ 0 → Wrote lent 0 (sample_answer given) 0 lent
  unfolding sample_answer
  sequenced_none h = nothing (rw (eq-eqb (length given / item_bytes) 0 h))

  pub sequenced_large : (length given / item_bytes ≡ 0 → ⊥) → {m capacity : ℕ} → m ≡ capacity → capacity ≡ capacity_given given → capacity_limit < m → Wrote lent 0 (sample_answer given) 0 lent
  unfolding sample_answer
  sequenced_large h d e l = nothing (rw (ne_eqb (length given / item_bytes) 0 h, lt-ltb capacity_limit (capacity_given given) (rw (← e, ← d) l)))

  pub sequenced_all : {out : List ℕ} {state : Reached} {weights : List Float} {points : List ℕ} {i : ℕ} → Sequenced given lent out state weights points i → length given / item_bytes ≤ i → Wrote lent 0 (sample_answer given) state.place out
  unfolding sample_answer
  sequenced_all {i = i} d h =
      let z : i ≡ length given / item_bytes = omega (arith, d.within) in
      rw (ne_eqb (length given / item_bytes) 0 (λ e. absurd (omega (arith, d.some))), le-ltb _ _ d.room) (rw z at d.wrote)

pub sequenced_next : {given lent out : List ℕ} {state : Reached} {weights : List Float} {points : List ℕ} {i : ℕ} → Sequenced given lent out state weights points i → i < length given / item_bytes
    → {share : Float} {word : ℕ} {w : Float} {n : ℕ} → share ≡ share_given given → word ≡ word_of given i → w ≡ weight_of given i → n ≡ index_of given i
    → {state' : Reached} {weights' : List Float} {points' : List ℕ} {out' : List ℕ}
    → ((ks : List Entry) → Kept state.sampler.current_size ks weights points → Turned state.sampler.capacity share ks word w n state.place out state' weights' points' out')
    → Sequenced given lent out' state' weights' points' (i + 1)
unfolding after
sequenced_next {given} {lent} {out} {state} {weights} {points} {i} d h es ex ew en turned =
    let z : i + 1 - 1 ≡ suc (i - 1) = omega (arith, d.some) in
    let y : item_bytes * suc (i - 1) ≡ item_bytes * i = omega (arith, d.some) in
    let t = turned _ d.kept in
    record {
      some = omega arith;
      within = omega arith;
      capacity_is = t.capacity_is ∙ d.capacity_is;
      room = d.room;
      fits = rw t.capacity_is t.fits;
      kept = rw (z, y) (rw (d.capacity_is, es, ex, ew, en) at t.kept);
      wrote = rw (z, y) (then d.wrote (rw (d.capacity_is, es, ex, ew, en) at t.wrote));
      few = omega (arith, d.few, t.few);
    }
