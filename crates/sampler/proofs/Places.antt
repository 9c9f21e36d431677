-- Entries in their slots: read, exchanged, put at the end, the last put first. Assumes nothing.
use mathlib.Core.Path.{◌≡◌, refl, ap, ◌∙◌}
use mathlib.Core.List.{List, [], ◌∷◌, ◌++◌, map}
use Prim.Native.Nat.{ℕ, zero, suc, ◌+◌, ◌<◌}
use native.Mathlib.Omega.{arith}
use lib.ListN.{length, get_or, set, take, drop, length-append, length-set, length-take, length-map, get_or-append, get_or-map}
use lib.Seq.{lt-length-set, get_or-drop}
use lib.Ieee.{Float, nan, lt}
use Rattle.readings.specs.Number.{nought}
use Rattle.sampler.specs.Heap.{swapped, refilled}
use Rattle.sampler.specs.Sample.{Entry, above, beyond, Slots, entries_in, SomeSlots}

-- ---- what is kept of each entry of a list, with more beyond
module _ {A B : Type 0} (g : A → B) (z : A) where
  kept : (ks : List A) (ws : List B) (i : ℕ) → i < length ks → get_or (map g ks ++ ws) i (g z) ≡ g (get_or ks i z)
  kept ks ws i h = get_or-append (map g ks) ws (g z) i (rw length-map h) ∙ get_or-map g ks i z

  kept_set : (ks : List A) (ws : List B) (i : ℕ) (k : A) → i < length ks → set (map g ks ++ ws) i (g k) ≡ map g (set ks i k) ++ ws
  kept_set [] ws i k h = absurd (omega arith)
  kept_set (x ∷ ks) ws zero k h = refl
  kept_set (x ∷ ks) ws (suc i) k h = rw (kept_set ks ws i k (omega arith))

  kept_swapped : (ks : List A) (ws : List B) (a b : ℕ) → a < length ks → b < length ks
      → swapped (g z) (map g ks ++ ws) a b ≡ map g (swapped z ks a b) ++ ws
  kept_swapped ks ws a b h l =
      rw (kept ks ws a h, kept ks ws b l, kept_set ks ws a (get_or ks b z) h)
      (kept_set (set ks a (get_or ks b z)) ws b (get_or ks a z) (lt-length-set ks a (get_or ks b z) l))

  kept_last : (x : A) (xs : List A) (ws : List B) (v : B) → set (map g (x ∷ xs) ++ ws) (length xs) v ≡ map g (take (length xs) (x ∷ xs)) ++ (v ∷ ws)
  kept_last x [] ws v = refl
  kept_last x (y ∷ xs) ws v = rw (kept_last y xs ws v)

  kept_refilled : (ks : List A) (ws : List B) (v : B) (n : ℕ) → length ks ≡ suc n
      → set (set (map g ks ++ ws) 0 (get_or (map g ks ++ ws) n (g z))) n v ≡ map g (refilled z ks) ++ (v ∷ ws)
  unfolding refilled
  kept_refilled [] ws v n e = absurd (omega arith)
  kept_refilled (k ∷ ks) ws v n e =
      let all = map g (k ∷ ks) ++ ws in
      let at : n ≡ length ks = omega arith in
      ap (λ (i : ℕ). set (set all 0 (get_or all i (g z))) i v) at
      ∙ ap (λ (b : B). set (set all 0 b) (length ks) v) (kept (k ∷ ks) ws (length ks) (omega arith))
      ∙ kept_last (get_or (k ∷ ks) (length ks) z) ks ws v

  kept_added : (ks : List A) (w : B) (ws : List B) (k : A) → set (map g ks ++ (w ∷ ws)) (length ks) (g k) ≡ map g (ks ++ (k ∷ [])) ++ ws
  kept_added [] w ws k = refl
  kept_added (x ∷ ks) w ws k = rw (kept_added ks w ws k)

length_refilled : (ks : List Entry) (n : ℕ) → length ks ≡ suc n → length (refilled beyond ks) ≡ n
unfolding refilled
length_refilled [] n e = absurd (omega arith)
length_refilled (k ∷ ks) n e = simp length-take (omega arith)

module _ {n : ℕ} {ks : List Entry} {ws : List Float} {ps : List ℕ} {weights : List Float} {points : List ℕ} (at : Slots n ks ws ps weights points) where
  pub weight_at : (i : ℕ) → i < n → get_or weights i nan ≡ (get_or ks i beyond).weight
  weight_at i h = rw at.weights_are (kept (λ k. k.weight) beyond ks ws i (rw at.size h))

  pub compared : (i j : ℕ) → i < n → j < n → above (get_or ks i beyond) (get_or ks j beyond) ≡ lt (get_or weights j nan) (get_or weights i nan)
  compared i j h l = rw (weight_at i h, weight_at j l)

  pub slots_swapped : (a b : ℕ) → a < n → b < n → Slots n (swapped beyond ks a b) ws ps (swapped nan weights a b) (swapped 0 points a b)
  slots_swapped a b h l =
      let h' : a < length ks = rw at.size h in
      let l' : b < length ks = rw at.size l in
      record {
        size = simp length-set at.size;
        weights_are = rw at.weights_are (kept_swapped (λ k. k.weight) beyond ks ws a b h' l');
        points_are = rw at.points_are (kept_swapped (λ k. k.index) beyond ks ps a b h' l');
      }

pub slots_refilled : {m : ℕ} {ks : List Entry} {ws : List Float} {ps : List ℕ} {weights : List Float} {points : List ℕ} → Slots m ks ws ps weights points
    → (n : ℕ) → m ≡ suc n → Slots n (refilled beyond ks) (nought ∷ ws) (0 ∷ ps) (set (set weights 0 (get_or weights n nan)) n nought) (set (set points 0 (get_or points n 0)) n 0)
slots_refilled {m} {ks} {ws} {ps} at n e =
    let size : length ks ≡ suc n = omega arith in
    record {
      size = length_refilled ks n size;
      weights_are = rw at.weights_are (kept_refilled (λ k. k.weight) beyond ks ws nought n size);
      points_are = rw at.points_are (kept_refilled (λ k. k.index) beyond ks ps 0 n size);
    }

pub slots_added : {n : ℕ} {ks : List Entry} {w : Float} {ws : List Float} {p : ℕ} {ps : List ℕ} {weights : List Float} {points : List ℕ} → Slots n ks (w ∷ ws) (p ∷ ps) weights points
    → (k : Entry) → Slots (n + 1) (ks ++ (k ∷ [])) ws ps (set weights n k.weight) (set points n k.index)
slots_added {n} {ks} {w} {ws} {p} {ps} at k =
    record {
      size = simp length-append (omega arith);
      weights_are = rw (at.weights_are, ← at.size) (kept_added (λ k. k.weight) beyond ks w ws k);
      points_are = rw (at.points_are, ← at.size) (kept_added (λ k. k.index) beyond ks p ps k);
    }

pub some_slots : SomeSlots
unfolding entries_in
some_slots zero weights points h l = record { size = refl; weights_are = refl; points_are = refl }
some_slots (suc n) [] points h l = absurd (omega arith)
some_slots (suc n) (w ∷ weights) [] h l = absurd (omega arith)
some_slots (suc n) (w ∷ weights) (p ∷ points) h l =
    let rest = some_slots n weights points (omega arith) (omega arith) in
    record { size = ap suc rest.size; weights_are = ap (λ ws. w ∷ ws) rest.weights_are; points_are = ap (λ ps. p ∷ ps) rest.points_are }

-- ---- slots read as entries: one more, and those that they keep
pub entries_next : (n : ℕ) (weights : List Float) (points : List ℕ) → entries_in (suc n) weights points ≡ entries_in n weights points ++ (record { weight = get_or weights n nan; index = get_or points n 0 } ∷ [])
unfolding entries_in
entries_next zero weights points = refl
entries_next (suc n) weights points =
    let next : 1 + n ≡ suc n = omega arith in
    ap {B = List Entry} (λ l. record { weight = get_or weights 0 nan; index = get_or points 0 0 } ∷ l) (entries_next n (drop 1 weights) (drop 1 points) ∙ rw (get_or-drop 1 weights n nan, get_or-drop 1 points n 0, next))

pub entries_read : (ks : List Entry) (ws : List Float) (ps : List ℕ) → entries_in (length ks) (map (λ k. k.weight) ks ++ ws) (map (λ k. k.index) ks ++ ps) ≡ ks
unfolding entries_in
entries_read [] ws ps = refl
entries_read (k ∷ ks) ws ps = ap (λ (l : List Entry). k ∷ l) (entries_read ks ws ps)
