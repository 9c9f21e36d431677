-- The sample's entries, and the slots that keep them. Definitions.
use Rattle.std.specs.Prelude.{◌≡◌, Bool, true, false, Option, Some, None, List, [], ◌∷◌, ◌++◌, map, ℕ, zero, suc, ◌-◌, ◌≤◌, ◌<◌, T, length, get_or, drop, Float}
use Rattle.std.specs.Float.{nan}
use Rattle.std.specs.Float.Ieee.{lt}
use Rattle.readings.specs.Number.{nought, is_number}
use Rattle.sampler.specs.declared.Sampler.{Sampler}
use Rattle.sampler.specs.declared.Evicted.{Evicted}
use Rattle.sampler.specs.Heap.{popped, Orders, Heap}

pub record Entry : Type 0 where
  pub weight : Float
  pub index : ℕ

-- The Rust's comparison of two weights.
abbrev pub above : Entry → Entry → Bool
above x y = lt y.weight x.weight

-- What is read beyond a list's end, where nothing is read.
abbrev pub beyond : Entry
beyond = record { weight = nan; index = 0 }

-- The first n slots of both arrays keep the entries ks; in the slots beyond stand ws and ps.
pub record Slots (n : ℕ) (ks : List Entry) (ws : List Float) (ps : List ℕ) (weights : List Float) (points : List ℕ) : Type 0 where
  pub size : length ks ≡ n
  pub weights_are : weights ≡ map (λ k. k.weight) ks ++ ws
  pub points_are : points ≡ map (λ k. k.index) ks ++ ps

-- Any slots keep some entries, these: the contracts, which speak of whatever entries the slots keep, say something of all slots
-- (`some_slots`, proofs/Places.antt).
unfoldable pub entries_in : ℕ → List Float → List ℕ → List Entry
entries_in zero weights points = []
entries_in (suc n) weights points = record { weight = get_or weights 0 nan; index = get_or points 0 0 } ∷ entries_in n (drop 1 weights) (drop 1 points)

abbrev pub SomeSlots : Type 0
SomeSlots =
    (n : ℕ) (weights : List Float) (points : List ℕ) → n ≤ length weights → n ≤ length points
    → Slots n (entries_in n weights points) (drop n weights) (drop n points) weights points

-- What `evict_max` answers of these slots: the first entry's index and weight, and the header with one entry less.
abbrev pub evicted_of : Sampler → List Float → List ℕ → Evicted
evicted_of s weights points =
    record { sampler = record { capacity = s.capacity; current_size = s.current_size - 1 }; index = get_or points 0 0; weight = get_or weights 0 nan }

-- What it leaves of n entries, whatever they are: the slot that is left over is cleared, and those beyond stay.
abbrev pub Evicts : ℕ → List Float → List ℕ → List Float → List ℕ → Type 0
Evicts n weights points weights' points' =
    (ks : List Entry) (ws : List Float) (ps : List ℕ) → Slots n ks ws ps weights points → Slots (n - 1) (popped above beyond ks) (nought ∷ ws) (0 ∷ ps) weights' points'

-- What `accept_point` does of an accepted arrival: a started one evicts nothing.
pub record Accepts (s : Sampler) (initial : Bool) (r : Option Evicted) (weights : List Float) (points : List ℕ) (weights' : List Float) (points' : List ℕ) : Type 0 where
  pub started : initial ≡ true → (r ≡ None) × (weights' ≡ weights) × (points' ≡ points)
  pub evicting : initial ≡ false → (r ≡ Some (evicted_of s weights points)) × Evicts s.current_size weights points weights' points'

-- Document 01, refusal 14: a weight is a number. Of such entries `above` is an order, so that Heap.antt's laws hold of a sample of them;
-- among these that its first entry is 'the largest held, which is evicted'.
abbrev pub Weighed : Entry → Type 0
Weighed k = T (is_number k.weight)

abbrev pub WeightsOrder : Type 0
WeightsOrder = Orders above Weighed

abbrev pub LargestEvicted : Type 0
LargestEvicted =
    (ks : List Entry) → Heap above beyond Weighed ks → (i : ℕ) → i < length ks → lt (get_or ks 0 beyond).weight (get_or ks i beyond).weight ≡ false
