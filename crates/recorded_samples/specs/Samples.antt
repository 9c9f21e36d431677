-- What is answered to a recorded sequence of a sample. Definitions.
use Rattle.std.specs.Prelude.{◌≡◌, Bool, true, false, Option, Some, None, cond, not, ◌&&◌, ◌||◌, List, [], ◌∷◌, ◌++◌, ℕ, zero, suc, ◌+◌, ◌-◌, ◌*◌, ◌/◌, ◌≤◌, ◌<◌, eqb, ltb, length, get_or, replicate, Float}
use Rattle.std.specs.Float.{nan, binary32, binary64}
use Rattle.std.specs.Float.Ieee.{of_bits, to_bits}
use Rattle.limits.specs.Limits.{capacity_limit}
use Rattle.readings.specs.Number.{nought}
use Rattle.startingchance.specs.Chance.{fill_fraction, chance_of, starts_by}
use Rattle.sampler.specs.declared.Sampler.{Sampler}
use Rattle.sampler.specs.declared.Evicted.{Evicted}
use Rattle.sampler.specs.Heap.{pushed, popped}
use Rattle.sampler.specs.Sample.{Entry, above, beyond, Slots}
use Rattle.sampledtree.specs.Sampled.{Offer, passes, begins, evicts, offer}
use Rattle.little.specs.Little.{little16, little32, little64, bytes32}
use Rattle.lines.specs.Lines.{Wrote}
use Rattle.recorded.specs.Words.{bytes64, pair_bytes}
use Rattle.recorded_samples.specs.declared.Arrived.{Arrived}
use Rattle.recorded_samples.specs.declared.Done.{Done}
use Rattle.recorded_samples.specs.declared.Done.TheVariants.{Nothing, Start, Gone}
use Rattle.recorded_samples.specs.declared.Reached.{Reached}

-- the bytes of the share and the capacity, of an arrival, of an eviction and of a look
abbrev pub item_bytes : ℕ
item_bytes = 16

-- the index of a look at the whole heap
abbrev pub looking : ℕ
looking = 65535

-- the index of an eviction; any other is an arrival's
abbrev pub evicting : ℕ
evicting = 65534

-- no item is answered with more bytes: a look at as many entries as there may be
abbrev pub most_bytes : ℕ
most_bytes = 8 * capacity_limit

-- A SAMPLE IN ITS SLOTS: those beyond its entries are cleared
abbrev pub Kept : ℕ → List Entry → List Float → List ℕ → Type 0
Kept n ks weights points = Slots n ks (replicate (capacity_limit - n) nought) (replicate (capacity_limit - n) 0) weights points

-- WHAT AN ARRIVAL DOES, of a sample of n entries and a capacity c: the chance that it has to start, and whether it does
abbrev pub chance_at : ℕ → ℕ → Float → Float
chance_at n c share = chance_of (fill_fraction n c) share

abbrev pub is_initial : ℕ → ℕ → Float → ℕ → Bool
is_initial n c share word = not (eqb n c) && starts_by word n c share

abbrev pub sized : Sampler → ℕ → Sampler
sized s n = record { capacity = s.capacity; current_size = n }

-- what an accepted arrival evicts, before its point is added
abbrev pub left_of : Sampler → Option Evicted → Arrived
left_of s None = record { done = Start; sampler = s }
left_of s (Some e) = record { done = Gone e.index e.weight; sampler = e.sampler }

-- an accepted arrival needs room for its point, or an entry that goes
pub record Roomy (s : Sampler) (initial : Bool) : Type 0 where
  pub room : initial ≡ true → s.current_size < capacity_limit
  pub entry : initial ≡ false → 0 < s.current_size
  pub within : s.current_size ≤ capacity_limit

-- what it does, and the entries that it leaves
unfoldable pub admitted_of : Sampler → Bool → List Float → List ℕ → Arrived
admitted_of s initial weights points =
    cond initial (record { done = Start; sampler = sized s (s.current_size + 1) })
    (record { done = Gone (get_or points 0 0) (get_or weights 0 nan); sampler = s })

unfoldable pub sample_admitted : Bool → List Entry → Float → ℕ → List Entry
sample_admitted initial ks w i = pushed above beyond (cond initial ks (popped above beyond ks)) (record { weight = w; index = i })

-- ANY ARRIVAL, by what the sampled tree's sample does with it: nothing, it starts, or the first entry goes
abbrev pub done_of : List Entry → Offer → Done
done_of ks passes = Nothing
done_of ks begins = Start
done_of ks (evicts i left) = Gone i (get_or ks 0 beyond).weight

-- the entries after it: k is the arrival's own
abbrev pub sample_after : List Entry → Entry → Offer → List Entry
sample_after ks k passes = ks
sample_after ks k begins = pushed above beyond ks k
sample_after ks k (evicts i left) = pushed above beyond left k

abbrev pub arrived_at : ℕ → Float → List Entry → ℕ → Float → ℕ → List Entry
arrived_at c share ks word w i = sample_after ks (record { weight = w; index = i }) (offer c share ks w word)

-- AN EVICTION by itself: the first entry goes, if there is one
abbrev pub dropped : List Entry → Offer
dropped [] = passes
dropped (k ∷ ks) = evicts k.index (popped above beyond (k ∷ ks))

abbrev pub left_by : List Entry → Offer → List Entry
left_by ks passes = ks
left_by ks begins = ks
left_by ks (evicts i left) = left

-- what an arrival or an eviction answers and leaves, where it does o of a sample of entries ks, and the entries ls are left
pub record Does (c : ℕ) (ks : List Entry) (o : Offer) (ls : List Entry) (r : Arrived) (weights : List Float) (points : List ℕ) : Type 0 where
  pub done_is : r.done ≡ done_of ks o
  pub capacity_is : r.sampler.capacity ≡ c
  pub fits : r.sampler.current_size ≤ c
  pub kept : Kept r.sampler.current_size ls weights points

-- WHAT IS TOLD of it: what it does and the index that goes, the size after it, the bits of the weight that goes, and those of the chance before it
abbrev pub told : List ℕ → ℕ → Float → Float → List ℕ
told pair size weight chance = pair_bytes pair ++ bytes32 size ++ bytes32 (to_bits binary32 weight) ++ bytes64 (to_bits binary64 chance)

-- 0 for nothing, 1 for a start, 2 for an entry that goes, and zeros where none does
abbrev pub told_of : Done → ℕ → Float → List ℕ
told_of Nothing size chance = told (0 ∷ 0 ∷ []) size nought chance
told_of Start size chance = told (1 ∷ 0 ∷ []) size nought chance
told_of (Gone i w) size chance = told (2 ∷ i ∷ []) size w chance

abbrev pub told_arrived : Arrived → Float → List ℕ
told_arrived r chance = told_of r.done r.sampler.current_size chance

-- the first n slots
unfoldable pub slots_to : List Float → List ℕ → ℕ → List ℕ
slots_to weights points zero = []
slots_to weights points (suc n) = slots_to weights points n ++ (bytes32 (to_bits binary32 (get_or weights n nan)) ++ bytes32 (get_or points n 0))

-- the first n entries
unfoldable pub entries_to : List Entry → ℕ → List ℕ
entries_to ks zero = []
entries_to ks (suc n) = entries_to ks n ++ (bytes32 (to_bits binary32 (get_or ks n beyond).weight) ++ bytes32 (get_or ks n beyond).index)

abbrev pub told_done : List Entry → Offer → List Entry → Float → List ℕ
told_done ks o ls chance = told_of (done_of ks o) (length ls) chance

-- one item more, a look, an eviction or an arrival: what is written, and the sample after it
module _ (c : ℕ) (share : Float) (ks : List Entry) (word : ℕ) (w : Float) (i : ℕ) where
  unfoldable pub told_next : List ℕ
  told_next =
      cond (eqb i looking) (entries_to ks (length ks))
      (cond (eqb i evicting) (told_done ks (dropped ks) (left_by ks (dropped ks)) (chance_at (length ks) c share))
      (told_done ks (offer c share ks w word) (arrived_at c share ks word w i) (chance_at (length ks) c share)))

  unfoldable pub sample_next : List Entry
  sample_next = cond (eqb i looking) ks (cond (eqb i evicting) (left_by ks (dropped ks)) (arrived_at c share ks word w i))

-- what is given and left by telling of what is done, and by a turn
pub record Told (a : Arrived) (chance : Float) (at : ℕ) (lent : List ℕ) (t : Reached) (out : List ℕ) : Type 0 where
  pub sampler_is : t.sampler ≡ a.sampler
  pub wrote : Wrote lent at (told_arrived a chance) t.place out
  pub next : t.place ≡ at + 20

pub record Turned (c : ℕ) (share : Float) (ks : List Entry) (word : ℕ) (w : Float) (i at : ℕ) (lent : List ℕ) (t : Reached) (weights : List Float) (points : List ℕ) (out : List ℕ) : Type 0 where
  pub capacity_is : t.sampler.capacity ≡ c
  pub fits : t.sampler.current_size ≤ c
  pub kept : Kept t.sampler.current_size (sample_next c share ks word w i) weights points
  pub wrote : Wrote lent at (told_next c share ks word w i) t.place out
  pub few : t.place ≤ at + most_bytes

-- where a sequence stands
pub record Standing : Type 0 where
  pub sample : List Entry
  pub written : List ℕ

module _ (given : List ℕ) where
  abbrev pub share_given : Float
  share_given = of_bits binary64 (little64 given 0)

  abbrev pub capacity_given : ℕ
  capacity_given = little16 given 8

  -- what the item of a number brings: the word for the starting chance, the weight and the index
  abbrev pub word_of : ℕ → ℕ
  word_of n = little64 given (item_bytes * n)

  abbrev pub weight_of : ℕ → Float
  weight_of n = of_bits binary32 (little32 given (item_bytes * n + 8))

  abbrev pub index_of : ℕ → ℕ
  index_of n = little16 given (item_bytes * n + 12)

  abbrev pub stepped : Standing → ℕ → Standing
  stepped s n = record {
    sample = sample_next capacity_given share_given s.sample (word_of n) (weight_of n) (index_of n);
    written = s.written ++ told_next capacity_given share_given s.sample (word_of n) (weight_of n) (index_of n);
  }

  -- an empty sample, and the n items after it
  unfoldable pub after : ℕ → Standing
  after zero = record { sample = []; written = [] }
  after (suc n) = stepped (after n) (suc n)

  -- nothing where a capacity is not given, or is above the largest
  unfoldable pub sample_answer : List ℕ
  sample_answer = cond (eqb (length given / item_bytes) 0 || ltb capacity_limit capacity_given) [] (after (length given / item_bytes - 1)).written
