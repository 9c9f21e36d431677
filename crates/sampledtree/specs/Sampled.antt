-- A sampled tree: puts, arrivals and queries. An arrival is told by the bare tree's delete and add, and by the sample's heap. Definitions.
use Rattle.std.specs.Prelude.{Bool, cond, not, ◌&&◌, List, [], ◌∷◌, ℕ, eqb, leb, ltb, length, Float}
use Rattle.std.proofs.Math.Option.{Option, none, some}
use Rattle.std.specs.Float.Ieee.{lt}
use Rattle.readings.specs.Number.{is_number}
use Rattle.sampler.specs.Heap.{pushed, popped}
use Rattle.sampler.specs.Sample.{Entry, above, beyond}
use Rattle.startingchance.specs.Chance.{starts_by}
use Rattle.cuttree.specs.Setting.{Setting}
use Rattle.cuttree.specs.Run as Bare
use Rattle.cuttree.specs.Run.{Refusal, index_above, never_written, bad_weight, few_words, Query, World, Answer, refused, written, added, deleted, copies_are, branch_is, box_is, add, delete}

-- what a sample does with an arrival: it is not accepted; it is started; or an index is evicted, and these entries are left
pub data Offer : Type 0 where
  passes : Offer
  begins : Offer
  evicts : ℕ → List Entry → Offer

-- "accepted only if its weight is below the largest held, which is evicted": the largest is at the heap's top. An empty sample always
-- starts, so that this is never asked of one.
abbrev pub against : List Entry → Float → Offer
against [] w = passes
against (k ∷ ks) w = cond (lt w k.weight) (evicts k.index (popped above beyond (k ∷ ks))) passes

-- "A started arrival is accepted without eviction, at any weight. Any other, also while the sample isn't full": c is the capacity, s the
-- initial share, x the word for the starting chance
abbrev pub offer : ℕ → Float → List Entry → Float → ℕ → Offer
offer c s ks w x = cond (not (eqb (length ks) c) && starts_by x (length ks) c s) begins (against ks w)

module _ (S : Setting) where
  open S use {Point, Word, Raw, indices}

  -- the capacity stands here, so that a call may change it
  pub record Sampled : Type 0 where
    pub capacity : ℕ
    pub initial : Float
    pub world : World S
    pub sample : List Entry

  -- "An arrival brings point index, f32 weight, one word for the starting chance and c words for the tree." "A sampled tree takes arrivals
  -- only": it has no adds and deletes of its own.
  pub data SampledCall : Type 0 where
    put : ℕ → Raw → SampledCall
    arrive : ℕ → Float → ℕ → List Word → SampledCall
    query : Query → SampledCall

  -- "not accepted, or the leaf's index and the evicted index if any"; of a put, a query and a refused arrival, a bare tree's answer
  pub data SampledAnswer : Type 0 where
    plain : Answer S → SampledAnswer
    not_accepted : SampledAnswer
    accepted : ℕ → Option ℕ → SampledAnswer

  abbrev pub with_sample : Sampled → World S → List Entry → Sampled
  with_sample X W ks = record { capacity = X.capacity; initial = X.initial; world = W; sample = ks }

  -- The add's answer and the world that it leaves, with the entries ks: "The sample keeps the leaf's index that the add returns". Here an
  -- add has no other answer: `EveryArrival` (specs/Arrivals.antt).
  abbrev pub admitted : Sampled → List Entry → Option ℕ → Float → Answer S × World S → SampledAnswer × Sampled
  admitted X ks e w (added j n, W) = (accepted j e, with_sample X W (pushed above beyond ks (record { weight = w; index = j })))
  admitted X ks e w (refused r, W) = (not_accepted, X)
  admitted X ks e w (written, W) = (not_accepted, X)
  admitted X ks e w (deleted j, W) = (not_accepted, X)
  admitted X ks e w (copies_are n, W) = (not_accepted, X)
  admitted X ks e w (branch_is r, W) = (not_accepted, X)
  admitted X ks e w (box_is b, W) = (not_accepted, X)

  -- "an eviction deletes by that index", before the arrival is added
  abbrev pub taken : Sampled → ℕ → Float → List Word → Offer → SampledAnswer × Sampled
  taken X i w ws passes = (not_accepted, X)
  taken X i w ws begins = admitted X X.sample none w (Bare.call S X.capacity X.world (add i ws))
  taken X i w ws (evicts e ks) = admitted X ks (some e) w (Bare.call S X.capacity (Bare.call S X.capacity X.world (delete e)).1 (add i ws))

  abbrev pub refuse : Sampled → Refusal → Bool → SampledAnswer × Sampled → SampledAnswer × Sampled
  refuse X n b x = cond b (plain (refused n), X) x

  abbrev pub if_written : Sampled → Option Point → SampledAnswer × Sampled → SampledAnswer × Sampled
  if_written X none x = (plain (refused never_written), X)
  if_written X (some p) x = x

  abbrev pub with_world : Sampled → Answer S × World S → SampledAnswer × Sampled
  with_world X x = (plain x.0, with_sample X x.1 X.sample)

  -- THE CALLS: "arrival: 5; 9; 14 weight infinite, NaN or minus zero; 11 fewer than c words", in this order
  abbrev pub call : Sampled → SampledCall → SampledAnswer × Sampled
  call X (put i x) = with_world X (Bare.call S X.capacity X.world (Bare.put i x))
  call X (query q) = with_world X (Bare.call S X.capacity X.world (Bare.query q))
  call X (arrive i w x ws) =
      refuse X index_above (leb indices i)
      (if_written X (X.world.table i)
      (refuse X bad_weight (not (is_number w))
      (refuse X few_words (ltb (length ws) X.capacity)
      (taken X i w ws (offer X.capacity X.initial X.sample w x)))))

  -- the sampled tree that a list of calls leaves
  abbrev pub sampled_after : Sampled → List SampledCall → Sampled
  sampled_after X [] = X
  sampled_after X (d ∷ ds) = sampled_after (call X d).1 ds

  -- "a tree fresh from an accepted making": of capacity c and initial share s
  abbrev pub fresh : ℕ → Float → Sampled
  fresh c s = record { capacity = c; initial = s; world = Bare.fresh S c; sample = [] }
