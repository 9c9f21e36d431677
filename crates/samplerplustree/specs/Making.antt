-- What the making of a sampled tree answers, and the arrays that it leaves. Definitions.
use Rattle.refusals.specs.declared.Refusal.TheVariants as Why
use Rattle.refusals.specs.declared.Refusal.{Refusal}
use Rattle.std.specs.Prelude.{Result, Ok, Err}
use Rattle.std.specs.Prelude.{◌≡◌, Bool, cond, ◌&&◌, List, [], ℕ, Float}
use Rattle.std.proofs.Math.Option.{none}
use Rattle.readings.specs.Share.{is_share}
use Rattle.wholetree.specs.Whole.{whole}
use Rattle.layout.specs.Layout.{table_of}
use Rattle.treestore.specs.Arrays.{NodeStore}
use Rattle.randomcuttree.specs.Making.{channels_taken, capacity_taken, empty_tree, cleared}
use Rattle.sampledtree.specs.Sampled.{fresh}
use Rattle.samplerplustree.specs.declared.SamplerPlusTree.{SamplerPlusTree}
use Rattle.samplerplustree.specs.State.{weights_of, held_of, sampler_of, SampledState}

-- the header of an empty sampled tree: d channels, capacity c, cached share s, initial share f
abbrev pub empty_sampled : ℕ → ℕ → Float → Float → SamplerPlusTree
empty_sampled d c s f = record { tree = empty_tree d c s; sampler = sampler_of c []; initial_accept_fraction = f }

-- 'make: 1 channels; 2 capacity; 3 cached share; 4 initial share (sampled only): outside its range or NaN', in this order; else the header
unfoldable pub sampled_by : ℕ → ℕ → Float → Float → Result SamplerPlusTree Refusal
sampled_by d c s f =
    cond (channels_taken d)
    (cond (capacity_taken c)
    (cond (is_share s)
    (cond (is_share f) (Ok (empty_sampled d c s f)) (Err Why.InitialShare))
    (Err Why.CachedShare))
    (Err Why.Capacity))
    (Err Why.Channels)

-- the first refusal where the initial share is refused
unfoldable pub refusal_by : ℕ → ℕ → Float → Refusal
refusal_by d c s = cond (channels_taken d) (cond (capacity_taken c) (cond (is_share s) Why.InitialShare Why.CachedShare) Why.Capacity) Why.Channels

abbrev pub all_taken : ℕ → ℕ → Float → Float → Bool
all_taken d c s f = channels_taken d && (capacity_taken c && (is_share s && is_share f))

-- What a making gives and leaves: a refused one writes nothing. A tree that is made stands, with an unwritten table, for document 01's 'tree
-- fresh from an accepted making and a table with nothing written', its sample empty.
pub record SampledMade (d c : ℕ) (s f : Float) (before after : NodeStore) (weights weights' : List Float) (held held' : List ℕ) (r : Result SamplerPlusTree Refusal) : Type 0 where
  pub answer : r ≡ sampled_by d c s f
  pub arrays : after ≡ cond (all_taken d c s f) (cleared c) before
  pub weights_are : weights' ≡ cond (all_taken d c s f) (weights_of []) weights
  pub held_are : held' ≡ cond (all_taken d c s f) (held_of []) held
  pub state : (h : SamplerPlusTree) → r ≡ Ok h → (points : List (List Float)) (marks : List ℕ) → record { points = points; written = marks } ≡ table_of (λ i. none)
      → SampledState d s (fresh (whole d) c f) h after points marks weights' held'
