-- A sampled tree's header and lent arrays as those of a sampled world: every byte is named. Definitions.
use Rattle.std.specs.Prelude.{◌≡◌, true, List, ◌++◌, map, ℕ, ◌-◌, length, replicate, Float}
use Rattle.limits.specs.Limits.{capacity_limit}
use Rattle.readings.specs.Number.{nought}
use Rattle.readings.specs.Share.{is_share}
use Rattle.sampler.specs.declared.Sampler.{Sampler}
use Rattle.sampler.specs.Sample.{Entry}
use Rattle.wholetree.specs.Whole.{whole}
use Rattle.sampledtree.specs.Sampled.{Sampled}
use Rattle.sampledtree.specs.Arrivals.{Agrees}
use Rattle.treestore.specs.Arrays.{NodeStore}
use Rattle.randomcuttree.specs.State.{State, header_of}
use Rattle.samplerplustree.specs.declared.SamplerPlusTree.{SamplerPlusTree}

-- the sample's arrays: an entry's weight and point index in the slot of its place in the heap, zeros beyond
abbrev pub weights_of : List Entry → List Float
weights_of ks = map (λ k. k.weight) ks ++ replicate (capacity_limit - length ks) nought

abbrev pub held_of : List Entry → List ℕ
held_of ks = map (λ k. k.index) ks ++ replicate (capacity_limit - length ks) 0

abbrev pub sampler_of : ℕ → List Entry → Sampler
sampler_of c ks = record { capacity = c; current_size = length ks }

-- d channels, cached share s
module _ (d : ℕ) (s : Float) where
  -- the header of a sampled world
  abbrev pub head_of : Sampled (whole d) → SamplerPlusTree
  head_of X = record { tree = header_of d X.capacity s X.world; sampler = sampler_of X.capacity X.sample; initial_accept_fraction = X.initial }

  -- header, arrays, table and sample are the sampled world's, slot by slot, and tree and sample agree
  pub record SampledState (X : Sampled (whole d)) (h : SamplerPlusTree) (a : NodeStore) (points : List (List Float)) (marks : List ℕ) (weights : List Float) (held : List ℕ) : Type 0 where
    pub head_is : h ≡ head_of X
    pub tree_is : State d X.capacity s X.world (header_of d X.capacity s X.world) a points marks
    pub weights_are : weights ≡ weights_of X.sample
    pub held_are : held ≡ held_of X.sample
    pub agrees : Agrees (whole d) X
    pub initial_is : is_share X.initial ≡ true

-- What a state function asks of its caller: that the lent state is one that a making and its calls leave.
pub record SomeSampled (h : SamplerPlusTree) (a : NodeStore) (points : List (List Float)) (marks : List ℕ) (weights : List Float) (held : List ℕ) : Type 0 where
  pub channels : ℕ
  pub share : Float
  pub world : Sampled (whole channels)
  pub state : SampledState channels share world h a points marks weights held
