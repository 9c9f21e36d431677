-- A run's tree in the lent arrays, bare or sampled. Definitions.
use Rattle.std.specs.Prelude.{◌≡◌, true, List, ℕ, Float}
use Rattle.wholetree.specs.Whole.{whole}
use Rattle.sampledtree.specs.Sampled.{Sampled}
use Rattle.treestore.specs.Arrays.{NodeStore}
use Rattle.randomcuttree.specs.State.{State}
use Rattle.samplerplustree.specs.declared.SamplerPlusTree.{SamplerPlusTree}
use Rattle.samplerplustree.specs.State.{SampledState}
use Rattle.runlayout.specs.Layout.{is_sampled, channels, capacity, share}

-- what is lent beside the header: the tree's arrays, the table and the sample's arrays
pub record Kept : Type 0 where
  pub arrays : NodeStore
  pub points : List (List Float)
  pub marks : List ℕ
  pub weights : List Float
  pub held : List ℕ

abbrev pub kept : NodeStore → List (List Float) → List ℕ → List Float → List ℕ → Kept
kept a points marks weights held = record { arrays = a; points = points; marks = marks; weights = weights; held = held }

module _ (run : List ℕ) where
  -- header, arrays and table are X's; of a sampled tree the sample's arrays too, of a bare one these are no matter
  pub record Standing (X : Sampled (whole (channels run))) (h : SamplerPlusTree) (k : Kept) : Type 0 where
    pub capacity_is : X.capacity ≡ capacity run
    pub tree_is : State (channels run) X.capacity (share run) X.world h.tree k.arrays k.points k.marks
    pub sample_is : is_sampled run ≡ true → SampledState (channels run) (share run) X h k.arrays k.points k.marks k.weights k.held

  pub record SomeStanding (h : SamplerPlusTree) (k : Kept) : Type 0 where
    pub world : Sampled (whole (channels run))
    pub standing : Standing world h k

  -- the same where the sample's arrays are not lent
  pub record SomePlain (h : SamplerPlusTree) (a : NodeStore) (points : List (List Float)) (marks : List ℕ) : Type 0 where
    pub weights : List Float
    pub held : List ℕ
    pub some : SomeStanding h (kept a points marks weights held)
