-- A tree's header and the lent arrays, as those of a world: every byte is named. Definitions.
use Rattle.std.specs.Prelude.{◌≡◌, true, List, ℕ, ◌-◌, ◌≤◌, ◌<◌, min, Float}
use Rattle.std.proofs.Math.Option.{some}
use Rattle.limits.specs.Limits.{width, capacity_limit}
use Rattle.readings.specs.Share.{is_share, cached_part}
use Rattle.boundingbox.specs.Padding.{Padded}
use Rattle.intervalstoremanager.specs.declared.IntervalStoreManager.{IntervalStoreManager}
use Rattle.cuttree.specs.Tree.{Tree, leaf, branch, OfTree}
use Rattle.cuttree.specs.Run.{World, total_of}
use Rattle.cuttree.specs.Sound.{Sound}
use Rattle.wholetree.specs.Reading.{Reading}
use Rattle.wholetree.specs.Whole.{whole}
use Rattle.layout.specs.Layout.{root_of, table_of}
use Rattle.treestore.specs.declared.Header.{Header}
use Rattle.treestore.specs.Arrays.{NodeStore, manager_of, arrays_of}
use Rattle.randomcuttree.specs.declared.RCFTree.{RCFTree}

-- 'Branches below the whole part of share × c (one rounded product) are cached.' There are c − 1 branches at most.
abbrev pub cached_by : Float → ℕ → ℕ
cached_by s c = min (cached_part s c) (c - 1)

-- what the arrays are read and changed by
abbrev pub store_header : RCFTree → Header
store_header tree = record { root = tree.root; manager = tree.manager; dimensions = tree.dimensions; capacity = tree.capacity; cached = tree.cached }

-- every branch is cut on one of the tree's d channels
abbrev pub OnChannels : (d : ℕ) → Tree (whole d) → Type 0
OnChannels d (leaf i q n) = Unit {0}
OnChannels d (branch b k l r) = (k.channel < d) × OnChannels d l × OnChannels d r

-- Every world that a making and its calls leave is one of these (`StatesStand`): sound, cut on the tree's own channels, and with readings of its width.
pub record Reachable (d c : ℕ) (W : World (whole d)) : Type 0 where
  pub sound : Sound (whole d) c W
  pub on_channels : OfTree (whole d) (OnChannels d) W.tree
  -- a reading has +0.0 in the channels beyond the tree's
  pub narrow : (i : ℕ) (p : Reading) → W.table i ≡ some p → Padded p.row d width

-- d channels, capacity c, cached share s
module _ (d c : ℕ) (s : Float) where
  -- the header of a world's tree
  abbrev pub header_of : World (whole d) → RCFTree
  header_of W = record {
    dimensions = d;
    capacity = c;
    cache_fraction = s;
    cached = cached_by s c;
    root = root_of d c (cached_by s c) W.tree;
    total = total_of (whole d) W.tree;
    manager = manager_of (c - 1) W.free;
  }

  -- header, arrays and table are the world's, slot by slot
  pub record State (W : World (whole d)) (tree : RCFTree) (a : NodeStore) (points : List (List Float)) (marks : List ℕ) : Type 0 where
    pub header_is : tree ≡ header_of W
    pub arrays_are : a ≡ arrays_of d c (cached_by s c) W.tree W.free
    pub table_is : record { points = points; written = marks } ≡ table_of W.table
    pub reachable : Reachable d c W
    pub limits : (1 ≤ d) × (d ≤ width) × (2 ≤ c) × (c ≤ capacity_limit) × (is_share s ≡ true)

-- What a state function asks of its caller: that the lent state is one that a making and its calls leave.
pub record SomeState (tree : RCFTree) (a : NodeStore) (points : List (List Float)) (marks : List ℕ) : Type 0 where
  pub channels : ℕ
  pub capacity : ℕ
  pub share : Float
  pub world : World (whole channels)
  pub state : State channels capacity share world tree a points marks

-- the header with another root, total and manager
abbrev pub headed : RCFTree → ℕ → ℕ → IntervalStoreManager → RCFTree
headed x root total manager = record { dimensions = x.dimensions; capacity = x.capacity; cache_fraction = x.cache_fraction; cached = x.cached; root = root; total = total; manager = manager }
