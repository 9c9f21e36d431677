-- Looking for the reading of an index in a tree: what is told, and what is found. Definitions.
use Rattle.std.specs.Prelude.{◌≡◌, List, [], ℕ, ◌≤◌, ◌<◌, get_or, drop, Float}
use Rattle.limits.specs.Limits.{width, capacity_limit, point_limit}
use Rattle.cuttree.specs.Tree.{Tree, All, found, ending}
use Rattle.wholetree.specs.Reading.{Reading}
use Rattle.wholetree.specs.Whole.{whole}
use Rattle.walk.specs.Walks.{Walks, Walked}
use Rattle.rowboxes.specs.Rows.{PaddedTable}
use Rattle.treestore.specs.declared.Header.{Header}
use Rattle.treestore.specs.declared.Found.{Found}

-- rows and cuts are those of t, the table has its leaves' readings and +0.0 beyond its channels, and p is the index's
pub record Sought (d c root : ℕ) (nodes : List (List ℕ)) (cuts : List Float) (points : List (List Float)) (index : ℕ) (t : Tree (whole d)) (p : Reading) : Type 0 where
  pub small : c ≤ capacity_limit
  pub channels_few : d ≤ width
  pub index_small : index < point_limit
  pub walks : Walks d c nodes cuts (get_or points index []) root t p
  pub leaves : All (whole d) (λ i q n. get_or points i [] ≡ q.row) t
  pub padded : PaddedTable d points

pub record SomeSought (h : Header) (nodes : List (List ℕ)) (cuts : List Float) (points : List (List Float)) (index : ℕ) : Type 0 where
  pub tree : Tree (whole h.dimensions)
  pub reading : Reading
  pub sought : Sought h.dimensions h.capacity h.root nodes cuts points index tree reading

-- the walk of p in t, the leaf that it ends in, and whether that is p's; beyond the walk the path is as it was
pub record FoundIn (d c : ℕ) (t : Tree (whole d)) (p : Reading) (before : List (List ℕ)) (r : Found) (path : List (List ℕ)) : Type 0 where
  pub walked : Walked d c path r.walk t p
  pub leaf_is : r.leaf ≡ (ending (whole d) t p).index
  pub held_is : r.held ≡ found (whole d) t p
  pub rest : drop r.walk path ≡ drop r.walk before

-- Finding, whichever tree it is.
abbrev pub Finds : Header → List (List ℕ) → List Float → List (List Float) → ℕ → List (List ℕ) → Found → List (List ℕ) → Type 0
Finds h nodes cuts points index before r path = (t : Tree (whole h.dimensions)) (p : Reading) → Sought h.dimensions h.capacity h.root nodes cuts points index t p → FoundIn h.dimensions h.capacity t p before r path
