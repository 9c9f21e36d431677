-- A tree in the rows, cuts and copies of a node store: what the functions are told and what they give. Definitions.
use Rattle.std.specs.Prelude.{◌≡◌, Bool, List, ℕ, ◌+◌, ◌≤◌, ◌<◌, ◌-◌, Float}
use Rattle.std.proofs.Math.Option.{Option, some}
use Rattle.limits.specs.Limits.{width, capacity_limit, branch_limit, point_limit, total_limit}
use Rattle.readings.specs.Number.{nought}
use Rattle.cut.specs.declared.Cut.{Cut}
use Rattle.cuttree.specs.Setting.{Cut as CutOf, below}
use Rattle.cuttree.specs.Tree.{Tree, is, ending, height, mass, sum, All}
use Rattle.wholetree.specs.Reading.{Reading}
use Rattle.wholetree.specs.Whole.{whole, tab}
use Rattle.layout.specs.Slots.{uses, row_of, cut_of, count_at}
use Rattle.layout.specs.Layout.{no_row, slot_in, count_in}
use Rattle.layout.specs.Stands.{InRange}
use Rattle.walk.specs.Walks.{Walked}

-- THE ARRAYS of a tree or of none: every slot of a branch's row, of a branch's cut and of a leaf's copies
pub record Arrays (d c : ℕ) (nodes : List (List ℕ)) (cuts : List Float) (copies : List ℕ) (o : Option (Tree (whole d))) : Type 0 where
  pub rows : nodes ≡ tab branch_limit (slot_in d c 0 (row_of d c) no_row o)
  pub values : cuts ≡ tab branch_limit (slot_in d c 0 (cut_of d c) nought o)
  pub counts : copies ≡ tab point_limit (count_in d c 0 o)

-- the arrays are those of t, whose ids are each one node's, and whose numbers are in range
pub record Stored (d c : ℕ) (nodes : List (List ℕ)) (cuts : List Float) (copies : List ℕ) (t : Tree (whole d)) : Type 0 where
  pub small : c ≤ capacity_limit
  pub arrays : Arrays d c nodes cuts copies (some t)
  pub apart : (x : ℕ) → sum (whole d) (λ i q n. is (i + c) x) (λ b. is b x) t ≤ 1
  pub in_range : InRange d c t
  pub filled : All (whole d) (λ i q n. 0 < n) t
  pub light : mass (whole d) t ≤ total_limit

-- and the path is p's walk, which ends in the leaf of that index
pub record Reached (d c : ℕ) (nodes : List (List ℕ)) (cuts : List Float) (copies : List ℕ) (path : List (List ℕ)) (n index : ℕ) (t : Tree (whole d)) (p : Reading) : Type 0 where
  pub stored : Stored d c nodes cuts copies t
  pub walked : Walked d c path n t p
  pub index_is : index ≡ (ending (whole d) t p).index

pub record SomeReached (nodes : List (List ℕ)) (copies : List ℕ) (path : List (List ℕ)) (n index most : ℕ) : Type 0 where
  pub channels : ℕ
  pub capacity : ℕ
  pub cuts : List Float
  pub tree : Tree (whole channels)
  pub reading : Reading
  pub reached : Reached channels capacity nodes cuts copies path n index tree reading
  pub room : mass (whole channels) tree ≤ most

-- A NEW VALUE: below the first k nodes of the path, above the node of height h, with the cut x, the new branch b and the new leaf of that
-- index may come
pub record Graft (d c : ℕ) (nodes : List (List ℕ)) (cuts : List Float) (copies : List ℕ) (path : List (List ℕ)) (k b index : ℕ) (cut : Cut) (left : Bool) (n : ℕ) (t : Tree (whole d)) (p : Reading) (h : ℕ) (x : CutOf (whole d)) : Type 0 where
  pub stored : Stored d c nodes cuts copies t
  pub walked : Walked d c path n t p
  pub room : mass (whole d) t ≤ total_limit - 1
  pub place : k + h ≡ height (whole d) t p
  pub fresh : uses d c t b ≡ 0
  pub small : b < branch_limit
  pub new : count_at d c t index ≡ 0
  pub index_small : index < point_limit
  pub channel_small : x.channel < width
  pub channel_is : cut.dimension ≡ x.channel
  pub value_is : cut.value ≡ x.value.value
  pub left_is : left ≡ below (whole d) x p

pub record SomeGraft (c : ℕ) (nodes : List (List ℕ)) (cuts : List Float) (copies : List ℕ) (path : List (List ℕ)) (k b index : ℕ) (cut : Cut) (left : Bool) : Type 0 where
  pub channels : ℕ
  pub rows : ℕ
  pub tree : Tree (whole channels)
  pub reading : Reading
  pub high : ℕ
  pub drawn : CutOf (whole channels)
  pub graft : Graft channels c nodes cuts copies path k b index cut left rows tree reading high drawn
