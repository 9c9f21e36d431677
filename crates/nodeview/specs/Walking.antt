-- The walk from the root to the leaf: what it is told of a tree, the chances that it works out on the way, and what it leaves in the lent path and chances. Definitions.
use Rattle.std.specs.Prelude.{◌≡◌, cond, List, ◌++◌, ℕ, ◌+◌, ◌≤◌, ◌<◌, length, get_or, drop, Float}
use Rattle.std.proofs.Math.Option.{Option, none, some}
use Rattle.std.specs.Float.{nan}
use Rattle.limits.specs.Limits.{width}
use Rattle.probability.specs.Probability.{probability}
use Rattle.cuttree.specs.Tree.{Tree, walk}
use Rattle.cuttree.specs.Run.{World}
use Rattle.wholetree.specs.Reading.{Reading}
use Rattle.wholetree.specs.Whole.{whole}
use Rattle.layout.specs.Slots.{field}
use Rattle.layout.specs.Stands.{trail}
use Rattle.walk.specs.Walks.{Walks}
use Rattle.boxstore.specs.Boxed.{Boxed}
use Rattle.boxstore.specs.Written.{low_in, high_in}
use Rattle.rowboxes.specs.Rows.{PaddedRow, PaddedBoxes}
use Rattle.treestore.specs.Arrays.{NodeStore}
use Rattle.randomcuttree.specs.declared.RCFTree.{RCFTree}
use Rattle.randomcuttree.specs.State.{State}
use Rattle.nodeview.specs.Told.{ReportRead}

-- the chance of the box kept for the branch j
abbrev pub kept_chance : List (List (List Float)) → ℕ → List Float → Float
kept_chance boxes j point = probability (low_in boxes j) (high_in boxes j) point width

-- Of a walk of n nodes, the chance of each branch that is cached stands at its depth. k branches are cached.
abbrev pub Chanced : ℕ → List (List (List Float)) → List Float → List (List ℕ) → ℕ → List Float → Type 0
Chanced k boxes point path n chances = (i : ℕ) → i + 1 < n → field path i 0 < k → get_or chances i nan ≡ kept_chance boxes (field path i 0) point

-- and at every other place what stood there before
pub record Unchanced (k : ℕ) (path : List (List ℕ)) (n : ℕ) (chances chances' : List Float) : Type 0 where
  pub as_many : length chances' ≡ length chances
  pub others : (i : ℕ) → (i + 1 < n → field path i 0 < k → ⊥) → get_or chances' i nan ≡ get_or chances i nan

-- Some tree of d channels has its rows, cuts and cached boxes in the arrays, the point walks it, and beyond these channels boxes and point hold +0.0.
pub record SomeWalking (d c k : ℕ) (nodes : List (List ℕ)) (cuts : List Float) (boxes : List (List (List Float))) (point : List Float) (root : ℕ) : Type 0 where
  pub tree : Tree (whole d)
  pub reading : Reading
  pub points : List (List Float)
  pub walks : Walks d c nodes cuts point root tree reading
  pub boxed : Boxed d c k nodes points boxes tree
  pub narrow : d ≤ width
  pub point_padded : PaddedRow d point
  pub boxes_padded : PaddedBoxes d boxes

-- ---- the lent path and the chances after a report
-- the tree that is walked: none where the coordinates are refused (6 or 7), or the tree is empty (12); where too few rows are lent (15), it is walked
abbrev pub tree_walked : (d : ℕ) → World (whole d) → List Float → Option (Tree (whole d))
tree_walked d W xs = cond ((whole d).counted xs) (cond ((whole d).good xs) W.tree none) none

-- p's walk in t stands at the front of the path and the chances of its cached branches at their depths; all else is as before
pub record WalkLeft (d c k : ℕ) (boxes : List (List (List Float))) (t : Tree (whole d)) (p : Reading) (path : List (List ℕ)) (chances : List Float) (path' : List (List ℕ)) (chances' : List Float) : Type 0 where
  pub path_is : path' ≡ trail d c t p ++ drop (walk (whole d) t p) path
  pub chanced : Chanced k boxes p.row path' (walk (whole d) t p) chances'
  pub unchanced : Unchanced k path' (walk (whole d) t p) chances chances'

abbrev pub Left : (d c k : ℕ) → List (List (List Float)) → Option (Tree (whole d)) → Reading → List (List ℕ) → List Float → List (List ℕ) → List Float → Type 0
Left d c k boxes none p path chances path' chances' = (path' ≡ path) × (chances' ≡ chances)
Left d c k boxes (some t) p path chances path' chances' = WalkLeft d c k boxes t p path chances path' chances'

-- A report of the coordinates xs leaves this in them: that of each world whose header and arrays these are.
abbrev pub MemoryLeft : RCFTree → List (List ℕ) → List Float → List ℕ → List (List Float) → List (List (List Float)) → List Float → List (List ℕ) → List Float → List (List ℕ) → List Float → Type 0
MemoryLeft tree nodes cuts copies points boxes xs path chances path' chances' =
    (d c : ℕ) (s : Float) (W : World (whole d)) (a : NodeStore) (marks : List ℕ) → State d c s W tree a points marks
    → ReportRead a nodes cuts copies boxes → Left d c tree.cached boxes (tree_walked d W xs) ((whole d).point xs) path chances path' chances'
