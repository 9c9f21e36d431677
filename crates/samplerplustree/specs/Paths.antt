-- What looking for a reading leaves of a lent path, said of the world that it is looked for in. Definitions.
use Rattle.std.specs.Prelude.{◌≡◌, List, [], ◌++◌, ℕ, length, drop, Float}
use Rattle.std.proofs.Math.Option.{Option, none, some}
use Rattle.cuttree.specs.Tree.{Tree}
use Rattle.cuttree.specs.Run.{World}
use Rattle.wholetree.specs.Reading.{Reading}
use Rattle.wholetree.specs.Whole.{whole}
use Rattle.layout.specs.Stands.{trail}
use Rattle.treestore.specs.Arrays.{NodeStore}
use Rattle.randomcuttree.specs.declared.RCFTree.{RCFTree}
use Rattle.randomcuttree.specs.State.{State}

-- the rows of a reading's walk, none where there is no tree or no reading
abbrev pub rows_in : (d c : ℕ) → Option (Tree (whole d)) → Option Reading → List (List ℕ)
rows_in d c none q = []
rows_in d c (some t) none = []
rows_in d c (some t) (some p) = trail d c t p

-- the path after the walk of an index's reading: the walk's rows in front, and each other as before
abbrev pub path_to : (d c : ℕ) → World (whole d) → ℕ → List (List ℕ) → List (List ℕ)
path_to d c W i path = let rows = rows_in d c W.tree (W.table i) in rows ++ drop (length rows) path

-- the path before and after, whichever world's the lent tree is
abbrev pub WalksTo : RCFTree → NodeStore → List (List Float) → ℕ → List (List ℕ) → List (List ℕ) → Type 0
WalksTo tree a points i path path' = (d c : ℕ) (s : Float) (W : World (whole d)) (marks : List ℕ) → State d c s W tree a points marks → path' ≡ path_to d c W i path
