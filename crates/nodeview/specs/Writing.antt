-- The loop from the leaf to the root: what it is told of a walk, and the rows that it writes. Definitions.
use Rattle.std.specs.Prelude.{◌≡◌, List, ◌++◌, map, ℕ, ◌≤◌, ◌<◌, length, drop, Float}
use Rattle.limits.specs.Limits.{width}
use Rattle.cuttree.specs.Tree.{Tree}
use Rattle.wholetree.specs.Reading.{Reading}
use Rattle.wholetree.specs.Whole.{whole}
use Rattle.walk.specs.Walks.{Walked}
use Rattle.nodestore.specs.Stored.{Stored}
use Rattle.boxstore.specs.Boxed.{Boxed}
use Rattle.rowboxes.specs.Rows.{PaddedRow, PaddedTable, PaddedBoxes}
use Rattle.nodeview.specs.Report.{rows_of}
use Rattle.nodeview.specs.Told.{numbers_of}

-- t stands in the arrays, k branches cached; the path is p's walk in it, and the point is p
pub record Writing (d c k : ℕ) (nodes : List (List ℕ)) (copies : List ℕ) (points : List (List Float)) (boxes : List (List (List Float))) (path : List (List ℕ)) (len : ℕ) (point : List Float) (t : Tree (whole d)) (p : Reading) : Type 0 where
  pub cuts : List Float
  pub few : k < c
  pub stored : Stored d c nodes cuts copies t
  pub boxed : Boxed d c k nodes points boxes t
  pub walked : Walked d c path len t p
  pub row : point ≡ p.row

-- Some tree of d channels does, all that its rows hold beyond these is +0.0, and there is a lent row for each node of the walk.
pub record SomeWriting (d c k : ℕ) (nodes : List (List ℕ)) (copies : List ℕ) (points : List (List Float)) (boxes : List (List (List Float))) (path : List (List ℕ)) (len : ℕ) (point : List Float) (lent : List (List ℕ)) : Type 0 where
  pub tree : Tree (whole d)
  pub reading : Reading
  pub writing : Writing d c k nodes copies points boxes path len point tree reading
  pub narrow : d ≤ width
  pub point_padded : PaddedRow d point
  pub table_padded : PaddedTable d points
  pub boxes_padded : PaddedBoxes d boxes
  pub room : len ≤ length lent

-- The rows of the report are written, whichever tree it is, and those beyond stay as they are.
abbrev pub Writes : (c k : ℕ) → List (List ℕ) → List ℕ → List (List Float) → List (List (List Float)) → List (List ℕ) → ℕ → List Float → (lent lent' : List (List ℕ)) → Type 0
Writes c k nodes copies points boxes path len point lent lent' =
    (d : ℕ) (t : Tree (whole d)) (p : Reading) → Writing d c k nodes copies points boxes path len point t p
    → lent' ≡ map numbers_of (rows_of d c t p) ++ drop len lent
