-- Looking for the reading of an index in a tree that may be empty, and what is asked where one was looked for. Definitions.
use Rattle.std.specs.Prelude.{◌≡◌, false, List, ℕ, Float}
use Rattle.std.proofs.Math.Option.{some}
use Rattle.cuttree.specs.Run.{World}
use Rattle.wholetree.specs.Reading.{Reading}
use Rattle.wholetree.specs.Whole.{whole}
use Rattle.treestore.specs.declared.Found.{Found}
use Rattle.treestore.specs.Arrays.{NodeStore}
use Rattle.treestore.specs.Finds.{SomeSought, Finds}
use Rattle.randomcuttree.specs.declared.RCFTree.{RCFTree}
use Rattle.randomcuttree.specs.State.{store_header, State}

-- no walk
abbrev pub nowhere : Found
nowhere = record { walk = 0; leaf = 0; held = false }

-- what looking asks: of a tree that holds something, that the reading can be walked through it
abbrev pub Seeks : RCFTree → List (List ℕ) → List Float → List (List Float) → ℕ → Type 0
Seeks tree nodes cuts points i = (tree.total ≡ 0 → ⊥) → SomeSought (store_header tree) nodes cuts points i

-- What is found, and the path before and after: nothing in an empty tree.
pub record Sees (tree : RCFTree) (nodes : List (List ℕ)) (cuts : List Float) (points : List (List Float)) (i : ℕ) (before : List (List ℕ)) (r : Found) (path : List (List ℕ)) : Type 0 where
  pub empty : tree.total ≡ 0 → (r ≡ nowhere) × (path ≡ before)
  pub walked : (tree.total ≡ 0 → ⊥) → Finds (store_header tree) nodes cuts points i before r path

-- What the add or the delete of a reading that was looked for asks: a state in which the index is written, and what was found there.
pub record SomeSeen (tree : RCFTree) (a : NodeStore) (points : List (List Float)) (i : ℕ) (path : List (List ℕ)) (f : Found) : Type 0 where
  pub channels : ℕ
  pub capacity : ℕ
  pub share : Float
  pub world : World (whole channels)
  pub marks : List ℕ
  pub point : Reading
  pub state : State channels capacity share world tree a points marks
  pub is_written : world.table i ≡ some point
  pub seen : Sees tree a.nodes a.cuts points i path f path
