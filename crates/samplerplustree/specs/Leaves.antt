-- An add and a delete that are never refused. Definitions.
use Rattle.std.specs.Prelude.{◌≡◌, cond, List, ℕ, ◌≤◌, ◌<◌, eqb, Float}
use Rattle.std.proofs.Math.Option.{some}
use Rattle.cuttree.specs.Tree.{sum_of}
use Rattle.cuttree.specs.Run.{World, Answer, added, add, delete, call, total_of}
use Rattle.wholetree.specs.Reading.{Reading}
use Rattle.wholetree.specs.Whole.{whole}
use Rattle.treestore.specs.declared.Found.{Found}
use Rattle.treestore.specs.Arrays.{NodeStore}
use Rattle.randomcuttree.specs.declared.RCFTree.{RCFTree}
use Rattle.randomcuttree.specs.State.{State, header_of}
use Rattle.randomcuttree.specs.Finds.{Sees}
use Rattle.samplerplustree.specs.declared.AddedLeaf.{AddedLeaf}

-- what has an add of index i with n words never refused: a point is written, and was looked for, there is room, and there are words for any walk
pub record SomeAdmits (tree : RCFTree) (a : NodeStore) (points : List (List Float)) (i : ℕ) (path : List (List ℕ)) (f : Found) (n : ℕ) : Type 0 where
  pub channels : ℕ
  pub capacity : ℕ
  pub share : Float
  pub world : World (whole channels)
  pub marks : List ℕ
  pub point : Reading
  pub state : State channels capacity share world tree a points marks
  pub is_written : world.table i ≡ some point
  pub room : total_of (whole channels) world.tree < capacity
  pub enough : capacity ≤ n
  pub seen : Sees tree a.nodes a.cuts points i path f path

-- the leaf's index that the add answers, the header and the state after it
pub record LeafAdded (d c : ℕ) (s : Float) (x : Answer (whole d) × World (whole d)) (r : AddedLeaf) (after : NodeStore) (points : List (List Float)) (marks : List ℕ) : Type 0 where
  pub words : ℕ
  pub answer : x.0 ≡ added r.leaf words
  pub tree_is : r.tree ≡ header_of d c s x.1
  pub state : State d c s x.1 (header_of d c s x.1) after points marks

abbrev pub AddsLeaf : RCFTree → NodeStore → List (List Float) → ℕ → List ℕ → AddedLeaf → NodeStore → Type 0
AddsLeaf tree before points i ws r after = (d c : ℕ) (s : Float) (W : World (whole d)) (marks : List ℕ) (p : Reading) → State d c s W tree before points marks → W.table i ≡ some p
    → LeafAdded d c s (call (whole d) c W (add i ws)) r after points marks

-- what has a delete of index i never refused: its leaf has a copy
pub record SomeCopy (tree : RCFTree) (a : NodeStore) (points : List (List Float)) (i : ℕ) : Type 0 where
  pub channels : ℕ
  pub capacity : ℕ
  pub share : Float
  pub world : World (whole channels)
  pub marks : List ℕ
  pub state : State channels capacity share world tree a points marks
  pub copy : 0 < sum_of (whole channels) (λ j q n. cond (eqb j i) n 0) (λ b. 0) world.tree

pub record LeafDeleted (d c : ℕ) (s : Float) (W : World (whole d)) (r : RCFTree) (after : NodeStore) (points : List (List Float)) (marks : List ℕ) : Type 0 where
  pub tree_is : r ≡ header_of d c s W
  pub state : State d c s W (header_of d c s W) after points marks

abbrev pub DeletesLeaf : RCFTree → NodeStore → List (List Float) → ℕ → RCFTree → NodeStore → Type 0
DeletesLeaf tree before points i r after = (d c : ℕ) (s : Float) (W : World (whole d)) (marks : List ℕ) → State d c s W tree before points marks
    → LeafDeleted d c s (call (whole d) c W (delete i)).1 r after points marks
