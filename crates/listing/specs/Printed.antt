-- The arrays of a state that a world's printed tree is read from. Definitions.
use Rattle.std.specs.Prelude.{◌≡◌, List, ℕ, Float}
use Rattle.lines.specs.Lines.{Wrote}
use Rattle.cuttree.specs.Run.{World}
use Rattle.wholetree.specs.Whole.{whole}
use Rattle.printed.specs.Printed.{printed_tree}
use Rattle.randomcuttree.specs.declared.RCFTree.{RCFTree}
use Rattle.treestore.specs.Arrays.{NodeStore}
use Rattle.randomcuttree.specs.State.{State, SomeState}

-- the arrays that a printed tree is read from
pub record Reads (a : NodeStore) (nodes : List (List ℕ)) (cuts : List Float) (copies : List ℕ) : Type 0 where
  pub nodes_are : a.nodes ≡ nodes
  pub cuts_are : a.cuts ≡ cuts
  pub copies_are : a.copies ≡ copies

-- What printing asks of its caller: that the header and these arrays are part of a state that a making and its calls leave.
pub record SomeRead (tree : RCFTree) (nodes : List (List ℕ)) (cuts : List Float) (copies : List ℕ) : Type 0 where
  pub lent : NodeStore
  pub points : List (List Float)
  pub marks : List ℕ
  pub read : Reads lent nodes cuts copies
  pub state : SomeState tree lent points marks

-- The printed tree of each world whose header and arrays these are is written from `at` on.
abbrev pub PrintsTree : (tree : RCFTree) (nodes : List (List ℕ)) (cuts : List Float) (copies : List ℕ) (at : ℕ) (before : List ℕ) (place : ℕ) (after : List ℕ) → Type 0
PrintsTree tree nodes cuts copies at before place after =
    (d c : ℕ) (s : Float) (W : World (whole d)) (a : NodeStore) (points : List (List Float)) (marks : List ℕ) → State d c s W tree a points marks
    → Reads a nodes cuts copies → Wrote before at (printed_tree d c W.tree) place after
