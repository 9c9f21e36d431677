-- A tree that stands in the arrays that its printed lines are read from. Definitions.
use Rattle.std.specs.Prelude.{◌≡◌, List, [], ℕ, ◌+◌, ◌<◌, length, get_or, Float}
use Rattle.std.specs.Float.{nan, binary32}
use Rattle.std.specs.Float.Ieee.{to_bits}
use Rattle.lines.specs.Lines.{branch_line, Wrote}
use Rattle.cuttree.specs.Tree.{Tree, id, All}
use Rattle.wholetree.specs.Whole.{whole}
use Rattle.printed.specs.Printed.{lines_of}
use Rattle.layout.specs.Slots.{field, row_of, cut_of}
use Rattle.layout.specs.Stands.{Laid, Once, InRange}

-- the line of the branch whose row and cut stand at its number
abbrev pub row_line : List (List ℕ) → List Float → ℕ → List ℕ
row_line nodes cuts b = branch_line b (field nodes b 3) (to_bits binary32 (get_or cuts b nan)) (field nodes b 0) (field nodes b 1) (field nodes b 2)

module _ (d c : ℕ) where
  -- the tree's rows, cuts and copies stand in the arrays
  pub record Listed (nodes : List (List ℕ)) (cuts : List Float) (copies : List ℕ) (t : Tree (whole d)) : Type 0 where
    pub rows : Laid d c (row_of d c) (λ (j : ℕ). get_or nodes j []) t
    pub values : Laid d c (cut_of d c) (λ (j : ℕ). get_or cuts j nan) t
    pub leaves : All (whole d) (λ i q n. get_or copies i 0 ≡ n) t
    pub in_range : InRange d c t

-- some tree stands below that node, and the place from which it is printed is one from which the next can be counted
pub record SomeListed (c node at : ℕ) (nodes : List (List ℕ)) (cuts : List Float) (copies : List ℕ) : Type 0 where
  pub channels : ℕ
  pub tree : Tree (whole channels)
  pub at_node : id (whole channels) c tree ≡ node
  pub once : Once channels c tree
  pub listed : Listed channels c nodes cuts copies tree
  pub room : at + length (lines_of channels c tree) < 100000000000

-- The lines of the tree below the node, whichever tree stands there, are written from `at` on.
abbrev pub PrintsNode : (c node : ℕ) (nodes : List (List ℕ)) (cuts : List Float) (copies : List ℕ) (at : ℕ) (before : List ℕ) (place : ℕ) (after : List ℕ) → Type 0
PrintsNode c node nodes cuts copies at before place after =
    (d : ℕ) (t : Tree (whole d)) → id (whole d) c t ≡ node → Listed d c nodes cuts copies t → Wrote before at (lines_of d c t) place after
