-- The printed tree of document 01, as bytes. Definitions.
use Rattle.std.proofs.Math.Option.{Option, none, some}
use Rattle.std.specs.Prelude.{List, ◌++◌, ℕ, ◌+◌, ◌*◌}
use Rattle.std.specs.Float.{binary32}
use Rattle.std.specs.Float.Ieee.{to_bits}
use Rattle.limits.specs.Limits.{branch_limit, capacity_limit}
use Rattle.lines.specs.Lines.{branch_line, leaf_line, names_line}
use Rattle.cuttree.specs.Tree.{Tree, leaf, branch, id, mass}
use Rattle.wholetree.specs.Whole.{whole}

-- a tree of d channels and capacity c
module _ (d c : ℕ) where
  -- 'id dimension cut left right mass' of each node, 'branch before left before right'
  abbrev pub lines_of : Tree (whole d) → List ℕ
  lines_of (leaf i q n) = leaf_line (id (whole d) c (leaf i q n)) (mass (whole d) (leaf i q n))
  lines_of (branch b k l r) =
      branch_line b k.channel (to_bits binary32 k.value.value) (id (whole d) c l) (id (whole d) c r) (mass (whole d) (branch b k l r)) ++ lines_of l ++ lines_of r

  -- 'a line of names, then lines of values', and 'An empty tree prints the names line alone.'
  abbrev pub printed_tree : Option (Tree (whole d)) → List ℕ
  printed_tree none = names_line
  printed_tree (some t) = names_line ++ lines_of t

-- what a tree prints at most, 13,057 bytes: a line of names of 33, lines of branches of 32 and of leaves of 19 (`printed_few` of crate `listing`)
abbrev pub nodes_limit : ℕ
nodes_limit = branch_limit * 32 + capacity_limit * 19

abbrev pub tree_limit : ℕ
tree_limit = 33 + nodes_limit
