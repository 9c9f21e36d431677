-- Rows that are those of a tree give the ids of each branch's sides. Assumes nothing.
use mathlib.Core.Path.{ap}
use mathlib.Core.List.{List, []}
use Prim.Native.Nat.{ℕ}
use lib.ListN.{get_or}
use Rattle.cuttree.specs.Tree.{Tree, leaf, branch}
use Rattle.wholetree.specs.Whole.{whole}
use Rattle.layout.specs.Slots.{row_of}
use Rattle.layout.specs.Stands.{Laid}
use Rattle.boxstore.specs.Boxed.{Linked}

pub linked : (d c : ℕ) (nodes : List (List ℕ)) (t : Tree (whole d)) → Laid d c (row_of d c) (λ (j : ℕ). get_or nodes j []) t → Linked d c nodes t
linked d c nodes (leaf i q n) h = tt
linked d c nodes (branch b x l r) h = (ap (λ (y : List ℕ). get_or y 0 0) h.0, ap (λ (y : List ℕ). get_or y 1 0) h.0, linked d c nodes l h.1, linked d c nodes r h.2)
