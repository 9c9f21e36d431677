-- A tree whose boxes stand in arrays: the rows give each branch's sides, the table each leaf's point, and the cached boxes are the tree's. Definitions.
use Rattle.std.specs.Prelude.{◌≡◌, List, [], ℕ, get_or, Float}
use Rattle.cuttree.specs.Tree.{Tree, leaf, branch, id, All}
use Rattle.wholetree.specs.Whole.{whole}
use Rattle.layout.specs.Stands.{Once, InRange, Cached}

-- the id of side i of branch b, 0 the left one and 1 the right one
abbrev pub side_in : List (List ℕ) → ℕ → ℕ → ℕ
side_in nodes b i = get_or (get_or nodes b []) i 0

module _ (d c : ℕ) where
  -- Each branch's row has the ids of its sides. The rest of the row is no matter here, so that masses may be changed before boxes or after.
  abbrev pub Linked : List (List ℕ) → Tree (whole d) → Type 0
  Linked nodes (leaf i q n) = Unit {0}
  Linked nodes (branch b k l r) = (side_in nodes b 0 ≡ id (whole d) c l) × (side_in nodes b 1 ≡ id (whole d) c r) × Linked nodes l × Linked nodes r

  -- k branches are cached
  pub record Boxed (k : ℕ) (nodes : List (List ℕ)) (points : List (List Float)) (boxes : List (List (List Float))) (t : Tree (whole d)) : Type 0 where
    pub links : Linked nodes t
    pub leaves : All (whole d) (λ i q n. get_or points i [] ≡ q.row) t
    pub in_range : InRange d c t
    pub cached : Cached d c k boxes t

-- some tree's boxes stand below that node
pub record SomeBoxed (c k node : ℕ) (nodes : List (List ℕ)) (points : List (List Float)) (boxes : List (List (List Float))) : Type 0 where
  pub channels : ℕ
  pub tree : Tree (whole channels)
  pub at_node : id (whole channels) c tree ≡ node
  pub once : Once channels c tree
  pub boxed : Boxed channels c k nodes points boxes tree
