-- The walk of a point, in the rows of a tree and in the path that it is written to: what the functions are told and what they give. Definitions.
use Rattle.std.specs.Prelude.{◌≡◌, cond, List, [], ◌∷◌, ℕ, ◌≤◌, length, get_or, take, Float}
use Rattle.std.specs.Float.{nan}
use Rattle.std.specs.Float.Ieee.{le}
use Rattle.limits.specs.Limits.{capacity_limit}
use Rattle.boundingbox.specs.Ends.{channel}
use Rattle.cut.specs.declared.Cut.{Cut}
use Rattle.cuttree.specs.Tree.{Tree, id, walk, leaves}
use Rattle.wholetree.specs.Reading.{Reading}
use Rattle.wholetree.specs.Whole.{whole}
use Rattle.layout.specs.Slots.{row_of, cut_of, field}
use Rattle.layout.specs.Stands.{Laid, InRange, trail}

-- the cut of branch i, as it lies in the rows and the cuts
abbrev pub cut_read : List (List ℕ) → List Float → ℕ → Cut
cut_read n x i = record { dimension = field n i 3; value = get_or x i nan }

-- the side that the point goes to, and the other
abbrev pub step_of : List (List ℕ) → List Float → List Float → ℕ → List ℕ
step_of n x p i = cond (le (channel p (field n i 3)) (get_or x i nan)) (field n i 0 ∷ field n i 1 ∷ []) (field n i 1 ∷ field n i 0 ∷ [])

-- a path's row is the id of a node and that of its sibling
abbrev pub node_of : List ℕ → ℕ
node_of s = get_or s 0 0

-- THE WALK: the rows and cuts from the root are those of t, and the point is p's
pub record Walks (d c : ℕ) (nodes : List (List ℕ)) (cuts point : List Float) (root : ℕ) (t : Tree (whole d)) (p : Reading) : Type 0 where
  pub rows : Laid d c (row_of d c) (λ (j : ℕ). get_or nodes j []) t
  pub values : Laid d c (cut_of d c) (λ (j : ℕ). get_or cuts j nan) t
  pub in_range : InRange d c t
  pub few : leaves (whole d) t ≤ c
  pub root_is : root ≡ id (whole d) c t
  pub point_is : point ≡ p.row

pub record SomeWalks (c : ℕ) (nodes : List (List ℕ)) (cuts point : List Float) (root : ℕ) : Type 0 where
  pub channels : ℕ
  pub tree : Tree (whole channels)
  pub reading : Reading
  pub walks : Walks channels c nodes cuts point root tree reading

-- the first n rows of the path are p's walk
pub record Walked (d c : ℕ) (path : List (List ℕ)) (n : ℕ) (t : Tree (whole d)) (p : Reading) : Type 0 where
  pub long : length path ≡ capacity_limit
  pub most : n ≤ capacity_limit
  pub count : n ≡ walk (whole d) t p
  pub is_trail : take n path ≡ trail d c t p

pub record SomeWalked (c : ℕ) (path : List (List ℕ)) (n : ℕ) : Type 0 where
  pub channels : ℕ
  pub tree : Tree (whole channels)
  pub reading : Reading
  pub walked : Walked channels c path n tree reading
