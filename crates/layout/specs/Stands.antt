-- A tree standing in arrays: each branch's slot is its own, and each leaf's point is the table's. What functions below the whole tree are told. Definitions.
use Rattle.std.specs.Prelude.{◌≡◌, cond, List, [], ◌∷◌, ℕ, ◌+◌, ◌≤◌, ◌<◌, get_or, Float}
use Rattle.std.specs.Float.{nan}
use Rattle.limits.specs.Limits.{width, point_limit}
use Rattle.cuttree.specs.Setting.{below}
use Rattle.cuttree.specs.Tree.{Tree, leaf, branch, id, All}
use Rattle.wholetree.specs.Reading.{Reading}
use Rattle.wholetree.specs.Whole.{whole}
use Rattle.layout.specs.Slots.{row_of, cut_of, box_ends, uses}

-- stands in a path in place of the root's sibling
abbrev pub no_sibling : ℕ
no_sibling = 65535

module _ (d c : ℕ) where
  -- R gives f of each branch at its number
  abbrev pub Laid : {A : Type 0} → (Tree (whole d) → A) → (ℕ → A) → Tree (whole d) → Type 0
  Laid f R (leaf i q n) = Unit {0}
  Laid f R (branch b k l r) = (R b ≡ f (branch b k l r)) × Laid f R l × Laid f R r

  -- the same for the branches numbered below k alone: those that are cached
  abbrev pub LaidBelow : {A : Type 0} → ℕ → (Tree (whole d) → A) → (ℕ → A) → Tree (whole d) → Type 0
  LaidBelow k f R (leaf i q n) = Unit {0}
  LaidBelow k f R (branch b x l r) = (b < k → R b ≡ f (branch b x l r)) × LaidBelow k f R l × LaidBelow k f R r

  -- each number is one branch's at most
  abbrev pub Once : Tree (whole d) → Type 0
  Once t = (j : ℕ) → uses d c t j ≤ 1

  -- branch numbers, channels and point indices are in range
  abbrev pub InRange : Tree (whole d) → Type 0
  InRange (leaf i q n) = i < point_limit
  InRange (branch b k l r) = (b + 1 < c) × (k.channel < width) × InRange l × InRange r

  -- the rows, the cuts and the points of the table
  pub record Stands (nodes : List (List ℕ)) (cuts : List Float) (points : List (List Float)) (t : Tree (whole d)) : Type 0 where
    pub rows : Laid (row_of d c) (λ (j : ℕ). get_or nodes j []) t
    pub values : Laid (cut_of d c) (λ (j : ℕ). get_or cuts j nan) t
    pub leaves : All (whole d) (λ i q n. get_or points i [] ≡ q.row) t
    pub in_range : InRange t

  -- the cached boxes
  abbrev pub Cached : ℕ → List (List (List Float)) → Tree (whole d) → Type 0
  Cached k boxes t = LaidBelow k (box_ends d c) (λ (j : ℕ). get_or boxes j []) t

  -- The walk of p as `set_path` keeps it: from the root to the leaf, each node's id with that of its sibling; s stands for the root's, which has none.
  abbrev pub trail_from : ℕ → Tree (whole d) → Reading → List (List ℕ)
  trail_from s (leaf i q n) p = ((i + c) ∷ s ∷ []) ∷ []
  trail_from s (branch b k l r) p = (b ∷ s ∷ []) ∷ cond (below (whole d) k p) (trail_from (id (whole d) c r) l p) (trail_from (id (whole d) c l) r p)

  abbrev pub trail : Tree (whole d) → Reading → List (List ℕ)
  trail t p = trail_from no_sibling t p
