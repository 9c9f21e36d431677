-- A box grown by the box of a tree, and the box of a tree, as functions over arrays give them. Definitions.
use Rattle.std.specs.Prelude.{◌≡◌, Bool, true, false, ◌&&◌, List, [], ◌∷◌, ℕ, ◌<◌, min, ltb, Float}
use Rattle.limits.specs.Limits.{width, branch_limit}
use Rattle.boundingbox.specs.Contained.{strictly_contains}
use Rattle.boundingbox.specs.declared.BoundingBox.{BoundingBox}
use Rattle.cuttree.specs.Tree.{Tree, id, least, most, lo, hi}
use Rattle.readings.specs.Number.{Number}
use Rattle.wholetree.specs.Whole.{whole, ends}
use Rattle.layout.specs.Slots.{low_of, high_of}
use Rattle.boxstore.specs.Boxed.{side_in, Boxed, SomeBoxed}
use Rattle.boxstore.specs.Written.{low_in, high_in, written}

-- the ends f of a box, moved out to hold the tree's box
abbrev pub low_with : (d : ℕ) → (ℕ → Number) → Tree (whole d) → List Float
low_with d f t = ends (λ (i : ℕ). least (whole d) (f i) (lo (whole d) t i))

abbrev pub high_with : (d : ℕ) → (ℕ → Number) → Tree (whole d) → List Float
high_with d f t = ends (λ (i : ℕ). most (whole d) (f i) (hi (whole d) t i))

-- capacity c, k cached branches, and a node's id
module _ (c k node : ℕ) (nodes : List (List ℕ)) (points : List (List Float)) (boxes : List (List (List Float))) where
  -- low' and high' are the ends low and high moved out to hold the box of the tree below the node, whichever tree stands there, if low and high are numbers
  abbrev pub EndsGrownBy : List Float → List Float → List Float → List Float → Type 0
  EndsGrownBy low high low' high' = (d : ℕ) (t : Tree (whole d)) (f g : ℕ → Number) → id (whole d) c t ≡ node → Boxed d c k nodes points boxes t
      → low ≡ ends f → high ≡ ends g → (low' ≡ low_with d f t) × (high' ≡ high_with d g t)

  -- r is the box around the two sides of a branch, whichever trees stand there: no matter what is cached for the branch itself
  abbrev pub SidesBox : BoundingBox → Type 0
  SidesBox r = (d : ℕ) (l u : Tree (whole d)) → id (whole d) c l ≡ side_in nodes node 0 → id (whole d) c u ≡ side_in nodes node 1 → Boxed d c k nodes points boxes l → Boxed d c k nodes points boxes u
      → (r.min_values ≡ low_with d (lo (whole d) l) u) × (r.max_values ≡ high_with d (hi (whole d) l) u)

  -- r is the box of the tree below the node, whichever tree stands there
  abbrev pub BoxOf : BoundingBox → Type 0
  BoxOf r = (d : ℕ) (t : Tree (whole d)) → id (whole d) c t ≡ node → Boxed d c k nodes points boxes t
      → (r.min_values ≡ low_of d c t) × (r.max_values ≡ high_of d c t)

-- the two sides of a branch stand
pub record SomeSides (c k node : ℕ) (nodes : List (List ℕ)) (points : List (List Float)) (boxes : List (List (List Float))) : Type 0 where
  pub small : node < branch_limit
  pub left_some : SomeBoxed c k (side_in nodes node 0) nodes points boxes
  pub right_some : SomeBoxed c k (side_in nodes node 1) nodes points boxes

-- A branch's cached box is worked out again from its sides, unless it holds the point strictly inside. r: it is cached and did hold it.
pub record Rebuilt (c k node dimensions : ℕ) (point : List Float) (nodes : List (List ℕ)) (points : List (List Float)) (boxes boxes' : List (List (List Float))) (r : Bool) : Type 0 where
  pub answer : r ≡ (ltb node k && strictly_contains (low_in boxes node) (high_in boxes node) point (min dimensions width))
  pub kept : r ≡ true → boxes' ≡ boxes
  pub moved : r ≡ false → (d : ℕ) (l u : Tree (whole d)) → id (whole d) c l ≡ side_in nodes node 0 → id (whole d) c u ≡ side_in nodes node 1 → Boxed d c k nodes points boxes l → Boxed d c k nodes points boxes u
      → boxes' ≡ written k node (low_with d (lo (whole d) l) u ∷ high_with d (hi (whole d) l) u ∷ []) boxes
