-- The box around the trees below two nodes, and around the two sides of a branch. Definitions.
use Rattle.std.specs.Prelude.{◌≡◌, List, [], ◌∷◌, ℕ, Float}
use Rattle.boundingbox.specs.declared.BoundingBox.{BoundingBox}
use Rattle.cuttree.specs.Tree.{Tree, id, lo, hi}
use Rattle.wholetree.specs.Whole.{whole}
use Rattle.boxstore.specs.Boxed.{side_in, Boxed}
use Rattle.boxstore.specs.Grown.{low_with, high_with}
use Rattle.boxstore.specs.Written.{written}
use Rattle.rowboxes.specs.declared.Boxing.{Boxing}

-- r is the box around the trees below the nodes a and b, whichever trees stand there
abbrev pub PairBox : (c k a b : ℕ) → List (List ℕ) → List (List Float) → List (List (List Float)) → BoundingBox → Type 0
PairBox c k a b nodes points boxes r = (d : ℕ) (l u : Tree (whole d)) → id (whole d) c l ≡ a → id (whole d) c u ≡ b → Boxed d c k nodes points boxes l → Boxed d c k nodes points boxes u
    → (r.min_values ≡ low_with d (lo (whole d) l) u) × (r.max_values ≡ high_with d (hi (whole d) l) u)

-- the box around the two sides of a cached branch, whichever trees stand there, is kept in its slot, and no other slot is written
abbrev pub SidesKept : (c k node : ℕ) → List (List ℕ) → List (List Float) → (boxes boxes' : List (List (List Float))) → Type 0
SidesKept c k node nodes points boxes boxes' = (d : ℕ) (l u : Tree (whole d)) → id (whole d) c l ≡ side_in nodes node 0 → id (whole d) c u ≡ side_in nodes node 1 → Boxed d c k nodes points boxes l → Boxed d c k nodes points boxes u
    → boxes' ≡ written k node (low_with d (lo (whole d) l) u ∷ high_with d (hi (whole d) l) u ∷ []) boxes

-- r is the box around two nodes, of what boxes are worked out from
abbrev pub OfPair : Boxing → (x y : ℕ) → BoundingBox → Type 0
OfPair b x y r = PairBox b.sizes.capacity b.sizes.cached x y b.nodes.now b.points.now b.boxes.now r
