-- The cached boxes of a tree through an edit: what a path and a point tell of the walk, and the boxes of the tree after. Definitions.
use Rattle.std.specs.Prelude.{◌≡◌, true, false, List, [], ℕ, ◌+◌, ltb, get_or, take, Float}
use Rattle.std.proofs.Math.Option.{some}
use Rattle.limits.specs.Limits.{width, branch_limit}
use Rattle.cuttree.specs.Setting.{Cut}
use Rattle.boundingbox.specs.Padding.{Padded}
use Rattle.cuttree.specs.Tree.{Tree, id, ending, walk, height, found, above, All}
use Rattle.cuttree.specs.Walk.{sub, sibling, replace, graft}
use Rattle.wholetree.specs.Reading.{Reading}
use Rattle.wholetree.specs.Whole.{whole, tab}
use Rattle.layout.specs.Slots.{box_ends, uses}
use Rattle.layout.specs.Layout.{no_box_ends, box_in}
use Rattle.layout.specs.Stands.{Once, InRange, trail}
use Rattle.boxstore.specs.Boxed.{Linked}
use Rattle.boxstore.specs.Written.{written}

-- the boxes that a tree keeps, k branches being cached
abbrev pub boxes_of : (d c k : ℕ) → Tree (whole d) → List (List (List Float))
boxes_of d c k t = tab branch_limit (box_in d c k (some t))

-- the path has the walk of p in the tree, and the point is p
pub record Walked (d c : ℕ) (path : List (List ℕ)) (point : List Float) (t : Tree (whole d)) (p : Reading) : Type 0 where
  pub once : Once d c t
  pub rows : take (walk (whole d) t p) path ≡ trail d c t p
  pub row : point ≡ p.row

-- A new branch b stands above the walk's node of height h, n nodes being above that. The cached boxes are the tree's from before, and the new branch's with it.
pub record Grafted (d c k n : ℕ) (boxes : List (List (List Float))) (t : Tree (whole d)) (p : Reading) (b i h : ℕ) (cut : Cut (whole d)) : Type 0 where
  pub above_it : n + h ≡ height (whole d) t p
  pub fresh : uses d c t b ≡ 0
  pub boxes_are : boxes ≡ written k b (box_ends d c (above (whole d) b cut i p (sub (whole d) t h p))) (boxes_of d c k t)

-- some tree has a new branch
pub record SomeGrafted (k n : ℕ) (path : List (List ℕ)) (point : List Float) (boxes : List (List (List Float))) : Type 0 where
  pub channels : ℕ
  pub capacity : ℕ
  pub tree : Tree (whole channels)
  pub reading : Reading
  pub number : ℕ
  pub index : ℕ
  pub high : ℕ
  pub drawn : Cut (whole channels)
  pub walked : Walked channels capacity path point tree reading
  pub grafted : Grafted channels capacity k n boxes tree reading number index high drawn

-- Then the cached boxes become those of the tree with the new branch in it, whichever tree it is.
abbrev pub GrownAbove : (k n : ℕ) → List (List ℕ) → List Float → (boxes boxes' : List (List (List Float))) → Type 0
GrownAbove k n path point boxes boxes' = (d c : ℕ) (t : Tree (whole d)) (p : Reading) (b i h : ℕ) (cut : Cut (whole d)) → Walked d c path point t p → Grafted d c k n boxes t p b i h cut
    → boxes' ≡ boxes_of d c k (graft (whole d) b i p (h, cut) t)

-- the tree without its last copy of p: the sibling in the parent's place
abbrev pub lifted : (d : ℕ) → Tree (whole d) → Reading → Tree (whole d)
lifted d t p = replace (whole d) t 1 p (sibling (whole d) t 0 p)

-- A last copy is gone, n nodes being above its parent. The rows of the branches are those of the tree after, the cached boxes still the tree's from before, but that the parent's is cleared.
-- In the channels from `dimensions` on every reading has +0.0.
pub record Forgotten (d c k n dimensions : ℕ) (nodes : List (List ℕ)) (points : List (List Float)) (boxes : List (List (List Float))) (t : Tree (whole d)) (p : Reading) : Type 0 where
  pub above_it : n + 1 ≡ height (whole d) t p
  pub held : found (whole d) t p ≡ true
  pub last : ltb 1 (ending (whole d) t p).copies ≡ false
  pub narrow : All (whole d) (λ i q n. Padded q.row dimensions width) t
  pub boxes_are : boxes ≡ written k (id (whole d) c (sub (whole d) t 1 p)) no_box_ends (boxes_of d c k t)
  pub links : Linked d c nodes (lifted d t p)
  pub leaves : All (whole d) (λ i q n. get_or points i [] ≡ q.row) (lifted d t p)
  pub in_range : InRange d c (lifted d t p)

-- some tree's last copy is gone
pub record SomeForgotten (c k n dimensions : ℕ) (path : List (List ℕ)) (point : List Float) (nodes : List (List ℕ)) (points : List (List Float)) (boxes : List (List (List Float))) : Type 0 where
  pub channels : ℕ
  pub tree : Tree (whole channels)
  pub reading : Reading
  pub walked : Walked channels c path point tree reading
  pub forgotten : Forgotten channels c k n dimensions nodes points boxes tree reading

-- Then the cached boxes become those of the tree after, whichever tree it is.
abbrev pub RepairedAbove : (c k n dimensions : ℕ) → List (List ℕ) → List Float → List (List ℕ) → List (List Float) → (boxes boxes' : List (List (List Float))) → Type 0
RepairedAbove c k n dimensions path point nodes points boxes boxes' = (d : ℕ) (t : Tree (whole d)) (p : Reading) → Walked d c path point t p → Forgotten d c k n dimensions nodes points boxes t p
    → boxes' ≡ boxes_of d c k (lifted d t p)
