-- The loop from the leaf to the root: what it draws in, and what it keeps. Definitions.
use Rattle.std.specs.Prelude.{◌≡◌, Bool, true, false, List, [], ℕ, ◌≤◌, ◌<◌, length, get_or, take, Float}
use Rattle.limits.specs.Limits.{width, capacity_limit, point_limit}
use Rattle.boundingbox.specs.Contained.{contains}
use Rattle.cuttree.specs.Setting.{Cut}
use Rattle.cuttree.specs.Tree.{Tree, walk, ending}
use Rattle.cuttree.specs.Walk.{sub, kept}
use Rattle.readings.specs.Number.{zero}
use Rattle.wholetree.specs.Reading.{Reading}
use Rattle.wholetree.specs.Whole.{whole}
use Rattle.layout.specs.Slots.{low_of, high_of}
use Rattle.layout.specs.Stands.{Once, trail}
use Rattle.boxstore.specs.Boxed.{Boxed}
use Rattle.drawing.specs.declared.Highest.{Highest}

-- stands for the cut before any is kept
abbrev pub no_cut : (d : ℕ) → ℕ × Cut (whole d)
no_cut d = (0, record { channel = 0; value = zero })

-- the words by their number, and 0 beyond them
abbrev pub word_at : List ℕ → ℕ → ℕ
word_at ws n = get_or ws n 0

module _ (d c : ℕ) (t : Tree (whole d)) (p : Reading) where
  -- the tree whose boxes stand in the arrays, the walk of p in the path, and a word for each of its nodes
  pub record Drawing (k : ℕ) (nodes : List (List ℕ)) (points : List (List Float)) (boxes : List (List (List Float))) (path : List (List ℕ)) (len leaf : ℕ) (words : List ℕ) (point : List Float) : Type 0 where
    pub boxed : Boxed d c k nodes points boxes t
    pub once : Once d c t
    pub count : len ≡ walk (whole d) t p
    pub most : len ≤ capacity_limit
    pub is_trail : take len path ≡ trail d c t p
    pub enough : len ≤ length words
    pub row : point ≡ p.row
    pub leaf_small : leaf < point_limit
    pub leaf_row : get_or points leaf [] ≡ (ending (whole d) t p).value.row

  -- whether the box of the walk's node of height j holds the point
  abbrev pub holds_at : ℕ → Bool
  holds_at j = contains (low_of d c (sub (whole d) t j p)) (high_of d c (sub (whole d) t j p)) p.row p.row width

  -- what is kept of a walk of len nodes, and the height above the leaf from which on its boxes hold the point
  pub record Kept (words : List ℕ) (len : ℕ) (r : Highest) : Type 0 where
    pub height_is : r.height ≡ (kept (whole d) t p (word_at words) (no_cut d) len).0
    pub channel_is : r.cut.dimension ≡ (kept (whole d) t p (word_at words) (no_cut d) len).1.channel
    pub value_is : r.cut.value ≡ (kept (whole d) t p (word_at words) (no_cut d) len).1.value.value
    pub above_leaf : 0 < r.top
    pub top_most : r.top ≤ len
    pub hold : (j : ℕ) → r.top ≤ j → j < len → holds_at j ≡ true
    pub hold_not : (j : ℕ) → 0 < j → j < r.top → holds_at j ≡ false

-- some tree is there to draw in
pub record SomeDrawing (c k : ℕ) (nodes : List (List ℕ)) (points : List (List Float)) (boxes : List (List (List Float))) (path : List (List ℕ)) (len leaf : ℕ) (words : List ℕ) (point : List Float) : Type 0 where
  pub channels : ℕ
  pub tree : Tree (whole channels)
  pub reading : Reading
  pub drawing : Drawing channels c tree reading k nodes points boxes path len leaf words point
