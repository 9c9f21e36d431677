-- The smallest box around points. Definitions.
-- Proved of it (proofs/Around.antt): the box of a list of points is one (`smallest_around`), it is the only one (`smallest_unique`, `same_box`), around readings it has
-- coordinates for ends (`smallest_box`), and it stays smallest without a point strictly inside (`smallest_without`).
use Rattle.std.specs.Prelude.{◌≡◌, List, [], ◌∷◌, ℕ, ◌<◌, T, Float}
use Rattle.std.specs.Float.Ieee.{le}
use Rattle.boundingbox.specs.Ends.{channel, least, greatest, joined}

-- Document 01, 'Copy counts': 'the smallest box around them runs in each channel from their least to their largest coordinate'.
-- `In` says which points: in each of n channels every one of them lies between the ends, and each end is the coordinate of one of them.
pub record Smallest (In : List Float → Type 0) (lo hi : List Float) (n : ℕ) : Type 0 where
  pub below : (p : List Float) → In p → (i : ℕ) → i < n → T (le (channel lo i) (channel p i))
  pub above : (p : List Float) → In p → (i : ℕ) → i < n → T (le (channel p i) (channel hi i))
  pub low_met : (i : ℕ) → i < n → (p : List Float) × In p × (channel lo i ≡ channel p i)
  pub high_met : (i : ℕ) → i < n → (p : List Float) × In p × (channel hi i ≡ channel p i)

-- the ends after growing by each point of a list, in its order
unfoldable pub lowest : List Float → List (List Float) → List Float
lowest lo [] = lo
lowest lo (p ∷ ps) = lowest (joined least lo p) ps

unfoldable pub highest : List Float → List (List Float) → List Float
highest hi [] = hi
highest hi (p ∷ ps) = highest (joined greatest hi p) ps
