-- Document 01's cut in whole numbers, with each rounding named: the product once in f64, the subtractions exact, the rest narrowed, the sum rounded in f32, and kept within the side.
use Rattle.std.specs.Prelude.{ℕ, ◌*◌, ◌/◌, ◌^◌, false, cond, Option, Some, None, List, Float}
use Rattle.std.specs.Float.{binary64}
use Rattle.std.specs.Float.Ieee.{round}
use Rattle.std.specs.Float.Ieee.Positive.{num, den}
use Rattle.boundingbox.specs.Contained.{contains}
use Rattle.boundingbox.specs.Wholes.{side, sum_to}
use Rattle.cut.specs.declared.Cut.{Cut}
use Rattle.cut.specs.declared.Separation.{Separation}
use Rattle.cut.specs.Paper.{channel_at, rest_at}
use Rattle.cut.specs.Draw.{low_end, high_end, placed, parts_at}

-- the sum of the n sides from lo to hi times the factor of the word w, rounded once
unfoldable pub number_drawn : (ℕ → Float) → (ℕ → Float) → ℕ → ℕ → Float
unfolding round sum_to
number_drawn lo hi n w = round binary64 false (sum_to (side lo hi) n * (w / 2 ^ 11)) (2 ^ 53)

-- the channel to which that number falls, and what is left of it there. num and den are the number's own fraction
unfoldable pub channel_of : (ℕ → Float) → (ℕ → Float) → ℕ → ℕ → ℕ
unfolding channel_at number_drawn
channel_of lo hi n w = channel_at (side lo hi) n (num (number_drawn lo hi n w)) (den (number_drawn lo hi n w))

unfoldable pub rest_of : (ℕ → Float) → (ℕ → Float) → ℕ → ℕ → Float
unfolding rest_at number_drawn
rest_of lo hi n w = round binary64 false (rest_at (side lo hi) n (num (number_drawn lo hi n w)) (den (number_drawn lo hi n w))) (den (number_drawn lo hi n w))

unfoldable pub cut_of : (ℕ → Float) → (ℕ → Float) → ℕ → ℕ → Cut
unfolding channel_of rest_of placed
cut_of lo hi n w = record { dimension = channel_of lo hi n w; value = placed (lo (channel_of lo hi n w)) (hi (channel_of lo hi n w)) (rest_of lo hi n w) }

-- no cut where the box holds the point, else the cut of the box with the point in it, and whether it parts them
unfoldable pub document_cut : ℕ → List Float → List Float → List Float → ℕ → Option Separation
unfolding cut_of
document_cut n lo hi p w =
    cond (contains lo hi p p n) None
    (Some (record { cut = cut_of (low_end lo p) (high_end hi p) n w; parts = parts_at lo hi p (cut_of (low_end lo p) (high_end hi p) n w) }))
