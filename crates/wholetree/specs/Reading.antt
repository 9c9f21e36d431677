-- A reading as the table keeps it: a row of eight coordinates, +0.0 in the channels beyond the tree's. Definitions.
use Rattle.std.specs.Prelude.{Bool, true, false, ◌&&◌, cond, List, [], ◌∷◌, ℕ, zero, suc, T, eqb, ltb, length, Float}
use Rattle.std.specs.Float.{binary32}
use Rattle.std.specs.Float.Ieee.{fits, eq}
use Rattle.limits.specs.Limits.{width}
use Rattle.readings.specs.Coordinate.{is_coordinate}
use Rattle.boundingbox.specs.Ends.{channel}
use Rattle.readings.specs.Number.{nought, Number, number}
use Rattle.boundingbox.specs.Contained.{every}

-- an f32 that is one of document 01's coordinates
unfoldable pub is_coordinate32 : Float → Bool
unfolding is_coordinate fits
is_coordinate32 x = is_coordinate x && fits binary32 x

unfoldable pub is_row : List Float → Bool
unfolding is_coordinate32 every
is_row xs = eqb (length xs) width && every (λ (i : ℕ). is_coordinate32 (channel xs i)) width

pub record Reading : Type 0 where
  pub row : List Float
  pub row_is_row : T (is_row row)

-- the coordinate in channel i, zero beyond the row
unfoldable pub coordinate : Reading → ℕ → Number
coordinate p i = number (cond (ltb i width) (channel p.row i) nought)

-- equal in every channel
unfoldable pub same_row : List Float → List Float → Bool
unfolding every eq
same_row xs ys = every (λ (i : ℕ). eq (channel xs i) (channel ys i)) width

-- the first n of xs, with +0.0 after its end
unfoldable pub padded : ℕ → List Float → List Float
padded zero xs = []
padded (suc n) [] = nought ∷ padded n []
padded (suc n) (x ∷ xs) = x ∷ padded n xs

unfoldable pub origin : Reading
unfolding is_row padded
origin = record { row = padded width []; row_is_row = tt }

-- coordinates as a reading, and the origin where they are none
unfoldable pub as_reading : (xs : List Float) (b : Bool) → (T b → T (is_row xs)) → Reading
as_reading xs true f = record { row = xs; row_is_row = f tt }
as_reading xs false f = origin

unfoldable pub reading : List Float → Reading
unfolding as_reading
reading xs = as_reading (padded width xs) (is_row (padded width xs)) (λ t. t)
