-- What is answered to a recorded cut choice. Definitions.
use Rattle.std.specs.Prelude.{Bool, true, ◌&&◌, cond, Option, Some, None, List, [], ◌∷◌, ◌++◌, ℕ, zero, suc, ◌+◌, ◌*◌, eqb, length, Float}
use Rattle.std.specs.Float.{binary32}
use Rattle.std.specs.Float.Ieee.{of_bits, to_bits, le}
use Rattle.limits.specs.Limits.{width}
use Rattle.readings.specs.Coordinate.{is_coordinate}
use Rattle.boundingbox.specs.Ends.{channel}
use Rattle.cut.specs.declared.Separation.{Separation}
use Rattle.cut.specs.Draw.{separation}
use Rattle.little.specs.Little.{little32, little64, bytes32}

-- a row has an f32 for each channel; given are the lower ends of a box, its upper ends, a point and a word
abbrev pub row_bytes : ℕ
row_bytes = 4 * width

abbrev pub given_bytes : ℕ
given_bytes = 3 * row_bytes + 8

-- the floats of the first n channels, from byte `at` on
unfoldable pub row_at : List ℕ → ℕ → ℕ → List Float
row_at b at zero = []
row_at b at (suc n) = row_at b at n ++ (of_bits binary32 (little32 b (at + 4 * n)) ∷ [])

-- the ends of a side and a point's channel are coordinates, and the ends in order
abbrev pub is_reading : Float → Float → Float → Bool
is_reading low high x = is_coordinate low && (is_coordinate high && (is_coordinate x && le low high))

-- the same of the first n channels
unfoldable pub are_readings : List Float → List Float → List Float → ℕ → Bool
are_readings lo hi p zero = true
are_readings lo hi p (suc n) = are_readings lo hi p n && is_reading (channel lo n) (channel hi n) (channel p n)

-- three words: 1 for a cut that does not part, 2 for one that parts, then its channel and its bits; for no cut all are 0
unfoldable pub told_cut : Option Separation → List ℕ
told_cut None = bytes32 0 ++ bytes32 0 ++ bytes32 0
told_cut (Some s) = bytes32 (1 + cond s.parts 1 0) ++ bytes32 s.cut.dimension ++ bytes32 (to_bits binary32 s.cut.value)

-- the cut that is drawn of what is given, twice
module _ (given : List ℕ) where
  abbrev pub low : List Float
  low = row_at given 0 width

  abbrev pub high : List Float
  high = row_at given row_bytes width

  abbrev pub point : List Float
  point = row_at given (2 * row_bytes) width

  abbrev pub told : List ℕ
  told = told_cut (separation width low high point (little64 given (3 * row_bytes)))

  unfoldable pub cut_answer : List ℕ
  cut_answer = cond (eqb (length given) given_bytes && are_readings low high point width) (told ++ told) []
