-- What is claimed of the cap on a coordinate's size: no reading is another one for it, and no refusal. Statement; proofs/Cap.antt proves it.
use Rattle.std.specs.Prelude.{◌≡◌, true, false, ℕ, ◌+◌, ◌-◌, ◌≤◌, ◌<◌, T, pos}
use Rattle.std.specs.Float.{binary32}
use Rattle.std.specs.Float.Ieee.{fits, of_int, neg}
use Rattle.readings.specs.Coordinate.{is_coordinate, rank}
use Rattle.text.specs.Coordinates.{capped}

-- Document 01, 'Readings table': 'A coordinate is an f32 holding a whole number from −1,048,576 to 1,048,576 (2^20)'.
-- Up to 2^20 the f32 is a coordinate and its whole number is the size; beyond, it is no coordinate. So it is with a minus sign before it.
-- A rank is the whole number counted from −2^20.
pub record CapLosesNothing (v : ℕ) : Type 0 where
  pub exact : v ≤ 1048576 → capped v ≡ of_int binary32 (pos v)
  pub is : v ≤ 1048576 → (is_coordinate (capped v) ≡ true) × (rank (capped v) ≡ 1048576 + v)
  pub is_minus : 0 < v → v ≤ 1048576 → (is_coordinate (neg (capped v)) ≡ true) × (rank (neg (capped v)) ≡ 1048576 - v)
  pub is_none : 1048576 < v → (is_coordinate (capped v) ≡ false) × (is_coordinate (neg (capped v)) ≡ false)
  pub is_f32 : T (fits binary32 (capped v)) × T (fits binary32 (neg (capped v)))
