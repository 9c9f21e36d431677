-- The box of a tree: its ends are coordinates, and what a draw from it says of the point. Definitions.
use Rattle.std.specs.Prelude.{◌≡◌, Bool, true, false, Option, Some, None, ℕ, ◌≤◌, ◌<◌, T}
use Rattle.std.specs.Float.Ieee.{le}
use Rattle.limits.specs.Limits.{width}
use Rattle.cut.specs.declared.Separation.{Separation}
use Rattle.cuttree.specs.Setting.{parts}
use Rattle.readings.specs.Number.{is_number, Number, zero, number}
use Rattle.wholetree.specs.Reading.{is_coordinate32, Reading}
use Rattle.wholetree.specs.Whole.{cut_in, whole}

-- in every channel a lower and an upper end, which are coordinates; both are zero beyond the row
pub record CoordinateBox (lo hi : ℕ → Number) : Type 0 where
  pub lower : (i : ℕ) → T (is_coordinate32 (lo i).value)
  pub upper : (i : ℕ) → T (is_coordinate32 (hi i).value)
  pub ordered : (i : ℕ) → le (lo i).value (hi i).value ≡ true
  pub beyond_lower : (i : ℕ) → width ≤ i → lo i ≡ zero
  pub beyond_upper : (i : ℕ) → width ≤ i → hi i ≡ zero

-- whether the cut drawn parts; where none is drawn, the box holds the point
abbrev pub parted_in : Option Separation → Bool
parted_in None = false
parted_in (Some s) = s.parts

-- a drawn cut as one of the tree's, which parts the point p from the box where the draw says so
pub record TreeCut (d : ℕ) (lo hi : ℕ → Number) (p : Reading) (s : Separation) : Type 0 where
  pub in_row : s.cut.dimension < width
  pub value_is_number : T (is_number s.cut.value)
  pub value_is : (number s.cut.value).value ≡ s.cut.value
  pub parts_so : parts (whole d) (cut_in (Some s)) lo hi p ≡ s.parts
