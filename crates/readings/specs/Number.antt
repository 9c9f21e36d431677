-- A number: an f32 that is finite and not minus zero. Coordinates, ends of boxes, values of cuts and weights are numbers. Definitions.
use Rattle.std.specs.Prelude.{Bool, true, false, not, ◌&&◌, T, pos, ◌==◌, Float}
use Rattle.std.specs.Float.{nan, inf, fin, binary32}
use Rattle.std.specs.Float.Ieee.{fits}

-- +0.0, in either format
abbrev pub nought : Float
nought = fin false 0 (pos 0)

-- finite, an f32, and not minus zero: on these the order of the floats is that of the numbers, and equal numbers are the same float
unfoldable pub is_number : Float → Bool
unfolding fits
is_number nan = false
is_number (inf s) = false
is_number (fin s m e) = fits binary32 (fin s m e) && not (s && m == 0)

pub record Number : Type 0 where
  pub value : Float
  pub value_is_number : T (is_number value)

unfoldable pub zero : Number
unfolding is_number
zero = record { value = nought; value_is_number = tt }

-- a float as a number, and zero where it is none
unfoldable pub as_number : (x : Float) (b : Bool) → (T b → T (is_number x)) → Number
as_number x true f = record { value = x; value_is_number = f tt }
as_number x false f = zero

unfoldable pub number : Float → Number
unfolding as_number is_number
number x = as_number x (is_number x) (λ t. t)
