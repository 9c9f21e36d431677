-- What a coordinate of a reading is, and its place among the coordinates. Definitions.
use Rattle.std.specs.Prelude.{ℕ, ◌+◌, ◌-◌, ◌*◌, ◌^◌, Bool, true, false, not, ◌&&◌, pos, negsuc, ◌==◌, nat_le, Float}
use Rattle.std.specs.Float.{nan, inf, fin}

-- Document 01, 'Readings table': 'A coordinate is an f32 holding a whole number from −1,048,576 to 1,048,576 (2^20); minus zero, NaN and infinities are refused.'
-- A float that fits its format is written with an odd m, so it is whole exactly where its exponent is not negative.
unfoldable pub is_coordinate : Float → Bool
is_coordinate nan = false
is_coordinate (inf s) = false
is_coordinate (fin s m (negsuc k)) = false
is_coordinate (fin s m (pos k)) = nat_le (m * 2 ^ k) 1048576 && not (s && m == 0)

-- a coordinate's whole number, counted from −2^20, so that it is a ℕ: the coordinates' order, and their differences, are those of their ranks
unfoldable pub rank : Float → ℕ
rank nan = 0
rank (inf s) = 0
rank (fin s m (negsuc k)) = 0
rank (fin true m (pos k)) = 1048576 - m * 2 ^ k
rank (fin false m (pos k)) = 1048576 + m * 2 ^ k
