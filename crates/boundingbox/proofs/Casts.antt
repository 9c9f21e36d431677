-- How far one value lies above another is a number, so that it can be cast to an f64; between coordinates it is a whole number, which a cast to an integer keeps. Laws.
use mathlib.Core.Bool.{Bool, true, false, not, ◌&&◌, cond}
use mathlib.Core.Path.{◌≡◌, refl}
use Prim.Native.Nat.{ℕ, ◌-◌, ◌^◌, ◌≤◌, ◌<◌}
use native.Mathlib.Nat.{le_trans}
use native.Mathlib.Omega.{arith}
use lib.IntN.{pos}
use lib.Dec.{T, le→leb, leb→le}
use lib.Ieee.{Float, binary32, binary64, fits, is_nan, lt, sub, of_bits, in_float, in_signed, to_signed}
use lib.Ieee.Back.{positive_back}
use mir.Syntax.{w32}
use mir.Val.{to_z, of_z}
use mir.ValLaws.{to_z-of_z}
use Rattle.readings.specs.Coordinate.{is_coordinate, rank}
use Rattle.readings.proofs.Ranks.{rank_le, sub_rank}
use Rattle.readings.proofs.Numbers.{sub_cast}
use Rattle.readings.specs.Number.{nought}
use Rattle.boundingbox.specs.Sides.{gap_of}

-- what a cast to f64 asks
abbrev pub Casts : Float → Type 0
Casts x = T (fits binary64 x && not (is_nan x))

nought_casts : Casts nought
unfolding fits is_nan of_bits
nought_casts = tt

pub either : (b : Bool) (x y : Float) → (b ≡ true → Casts x) → Casts y → Casts (cond b x y)
either true x y f g = f refl
either false x y f g = g

pub gap_casts : (a b : Float) → Casts (gap_of a b)
unfolding gap_of
gap_casts a b = either (lt a b) (sub binary32 b a) nought (sub_cast b a) nought_casts

-- ---- a side between coordinates
module _ (a b : Float) (P : T (is_coordinate a)) (Q : T (is_coordinate b)) (h : rank a ≤ rank b) where
  small : rank b - rank a ≤ 2097152
  small = omega (arith, rank_le b Q)

  back : T (in_signed binary32 31 (sub binary32 b a)) × (to_signed 31 (sub binary32 b a) ≡ pos (rank b - rank a))
  unfolding in_float
  back = rw (sub_rank b a Q P h) (positive_back binary32 31 (rank b - rank a) (le→leb (rank b - rank a) (2 ^ 24) (le_trans small (leb→le 2097152 (2 ^ 24) tt))) (below (rank b - rank a) small))
    where
      below : (k : ℕ) → k ≤ 2097152 → k < 2147483648
      below k l = omega arith

  pub side_passes : T (in_signed binary32 31 (sub binary32 b a))
  side_passes = back.0

  pub side_back : to_z w32 (of_z w32 (to_signed 31 (sub binary32 b a))) ≡ pos (rank b - rank a)
  side_back = rw back.1 (to_z-of_z w32 (pos (rank b - rank a)) (record { sfits = below (rank b - rank a) small }))
    where
      below : (k : ℕ) → k ≤ 2097152 → k < 2147483648
      below k l = omega arith
