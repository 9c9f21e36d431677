-- What a share is, and how many branches it has cached. Definitions.
use Rattle.std.specs.Prelude.{◌≡◌, ℕ, ◌*◌, Bool, false, cond, pos, ◌==◌, nat_le, refl, Float}
use Rattle.std.specs.Float.{nan, inf, fin, binary64}
use Rattle.std.specs.Float.Ieee.{up, down, mul, of_bits, of_int, to_unsigned}

-- Document 01, refusals 3 and 4: a share is an f64 from 0 to 1, 'outside its range or NaN' refused. Minus zero is zero.
unfoldable pub is_share : Float → Bool
is_share nan = false
is_share (inf s) = false
is_share (fin s m e) = cond s (m == 0) (nat_le (m * up e) (down e))

-- Document 01, 'Tree': 'Branches below the whole part of share × c (one rounded product) are cached.'
-- At a share it is that whole part, and at most c: `cached_part_lem` in proofs/Shares.antt.
unfoldable pub cached_part : Float → ℕ → ℕ
cached_part s c = to_unsigned 64 (mul binary64 s (of_int binary64 (pos c)))

-- 1/49 as an f64 (3F94E5E0A72F0539), times 49, rounds to the f64 below 1
below_one : cached_part (of_bits binary64 0x3f94_e5e0_a72f_0539) 49 ≡ 0
unfolding cached_part of_bits mul of_int to_unsigned
below_one = refl
