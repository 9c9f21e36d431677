-- The starting chance of an arrival, in the floats' own operations, each of which rounds once, for every float. Definitions.
use Rattle.std.specs.Prelude.{◌≡◌, refl, ℕ, Bool, false, cond, eqb, pos, Float}
use Rattle.std.specs.Float.{fin, binary64}
use Rattle.std.specs.Float.Ieee.{sub, div, of_int, of_bits, lt, le}
use Rattle.readings.specs.Word.{factor_of}
use Rattle.readings.specs.Number.{nought}

-- 1.0
abbrev pub one : Float
one = fin false 1 (pos 0)

-- `get_fill_fraction` (sampler.rs): 1.0 where size and capacity are equal, else `current_size as f64 / capacity as f64`
unfoldable pub fill_fraction : ℕ → ℕ → Float
fill_fraction n c = cond (eqb n c) one (div binary64 (of_int binary64 (pos n)) (of_int binary64 (pos c)))

-- `initial_accept_probability` (samplerplustree.rs), of a fill and an initial share:
-- 1.0 where fill < share, else 0.0 where share >= 1.0, else `1.0 - (fill - share) / (1.0 - share)`
unfoldable pub chance_of : Float → Float → Float
chance_of fill share =
    cond (lt fill share) one
    (cond (le one share) nought (sub binary64 one (div binary64 (sub binary64 fill share) (sub binary64 one share))))

-- 9 of 10 at share 1/8 (3FC0000000000000): each operation rounds, so the chance is not 4/35 to the nearest f64 (3FBD41D41D41D41D)
each_rounds : chance_of (fill_fraction 9 10) (of_bits binary64 0x3fc0_0000_0000_0000) ≡ of_bits binary64 0x3fbd_41d4_1d41_d418
unfolding chance_of fill_fraction of_bits sub div of_int lt le
each_rounds = refl

-- `update` (samplerplustree.rs): `other_random < initial_accept_probability(fill_fraction)`, where the word's factor stands for `other_random`
unfoldable pub starts_by : ℕ → ℕ → ℕ → Float → Bool
starts_by w n c share = lt (factor_of w) (chance_of (fill_fraction n c) share)
