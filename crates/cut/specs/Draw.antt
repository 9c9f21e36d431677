-- The cut that a word draws for a box and a point, in the floats' own operations, each of which rounds once: the Rust's `Cut::random_cut_and_separation`, for every float.
-- Document.antt says the same in whole numbers, as document 01 does, for coordinates.
use Rattle.std.specs.Prelude.{ℕ, zero, suc, ◌+◌, Bool, cond, ◌&&◌, ◌||◌, Option, Some, None, List, Float}
use Rattle.std.specs.Option.{option_map}
use Rattle.std.specs.Float.{binary32, binary64}
use Rattle.std.specs.Float.Ieee.{add, sub, mul, lt, le, eq}
use Rattle.readings.specs.Word.{factor_of}
use Rattle.readings.specs.Narrow.{narrowed}
use Rattle.boundingbox.specs.Ends.{channel, least, greatest}
use Rattle.readings.specs.Number.{nought}
use Rattle.boundingbox.specs.Sides.{gap_of, total, range_sum}
use Rattle.cut.specs.declared.Cut.{Cut}
use Rattle.cut.specs.declared.Separation.{Separation}
use Rattle.cut.specs.declared.Side.{Side}

-- how far x lies outside the side from lo to hi
unfoldable pub outside_of : Float → Float → Float → Float
outside_of lo hi x = cond (lt x lo) (gap_of x lo) (gap_of hi x)

unfoldable pub outside_sum : List Float → List Float → List Float → ℕ → Float
outside_sum lo hi p n = total (λ (i : ℕ). outside_of (channel lo i) (channel hi i) (channel p i)) n

-- the ends and the side, in channel i, of the box with the point in it
abbrev pub low_end : List Float → List Float → ℕ → Float
low_end lo p i = least (channel lo i) (channel p i)

abbrev pub high_end : List Float → List Float → ℕ → Float
high_end hi p i = greatest (channel hi i) (channel p i)

unfoldable pub side_of : List Float → List Float → List Float → ℕ → Float
side_of lo hi p i = gap_of (low_end lo p i) (high_end hi p i)

-- 'sum of the sides of the box with the point in it, times the factor, rounded once in f64': the Rust adds what lies outside to the box's own sides
unfoldable pub range_of : List Float → List Float → List Float → ℕ → ℕ → Float
range_of lo hi p n w = mul binary64 (add binary64 (outside_sum lo hi p n) (range_sum lo hi n)) (factor_of w)

-- 'non-zero sides are taken off it in channel order. The first side that leaves nothing above zero is cut, and the amount before that side is the rest'
unfoldable pub reaches : Float → Float → Bool
reaches rest side = lt nought side && le (sub binary64 rest side) nought

unfoldable pub left_of : Float → Float → Float
left_of rest side = cond (lt nought side) (sub binary64 rest side) rest

-- the first side from channel i on, of n channels
unfoldable pub side_from : (ℕ → Float) → ℕ → ℕ → Float → Option Side
side_from g zero i rest = None
side_from g (suc n) i rest = cond (reaches rest (g i)) (Some (record { dimension = i; rest = rest })) (side_from g n (i + 1) (left_of rest (g i)))

-- 'The rest is narrowed to f32 to nearest, ties to even, then added to the lower end in f32, which rounds again'
unfoldable pub moved : Float → Float → Float
moved lo rest = add binary32 lo (narrowed rest)

-- 'If the result isn't above the lower end and below the upper end, the cut is the lower end'
unfoldable pub placed : Float → Float → Float → Float
placed lo hi rest = cond (lt lo (moved lo rest) && lt (moved lo rest) hi) (moved lo rest) lo

-- 'The cut parts if point ≤ cut < box minimum, or box maximum ≤ cut < point'
abbrev pub between : Float → Float → Float → Bool
between from cut to = le from cut && lt cut to

unfoldable pub parts : Float → Float → Float → Float → Bool
parts x lo hi cut = between x cut lo || between hi cut x

abbrev pub cut_at : List Float → List Float → List Float → ℕ → Float → Cut
cut_at lo hi p i rest = record { dimension = i; value = placed (low_end lo p i) (high_end hi p i) rest }

abbrev pub parts_at : List Float → List Float → List Float → Cut → Bool
parts_at lo hi p k = parts (channel p k.dimension) (channel lo k.dimension) (channel hi k.dimension) k.value

unfoldable pub drawn_at : List Float → List Float → List Float → Side → Separation
drawn_at lo hi p s = record { cut = cut_at lo hi p s.dimension s.rest; parts = parts_at lo hi p (cut_at lo hi p s.dimension s.rest) }

-- The cut drawn by the word w in n channels. Where nothing of the point lies outside the box, the Rust draws no cut.
-- The Rust's branch seeded with 17 stands where no side is cut, or a leaf's cut does not part: Laws.antt says that coordinates never lead there.
unfoldable pub separation : ℕ → List Float → List Float → List Float → ℕ → Option Separation
separation n lo hi p w =
    cond (eq (outside_sum lo hi p n) nought) None
    (option_map (drawn_at lo hi p) (side_from (side_of lo hi p) n 0 (range_of lo hi p n w)))
