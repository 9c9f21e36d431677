-- The sums of the sides in whole numbers, as they tell the side that is cut. Definitions.
use Rattle.std.specs.Prelude.{◌≡◌, ℕ, ◌+◌, ◌*◌, ◌<◌, ◌≤◌, false, cond, ltb, ◌⊎◌, Option, None, List, pos, nat_le, nat_lt, slice_index, Float}
use Rattle.std.specs.Float.{fin}
use Rattle.std.specs.Float.Ieee.Positive.{num, den}
use Rattle.limits.specs.Limits.{width}
use Rattle.boundingbox.specs.Contained.{contains, count_of}
use Rattle.boundingbox.specs.Wholes.{side, sum_to}
use Rattle.cut.specs.declared.Side.{Side}
use Rattle.cut.specs.Draw.{low_end, high_end, side_of, range_of, side_from}

-- 1.0
abbrev pub one : Float
one = fin false 1 (pos 0)

-- the side that the word w cuts in n channels, and the amount before it: none where the box holds the point
unfoldable pub side_cut : List Float → List Float → List Float → ℕ → ℕ → Option Side
side_cut lo hi p n w = cond (contains lo hi p p n) None (side_from (side_of lo hi p) n 0 (range_of lo hi p n w))

-- the sides of the box with the point in it, as whole numbers
abbrev pub grown : List Float → List Float → List Float → ℕ → ℕ
grown lo hi p = side (low_end lo p) (high_end hi p)

-- the side of channel i, of those that are worked out into a list
abbrev pub side_in : List ℕ → ℕ → ℕ
side_in sides i = slice_index sides i

-- the first n of them are those of g, and the rest 0
abbrev pub FirstSides : (ℕ → ℕ) → ℕ → List ℕ → Type 0
FirstSides g n sides = (i : ℕ) → i < width → side_in sides i ≡ cond (nat_lt i n) (g i) 0

-- all of them are those of g
abbrev pub Sides : (ℕ → ℕ) → List ℕ → Type 0
Sides g sides = (i : ℕ) → i < width → side_in sides i ≡ g i

-- none passes 2^21, as none between coordinates does: so no sum of them passes 2^26
abbrev pub SmallSides : List ℕ → Type 0
SmallSides sides = (i : ℕ) → i < width → side_in sides i ≤ 2097152

-- those from d on are of padding
abbrev pub PaddedSides : ℕ → List ℕ → Type 0
PaddedSides d sides = (i : ℕ) → d ≤ i → i < width → side_in sides i ≡ 0

-- the sums of no side, of the first four, and so on to all of 32
abbrev pub Fours : (ℕ → ℕ) → List ℕ → Type 0
Fours g sums = (j : ℕ) → j < 9 → slice_index sums j ≡ sum_to g (4 * j)

-- how many of these sums, from that of four sides on, tell the four in which a channel below d lies
unfoldable pub fours : ℕ → ℕ
fours d = cond (nat_le d 8) 1 (cond (nat_le d 16) 3 7)

-- a whole number lies below the bound b exactly where it is 0 or lies below x, whose own fraction is num over den
pub record Bound (x : Float) (b : ℕ) : Type 0 where
  pub short : (s : ℕ) → s < b → (s ≡ 0) ⊎ (s * den x < num x)
  pub under : (s : ℕ) → (s ≡ 0) ⊎ (s * den x < num x) → s < b

-- of the sums of the sides before the channel `at` and of one to four more: how many lie below the bound, and the sum of the sides before the next
pub record UnderIn (g : ℕ → ℕ) (at bound count sum : ℕ) : Type 0 where
  pub counted : count ≡ count_of (λ (i : ℕ). ltb (sum_to g (at + (i + 1))) bound) 4
  pub summed : sum ≡ sum_to g (at + count)
