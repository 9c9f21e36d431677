-- A box whose ends are coordinates: its sides are whole numbers, and so is their sum. Definitions.
use Rattle.std.specs.Prelude.{ℕ, zero, suc, ◌+◌, ◌-◌, ◌≤◌, ◌<◌, T, Float}
use Rattle.readings.specs.Coordinate.{is_coordinate, rank}

-- n sides, each from the end `lo i` to the end `hi i`: the ends are coordinates, and no lower end is above its upper end. Request A.7 goes to 32 channels.
pub record Box (lo hi : ℕ → Float) (n : ℕ) : Type 0 where
  pub few : n ≤ 32
  pub lower : (i : ℕ) → i < n → T (is_coordinate (lo i))
  pub upper : (i : ℕ) → i < n → T (is_coordinate (hi i))
  pub ordered : (i : ℕ) → i < n → rank (lo i) ≤ rank (hi i)

-- the side in channel i, as a whole number
abbrev pub side : (ℕ → Float) → (ℕ → Float) → ℕ → ℕ
side lo hi i = rank (hi i) - rank (lo i)

-- the sum of g 0 to g (n - 1)
unfoldable pub sum_to : (ℕ → ℕ) → ℕ → ℕ
sum_to g zero = 0
sum_to g (suc n) = sum_to g n + g n
