-- The paper's cut, in whole sides and fractions of whole numbers: nothing is rounded. The place along the side is counted in two ways, the paper's and the Rust's.
use Rattle.std.specs.Prelude.{ℕ, zero, suc, ◌+◌, ◌-◌, ◌*◌, Bool, cond, ◌&&◌, nat_le, nat_lt}
use Rattle.boundingbox.specs.Wholes.{sum_to}

-- The paper: 'draw r between 0 and the sum of its sides; it falls to the first channel j at which the running sum of sides reaches r, and to a place along that side'.
-- g gives the sides, n is how many there are, and the number drawn is q / c. A side of zero is never cut.
unfoldable pub falls : (ℕ → ℕ) → ℕ → ℕ → ℕ → Bool
falls g q c i = nat_lt 0 (g i) && nat_le q (sum_to g (i + 1) * c)

-- the first channel from i on, of n, to which it falls
unfoldable pub first : (ℕ → ℕ) → ℕ → ℕ → ℕ → ℕ → ℕ
unfolding falls
first g q c zero i = i
first g q c (suc n) i = cond (falls g q c i) i (first g q c n (i + 1))

unfoldable pub channel_at : (ℕ → ℕ) → ℕ → ℕ → ℕ → ℕ
unfolding first
channel_at g n q c = first g q c n 0

-- The paper's place: 'counted back from the running sum that reached the drawn number, so from the upper end' of the side. The paper's cut lies the fraction
-- back_at / c above the lower end: as much as the running sum with that side in it lies above the number.
unfoldable pub back_at : (ℕ → ℕ) → ℕ → ℕ → ℕ → ℕ
unfolding channel_at
back_at g n q c = sum_to g (channel_at g n q c + 1) * c - q

-- The Rust's place is another: the rest, which is what the sides before that one leave of the number, counted forward from the lower end. The Rust's cut lies the
-- fraction rest_at / c above the lower end, which is as far as the paper's lies below the upper end: the two make up the side (Laws.antt).
unfoldable pub rest_at : (ℕ → ℕ) → ℕ → ℕ → ℕ → ℕ
unfolding channel_at
rest_at g n q c = q - sum_to g (channel_at g n q c) * c
