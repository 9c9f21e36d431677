-- The sides of a box of coordinates, and their sum, are exact: the floats are the whole numbers. Assumes nothing.
use mathlib.Core.Path.{◌≡◌, refl, sym, ap, ◌∙◌, subst}
use mathlib.Core.Logic.{⊎_elim}
use mathlib.Core.Bool.{Bool, true, false, cond, true≢false, and-true}
use Prim.Native.Nat.{ℕ, zero, suc, ◌+◌, ◌-◌, ◌*◌, ◌^◌, ◌≤◌, ◌<◌, zero-le}
use native.Mathlib.Nat.{le_trans, le-suc, le_refl, le_antisymm, add-zero, le_of_lt, le_of_suc-le-suc, not-suc-le-zero, eq-or-lt_of_le, mul-pos, mul-one, eq_of_mul-eq-mul_right}
use native.Mathlib.Numerals.{add-one}
use native.Mathlib.Omega.{arith}
use lib.IntN.{pos}
use lib.Dec.{T, eqb, leb→le}
use lib.Ieee.{Float, nan, inf, fin, binary32, binary64, up, down, sub, lt, eq, of_int}
use lib.Ieee.Fits.{down_pos}
use lib.Ieee.Exact.{HasValue}
use Rattle.readings.specs.Coordinate.{is_coordinate, rank}
use Rattle.readings.proofs.Tests.{eqb_iff, cross_l, cross_r}
use Rattle.readings.proofs.Wholes.{of_int_value, of_int_wide, of_int_add}
use Rattle.readings.proofs.Ranks.{rank_le, sub_rank}
use Rattle.readings.specs.Number.{nought}
use Rattle.boundingbox.specs.Sides.{gap_of, total}
use Rattle.boundingbox.specs.Wholes.{Box, side, sum_to}
use Rattle.boundingbox.proofs.Order.{by_rank, lt_places, not_lt_places}

-- ---- sums of natural numbers
pub sum_to_next : (g : ℕ → ℕ) (i : ℕ) → sum_to g (i + 1) ≡ sum_to g i + g i
unfolding sum_to
sum_to_next g i = rw add-one

-- a turn of a sum that starts at a channel: by so much the sum of all before has grown
pub sum_turn : (g : ℕ → ℕ) (at i sum x : ℕ) → sum_to g at + sum ≡ sum_to g (at + i) → x ≡ g (at + i) → sum_to g at + (sum + x) ≡ sum_to g (at + (i + 1))
sum_turn g at i sum x e f = omega (arith, sum_to_next g (at + i), ap (sum_to g) next)
  where
    next : at + (i + 1) ≡ at + i + 1
    next = omega arith

-- sums of four, added up
module _ (g : ℕ → ℕ) where
  pub sum_eight : (a b : ℕ) → sum_to g 0 + a ≡ sum_to g 4 → sum_to g 4 + b ≡ sum_to g 8 → a + b ≡ sum_to g 8
  sum_eight a b e f = let z : sum_to g 0 ≡ 0 = unfold sum_to in refl in omega arith

  pub sum_on : (at x a b : ℕ) → x ≡ sum_to g at → sum_to g at + a ≡ sum_to g (at + 4) → sum_to g (at + 4) + b ≡ sum_to g (at + 8) → x + a + b ≡ sum_to g (at + 8)
  sum_on at x a b d e f = omega arith

-- a side above zero makes the sum so
pub sum_pos : (g : ℕ → ℕ) (n i : ℕ) → i < n → 0 < g i → 0 < sum_to g n
unfolding sum_to
sum_pos g zero i h p = absurd (not-suc-le-zero h)
sum_pos g (suc n) i h p =
    ⊎_elim (λ (e : i ≡ n). right (sum_to g n) (g n) (subst (λ (j : ℕ). 0 < g j) e p)) (λ (l : i < n). left (sum_to g n) (g n) (sum_pos g n i l p))
    (eq-or-lt_of_le (le_of_suc-le-suc h))
  where
    right : (a b : ℕ) → 0 < b → 0 < a + b
    right a b h = omega arith

    left : (a b : ℕ) → 0 < a → 0 < a + b
    left a b h = omega arith

-- channels of zero add nothing
pub sum_padded : (g : ℕ → ℕ) (d n : ℕ) → d ≤ n → ((i : ℕ) → d ≤ i → i < n → g i ≡ 0) → sum_to g n ≡ sum_to g d
unfolding sum_to
sum_padded g d zero h z = ap (sum_to g) (le_antisymm zero-le h)
sum_padded g d (suc n) h z =
    ⊎_elim (λ (e : d ≡ suc n). ap (sum_to g) (sym e))
    (λ (l : d < suc n). rw (sum_padded g d n (le_of_suc-le-suc l) (λ i a b. z i a (le_trans b (le-suc n))), z n (le_of_suc-le-suc l) (le_refl (suc n)), add-zero))
    (eq-or-lt_of_le h)

-- what is added up channel by channel tells the float sum
pub total_same : (g k : ℕ → Float) (n : ℕ) → ((i : ℕ) → i < n → g i ≡ k i) → total g n ≡ total k n
unfolding total
total_same g k zero h = refl
total_same g k (suc n) h = rw (total_same g k n (λ i l. h i (le_trans l (le-suc n))), h n (le_refl (suc n)))

-- ---- one side
pub nought_is : nought ≡ of_int binary64 (pos 0)
unfolding of_int
nought_is = refl

less : (a b : ℕ) → b ≤ 2097152 → b - a ≤ 2097152
less a b h = omega arith

module _ (x y : Float) (p : T (is_coordinate x)) (q : T (is_coordinate y)) where
  difference : rank x ≤ rank y → sub binary32 y x ≡ of_int binary64 (pos (rank y - rank x))
  difference h = sub_rank y x q p h ∙ of_int_wide (rank y - rank x) (le_trans (less (rank x) (rank y) (rank_le y q)) (leb→le 2097152 (2 ^ 24) tt))

  pub gap_exact : gap_of x y ≡ of_int binary64 (pos (rank y - rank x))
  unfolding gap_of
  gap_exact = go (lt x y) refl
    where
      none : (a b : ℕ) → b ≤ a → b - a ≡ 0
      none a b h = omega arith

      go : (c : Bool) → lt x y ≡ c → cond c (sub binary32 y x) nought ≡ of_int binary64 (pos (rank y - rank x))
      go true h = difference (le_of_lt (lt_places _ rank by_rank x y p q h))
      go false h = nought_is ∙ ap (λ (n : ℕ). of_int binary64 (pos n)) (sym (none (rank x) (rank y) (not_lt_places _ rank by_rank x y p q h)))

  -- the Rust's side, `(y - x) as f64`, where the ends are in order
  pub gap_difference : rank x ≤ rank y → gap_of x y ≡ sub binary32 y x
  gap_difference h = gap_exact ∙ sym (difference h)

-- ---- sums of whole numbers of at most 2^21, as coordinates give them: exact for 32 channels
pub sum_bound : (g : ℕ → ℕ) (n : ℕ) → ((i : ℕ) → i < n → g i ≤ 2097152) → sum_to g n ≤ n * 2097152
unfolding sum_to
sum_bound g zero h = zero-le
sum_bound g (suc n) h = go (sum_to g n) (g n) n (sum_bound g n (λ i l. h i (le_trans l (le-suc n)))) (h n (le_refl (suc n)))
  where
    go : (a b m : ℕ) → a ≤ m * 2097152 → b ≤ 2097152 → a + b ≤ suc m * 2097152
    go a b m h k = omega arith

pub total_whole : (f : ℕ → Float) (g : ℕ → ℕ) (n : ℕ) → n ≤ 32 → ((i : ℕ) → i < n → f i ≡ of_int binary64 (pos (g i))) → ((i : ℕ) → i < n → g i ≤ 2097152) → total f n ≡ of_int binary64 (pos (sum_to g n))
unfolding total sum_to
total_whole f g zero h e b = nought_is
total_whole f g (suc n) h e b =
    let m = le_trans (le-suc n) h in
    let b' : (i : ℕ) → i < n → g i ≤ 2097152 = λ i l. b i (le_trans l (le-suc n)) in
    rw (total_whole f g n m (λ i l. e i (le_trans l (le-suc n))) b', e n (le_refl (suc n)))
    (of_int_add binary64 (sum_to g n) (g n) (most (sum_to g n) n (sum_bound g n b') m) (le_trans (b n (le_refl (suc n))) (leb→le 2097152 (2 ^ 53) tt)))
  where
    most : (s n : ℕ) → s ≤ n * 2097152 → n ≤ 32 → s ≤ 9007199254740992
    most s n p q = omega arith

-- ---- the sum of the first m sides
module _ (lo hi : ℕ → Float) (n : ℕ) (B : Box lo hi n) where
  pub side_le : (i : ℕ) → i < n → side lo hi i ≤ 2097152
  side_le i h = less (rank (lo i)) (rank (hi i)) (rank_le (hi i) (B.upper i h))

  -- 32 sides of at most 2^21
  pub sum_fits : (m : ℕ) → m ≤ n → sum_to (side lo hi) m ≤ 2 ^ 26
  sum_fits m h = go (sum_to (side lo hi) m) m (sum_bound (side lo hi) m (λ i l. side_le i (le_trans l h))) (le_trans h B.few)
    where
      go : (a m : ℕ) → a ≤ m * 2097152 → m ≤ 32 → a ≤ 67108864
      go a m h k = omega arith

  pub total_exact : (m : ℕ) → m ≤ n → total (λ i. gap_of (lo i) (hi i)) m ≡ of_int binary64 (pos (sum_to (side lo hi) m))
  total_exact m h =
      total_whole (λ (i : ℕ). gap_of (lo i) (hi i)) (side lo hi) m (le_trans h B.few) (λ i l. gap_exact (lo i) (hi i) (B.lower i (le_trans l h)) (B.upper i (le_trans l h))) (λ i l. side_le i (le_trans l h))

-- ---- whole numbers as floats are equal where the numbers are
eq_value : (x y : Float) (a b : ℕ) → HasValue x false a 1 → HasValue y false b 1 → eq x y ≡ eqb a b
unfolding eq
eq_value nan y a b h k = absurd h
eq_value (inf s) y a b h k = absurd h
eq_value (fin s m e) nan a b h k = absurd k
eq_value (fin s m e) (inf t) a b h k = absurd k
eq_value (fin true m e) (fin t n d) a b h k = absurd (true≢false h.0)
eq_value (fin false m e) (fin true n d) a b h k = absurd (true≢false k.0)
eq_value (fin false m e) (fin false n d) a b h k =
    and-true (eqb (m * up e * down d) (n * up d * down e))
    ∙ scaled (m * up e * down d) (n * up d * down e) (down e * down d) (mul-pos (down_pos e) (down_pos d))
    (sym (mul-one (m * up e * down d)) ∙ cross_l (m * up e) 1 a (down e) (down d) h.1) (sym (mul-one (n * up d * down e)) ∙ cross_r (n * up d) 1 b (down e) (down d) k.1)
  where
    scaled : (X Y W : ℕ) → 0 < W → X ≡ a * W → Y ≡ b * W → eqb X Y ≡ eqb a b
    scaled X Y W w p q = eqb_iff X Y a b (λ z. eq_of_mul-eq-mul_right W w a b (sym p ∙ z ∙ q)) (λ z. p ∙ ap (λ (c : ℕ). c * W) z ∙ sym q)

pub whole_eq : (a b : ℕ) → a ≤ 2 ^ 53 → b ≤ 2 ^ 53 → eq (of_int binary64 (pos a)) (of_int binary64 (pos b)) ≡ eqb a b
whole_eq a b h k = eq_value (of_int binary64 (pos a)) (of_int binary64 (pos b)) a b (of_int_value binary64 a h) (of_int_value binary64 b k)
