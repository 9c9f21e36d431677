-- A place on a side is never minus zero: its lower end is whole, the rest is not negative, and a sum of the two in f32 that is not zero does not round to zero.
use mathlib.Core.Path.{◌≡◌, refl, sym, ap, ◌∙◌, subst}
use mathlib.Core.Bool.{Bool, true, false, ◌&&◌, cond, false≢true, true≢false}
use Prim.Native.Nat.{ℕ, zero, suc, ◌+◌, ◌-◌, ◌*◌, ◌/◌, ◌%◌, ◌^◌, ◌≤◌, ◌<◌, compare}
use native.Mathlib.Nat.{lt_irrefl, le_trans, le_of_eq, zero-lt-suc, mul-pos, mul-one, zero-mul, mul-div_cancel, le-div_iff_mul-le, one-mul, div-div-eq-div-mul}
use native.Mathlib.Omega.{arith}
use lib.IntN.{pos, negsuc}
use lib.Dec.{T, ltb, ltb→lt}
use lib.Pow.{pow_pos}
use lib.Ieee.{Float, nan, inf, fin, Format, binary32, prec, low, emax, up, down, size, odd, units, round, sum, add, lt}
use lib.Ieee.Digits.{size-lt, size_reaches}
use lib.Ieee.Exact.{HasValue, units_val}
use lib.Ieee.Fits.{round_is, down_pos, add-fits}
use lib.Ieee.Nearest.{nearest-ge}
use lib.Ieee.Order.{drop, kept}
use lib.Ieee.Scale.{finite, grid, overflow}
use Rattle.readings.specs.Coordinate.{is_coordinate, rank}
use Rattle.readings.specs.Narrow.{narrowed}
use Rattle.readings.proofs.Keys.{mag, sign, value, Num, NotMinusZero}
use Rattle.readings.proofs.Values.{add_value}
use Rattle.cut.specs.Draw.{moved, placed}
use Rattle.cut.proofs.Within.{placed_num}
use Rattle.readings.specs.Number.{is_number}
use Rattle.wholetree.specs.Reading.{is_coordinate32}
use Rattle.readings.proofs.Ordered.{is_a_number}
use Rattle.wholetree.proofs.Readings.{coordinate_number, of_coordinate}

-- ---- rounding keeps the sign
odd_sign_is : (d : ℕ) (s : Bool) (q k l : ℕ) → sign (odd d s q k l) ≡ s
unfolding odd
odd_sign_is d s zero k l = refl
odd_sign_is d s (suc q) k l = refl

units_sign : (f : Format) (s : Bool) (q k : ℕ) → sign (units f s q k) ≡ s
unfolding units
units_sign f s q k = go (ltb (q * 2 ^ k) (2 ^ (low f + suc (emax f))))
  where
    go : (b : Bool) → sign (cond b (odd (suc (prec f)) s q k (low f)) (inf s)) ≡ s
    go true = odd_sign_is (suc (prec f)) s q k (low f)
    go false = refl

pub round_sign : (f : Format) (s : Bool) (a c : ℕ) → sign (round f s a c) ≡ s
round_sign f s a c = ap sign (round_is f s a c) ∙ units_sign f s _ _

-- ---- and gives no zero, but of a zero or of less than the smallest value
kept_pos : (n c : ℕ) → 0 < n / c → 0 < kept 24 n c
kept_pos n c h =
    let d = drop 24 n c in
    let far : d < size (n / c) = less (size (n / c)) (some (size (n / c)) (size-lt (n / c))) in
    let one : 1 * 2 ^ d ≤ n / c = le_trans (le_of_eq (one-mul (2 ^ d))) (size_reaches (n / c) d far) in
    let left : 1 ≤ n / (c * 2 ^ d) = le_trans ((le-div_iff_mul-le (pow_pos d)).1 one) (le_of_eq (div-div-eq-div-mul n c (2 ^ d))) in
    le_trans left (nearest-ge (n / (c * 2 ^ d)) (compare (n % (c * 2 ^ d) * 2) (c * 2 ^ d)))
  where
    less : (z : ℕ) → 0 < z → z - 24 < z
    less z p = omega arith

    some : (z : ℕ) → n / c < 2 ^ z → 0 < z
    some zero l = absurd (none (n / c) h l)
      where
        none : (x : ℕ) → 0 < x → x < 1 → ⊥
        none x a b = omega arith
    some (suc z) l = zero-lt-suc z

units_finite : (f : Format) (s : Bool) (q k : ℕ) → T (finite (units f s q k)) → q * 2 ^ k < overflow f
unfolding units
units_finite f s q k = go (ltb (q * 2 ^ k) (overflow f)) (ltb→lt (q * 2 ^ k) (overflow f))
  where
    go : (b : Bool) → (T b → q * 2 ^ k < overflow f) → T (finite (cond b (odd (suc (prec f)) s q k (low f)) (inf s))) → q * 2 ^ k < overflow f
    go true h t = h tt
    go false h t = absurd t

-- what a rounding gives, where it is finite, in units of the smallest value
pub round_units : (f : Format) (s : Bool) (a c : ℕ) → T (finite (round f s a c)) → HasValue (round f s a c) s (grid f a c) (2 ^ low f)
round_units f s a c t =
    subst (λ (z : Float). HasValue z s (grid f a c) (2 ^ low f)) (sym (round_is f s a c))
    (units_val f s (kept (prec f) (a * 2 ^ low f) c) (drop (prec f) (a * 2 ^ low f) c) (units_finite f s (kept (prec f) (a * 2 ^ low f) c) (drop (prec f) (a * 2 ^ low f) c) (subst (λ (z : Float). T (finite z)) (round_is f s a c) t)))

-- a value above zero has a size above zero
size_pos : (x : Float) (s : Bool) (a c : ℕ) → 0 < a → 0 < c → Num x → HasValue x s a c → mag x ≡ 0 → ⊥
size_pos nan s a c A C n v z = n
size_pos (inf t) s a c A C n v z = n
size_pos (fin t m e) s a c A C n v z = go (m * up e) (down e) (down_pos e) v.1 ((value (fin t m e) n).1 ∙ ap (λ (i : ℕ). i * down e) z ∙ zero-mul (down e))
  where
    go : (x d : ℕ) → 0 < d → x * c ≡ a * d → x * 2 ^ 1074 ≡ 0 → ⊥
    go zero d D p q = lt_irrefl 0 (subst (λ (i : ℕ). 0 < i) (sym p ∙ zero-mul c) (mul-pos A D))
    go (suc x) d D p q = lt_irrefl 0 (subst (λ (i : ℕ). 0 < i) q (mul-pos (zero-lt-suc x) (pow_pos 1074)))

-- ---- a sum
num_finite : (x : Float) → Num x → T (finite x)
num_finite nan n = n
num_finite (inf s) n = n
num_finite (fin s m e) n = tt

not_negative : (x : Float) → sign x ≡ false → NotMinusZero x
not_negative x e a z = false≢true (sym e ∙ a)

-- of numbers of units, the second not negative
sum_not_minus_zero : (s : Bool) (a b : ℕ) → Num (sum binary32 s a false b (2 ^ 149)) → NotMinusZero (sum binary32 s a false b (2 ^ 149))
unfolding sum
sum_not_minus_zero false a b n = not_negative (round binary32 false (a + b) (2 ^ 149)) (round_sign binary32 false (a + b) (2 ^ 149))
sum_not_minus_zero true a b n = go (ltb a b) (ltb b a) (ltb→lt b a) n
  where
    go : (u v : Bool) → (T v → b < a) → Num (cond u (round binary32 false (b - a) (2 ^ 149)) (round binary32 v (a - b) (2 ^ 149))) → NotMinusZero (cond u (round binary32 false (b - a) (2 ^ 149)) (round binary32 v (a - b) (2 ^ 149)))
    go true v l n = not_negative (round binary32 false (b - a) (2 ^ 149)) (round_sign binary32 false (b - a) (2 ^ 149))
    go false false l n = not_negative (round binary32 false (a - b) (2 ^ 149)) (round_sign binary32 false (a - b) (2 ^ 149))
    go false true l n = λ e z.
        let x = round binary32 true (a - b) (2 ^ 149) in
        size_pos x true (grid binary32 (a - b) (2 ^ 149)) (2 ^ 149) (grid_pos (a - b) (some (l tt))) (pow_pos 149) n (round_units binary32 true (a - b) (2 ^ 149) (num_finite x n)) z
      where
        some : b < a → 0 < a - b
        some h = omega arith

        grid_pos : (k : ℕ) → 0 < k → 0 < grid binary32 k (2 ^ 149)
        grid_pos k h = mul-pos (kept_pos (k * 2 ^ 149) (2 ^ 149) (subst (λ (i : ℕ). 0 < i) (sym (mul-div_cancel k (pow_pos 149))) h)) (pow_pos (drop 24 (k * 2 ^ 149) (2 ^ 149)))

-- of a whole number and an f32 that is not negative
add_not_minus_zero : (s : Bool) (m k b : ℕ) (y : Float) → (T (finite y) → HasValue y false b (2 ^ 149)) → Num (add binary32 (fin s m (pos k)) y) → NotMinusZero (add binary32 (fin s m (pos k)) y)
unfolding add
add_not_minus_zero s m k b nan v n = absurd n
add_not_minus_zero s m k b (inf t) v n = absurd n
add_not_minus_zero s m k b (fin t q d) v n =
    let e = add_value binary32 (fin s m (pos k)) (fin t q d) s false (m * 2 ^ k * 2 ^ 149) b (2 ^ 149) (pow_pos 149) (refl, sym (mul-one (m * 2 ^ k * 2 ^ 149))) (v tt) in
    subst NotMinusZero (sym e) (sum_not_minus_zero s (m * 2 ^ k * 2 ^ 149) b (subst Num e n))

-- ---- the place
moved_not_minus_zero : (lo rest : Float) → T (is_coordinate lo) → sign rest ≡ false → Num (moved lo rest) → NotMinusZero (moved lo rest)
unfolding moved narrowed add is_coordinate
moved_not_minus_zero nan rest t s n = absurd t
moved_not_minus_zero (inf u) rest t s n = absurd t
moved_not_minus_zero (fin u m (negsuc k)) rest t s n = absurd t
moved_not_minus_zero (fin u m (pos k)) nan t s n = absurd n
moved_not_minus_zero (fin u m (pos k)) (inf v) t s n = absurd n
moved_not_minus_zero (fin u m (pos k)) (fin true l e) t s n = absurd (true≢false s)
moved_not_minus_zero (fin u m (pos k)) (fin false l e) t s n =
    add_not_minus_zero u m k (grid binary32 (l * up e) (down e)) (round binary32 false (l * up e) (down e)) (round_units binary32 false (l * up e) (down e)) n

pub placed_number : (lo hi rest : Float) → T (is_coordinate32 lo) → T (is_coordinate hi) → rank lo < rank hi → sign rest ≡ false → T (is_number (placed lo hi rest))
unfolding placed moved
placed_number lo hi rest L H w s = go (lt lo (moved lo rest) && lt (moved lo rest) hi) (placed_num lo hi rest (of_coordinate lo L) H w)
  where
    go : (b : Bool) → Num (cond b (moved lo rest) lo) → T (is_number (cond b (moved lo rest) lo))
    go true n = is_a_number (moved lo rest) (add-fits binary32 lo (narrowed rest)) (num_finite (moved lo rest) n) (moved_not_minus_zero lo rest (of_coordinate lo L) s n)
    go false n = coordinate_number lo L
