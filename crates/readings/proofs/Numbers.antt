-- Which results are numbers: what is rounded never is a NaN, nor is a difference of two values in order, nor a value that a comparison places. Assumes nothing.
use Rattle.std.proofs.Common.{◌≡◌, ℕ, zero, suc, ◌+◌, ◌-◌, ◌*◌, ◌^◌, Bool, true, false, cond, not, ◌&&◌, T, ltb, sym, refl, ap, ◌∙◌}
use mathlib.Core.Bool.{beq, false≢true}
use lib.Ieee.{Float, nan, inf, fin, Format, binary32, binary64, prec, low, emax, up, down, odd, units, round, sum, add, sub, neg, lt, eq, ne, fits, is_nan}
use lib.Ieee.Fits.{round_is, fits_widens, and_i, sub-fits}
use Rattle.readings.proofs.Tests.{no}

odd_number : (d : ℕ) (s : Bool) (q k l : ℕ) → is_nan (odd d s q k l) ≡ false
unfolding odd is_nan
odd_number d s zero k l = refl
odd_number d s (suc q) k l = refl

units_number : (f : Format) (s : Bool) (q k : ℕ) → is_nan (units f s q k) ≡ false
unfolding units is_nan
units_number f s q k = go (ltb (q * 2 ^ k) (2 ^ (low f + suc (emax f))))
  where
    go : (b : Bool) → is_nan (cond b (odd (suc (prec f)) s q k (low f)) (inf s)) ≡ false
    go true = odd_number (suc (prec f)) s q k (low f)
    go false = refl

-- what is rounded is a number
round_number : (f : Format) (s : Bool) (a c : ℕ) → is_nan (round f s a c) ≡ false
round_number f s a c = ap is_nan (round_is f s a c) ∙ units_number f s _ _

cond_number : (b : Bool) (x y : Float) → is_nan x ≡ false → is_nan y ≡ false → is_nan (cond b x y) ≡ false
cond_number true x y h k = h
cond_number false x y h k = k

-- so is a sum of two finite values
sum_number : (f : Format) (s : Bool) (a : ℕ) (t : Bool) (b c : ℕ) → is_nan (sum f s a t b c) ≡ false
unfolding sum
sum_number f s a t b c =
    cond_number (beq s t) (round f s (a + b) c) (cond (ltb a b) (round f t (b - a) c) (round f (s && ltb b a) (a - b) c)) (round_number f s (a + b) c)
    (cond_number (ltb a b) (round f t (b - a) c) (round f (s && ltb b a) (a - b) c) (round_number f t (b - a) c) (round_number f (s && ltb b a) (a - b) c))

-- the difference of two values in order is a number, infinities included
sub_number : (f : Format) (x y : Float) → lt y x ≡ true → is_nan (sub f x y) ≡ false
unfolding lt sub add neg is_nan
sub_number f x nan h = absurd (false≢true h)
sub_number f nan (inf t) h = absurd (false≢true h)
sub_number f (inf true) (inf true) h = absurd (false≢true h)
sub_number f (inf true) (inf false) h = absurd (false≢true h)
sub_number f (inf false) (inf true) h = refl
sub_number f (inf false) (inf false) h = absurd (false≢true h)
sub_number f (fin s m e) (inf t) h = refl
sub_number f nan (fin t n d) h = absurd (false≢true h)
sub_number f (inf s) (fin t n d) h = refl
sub_number f (fin s m e) (fin t n d) h = sum_number f s (m * up e * down d) (not t) (n * up d * down e) (down e * down d)

-- what `x as f64` asks of an f32
wide_cast : (x : Float) → T (fits binary32 x) → is_nan x ≡ false → T (fits binary64 x && not (is_nan x))
wide_cast x f n = and_i (fits binary64 x) (not (is_nan x)) (fits_widens x f) (no n)

-- so the difference of two f32s in order can be cast
pub sub_cast : (x y : Float) → lt y x ≡ true → T (fits binary64 (sub binary32 x y) && not (is_nan (sub binary32 x y)))
sub_cast x y h = wide_cast (sub binary32 x y) (sub-fits binary32 x y) (sub_number binary32 x y h)

-- what does not differ from itself is a number
pub self_number : (x : Float) → ne x x ≡ false → T (not (is_nan x))
unfolding is_nan ne eq
self_number nan h = absurd (false≢true (sym h))
self_number (inf s) h = tt
self_number (fin s m e) h = tt
