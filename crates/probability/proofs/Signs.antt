-- The signs of what is rounded: what lies outside is never a NaN, nor negative, so that it can be cast to an f64; and a difference below zero is not above it. Assumes nothing.
use mathlib.Core.Path.{◌≡◌, refl, sym, subst}
use mathlib.Core.List.{List}
use Prim.Native.Nat.{ℕ, zero, suc, ◌+◌, ◌-◌, ◌*◌, ◌^◌}
use native.Mathlib.Nat.{le_of_lt}
use mathlib.Core.Bool.{Bool, true, false, not, cond, false≢true, true≢false}
use lib.Dec.{T, ltb}
use lib.Ieee.{Float, nan, inf, fin, Format, binary32, binary64, prec, low, emax, up, down, odd, units, round, sum, add, sub, neg, below, lt, fits, is_nan}
use lib.Ieee.Fits.{round_is, fits_widens, and_i, add-fits}
use borrow.Author.Tests.{ltb-true, le-ltb}
use Rattle.readings.specs.Number.{nought}
use Rattle.readings.proofs.Values.{sum_under}
use Rattle.boundingbox.proofs.Casts.{Casts}
use Rattle.probability.specs.Probability.{past_by, total32, past_sum, outside}

-- a number of the sign s, infinities included
abbrev Signed : Bool → Float → Type 0
Signed s nan = ⊥
Signed s (inf t) = t ≡ s
Signed s (fin t m e) = t ≡ s

-- ---- rounding keeps the sign
odd_signed : (d : ℕ) (s : Bool) (q k l : ℕ) → Signed s (odd d s q k l)
unfolding odd
odd_signed d s zero k l = refl
odd_signed d s (suc q) k l = refl

units_signed : (f : Format) (s : Bool) (q k : ℕ) → Signed s (units f s q k)
unfolding units
units_signed f s q k = go (ltb (q * 2 ^ k) (2 ^ (low f + suc (emax f))))
  where
    go : (b : Bool) → Signed s (cond b (odd (suc (prec f)) s q k (low f)) (inf s))
    go true = odd_signed (suc (prec f)) s q k (low f)
    go false = refl

round_signed : (f : Format) (s : Bool) (a c : ℕ) → Signed s (round f s a c)
round_signed f s a c = subst (Signed s) (sym (round_is f s a c)) (units_signed f s _ _)

-- ---- what is not negative: so is the sum of two
add_signed : (f : Format) (x y : Float) → Signed false x → Signed false y → Signed false (add f x y)
unfolding add sum
add_signed f nan y h k = absurd h
add_signed f (inf s) nan h k = absurd k
add_signed f (inf true) (inf t) h k = absurd (true≢false h)
add_signed f (inf false) (inf true) h k = absurd (true≢false k)
add_signed f (inf false) (inf false) h k = refl
add_signed f (inf s) (fin t n d) h k = h
add_signed f (fin s m e) nan h k = absurd k
add_signed f (fin s m e) (inf t) h k = k
add_signed f (fin true m e) (fin t n d) h k = absurd (true≢false h)
add_signed f (fin false m e) (fin true n d) h k = absurd (true≢false k)
add_signed f (fin false m e) (fin false n d) h k = round_signed f false (m * up e * down d + n * up d * down e) (down e * down d)

-- what is above 0 is a number with no minus sign
above_signed : (x : Float) → lt nought x ≡ true → Signed false x
unfolding lt
above_signed nan h = absurd (false≢true h)
above_signed (inf true) h = absurd (false≢true h)
above_signed (inf false) h = refl
above_signed (fin true m e) h = absurd (false≢true h)
above_signed (fin false m e) h = refl

past_signed : (x y : Float) → Signed false (past_by x y)
unfolding past_by
past_signed x y = go (lt nought (sub binary32 x y)) refl
  where
    go : (b : Bool) → lt nought (sub binary32 x y) ≡ b → Signed false (cond b (sub binary32 x y) nought)
    go true h = above_signed (sub binary32 x y) h
    go false h = refl

sum_signed : (xs ys : List Float) (n : ℕ) → Signed false (past_sum xs ys n)
unfolding total32
sum_signed xs ys zero = refl
sum_signed xs ys (suc n) = add_signed binary32 (past_sum xs ys n) _ (sum_signed xs ys n) (past_signed _ _)

-- and a number can be cast
signed_number : (s : Bool) (x : Float) → Signed s x → T (not (is_nan x))
unfolding is_nan
signed_number s nan h = absurd h
signed_number s (inf t) h = tt
signed_number s (fin t m e) h = tt

pub outside_casts : (lo hi p : List Float) (n : ℕ) → Casts (outside lo hi p n)
outside_casts lo hi p n =
    let x = outside lo hi p n in
    and_i (fits binary64 x) (not (is_nan x)) (fits_widens x (add-fits binary32 (past_sum p hi n) (past_sum lo p n)))
    (signed_number false x (add_signed binary32 (past_sum p hi n) (past_sum lo p n) (sum_signed p hi n) (sum_signed lo p n)))

-- ---- what has a minus sign is not above 0
not_above : (x : Float) → Signed true x → lt nought x ≡ false
unfolding lt
not_above nan h = absurd h
not_above (inf true) h = refl
not_above (inf false) h = absurd (false≢true h)
not_above (fin true m e) h = refl
not_above (fin false m e) h = absurd (false≢true h)

-- nor is x less y, of two values that are in order
module _ (f : Format) (a b c : ℕ) where
  below_sum : (s t : Bool) → below s a t b ≡ true → Signed true (sum f s a (not t) b c)
  below_sum false false h = subst (Signed true) (sym (sum_under f a b c (ltb-true a b h))) (round_signed f true (b - a) c)
  below_sum false true h = absurd (false≢true h)
  below_sum true false h = unfold sum in round_signed f true (a + b) c
  below_sum true true h = unfold sum in rw (le-ltb a b (le_of_lt (ltb-true b a h)), h) (round_signed f true (a - b) c)

sub_signed : (f : Format) (x y : Float) → lt x y ≡ true → Signed true (sub f x y)
unfolding lt sub add neg
sub_signed f nan y h = absurd (false≢true h)
sub_signed f (inf s) nan h = absurd (false≢true h)
sub_signed f (inf true) (inf true) h = absurd (false≢true h)
sub_signed f (inf true) (inf false) h = refl
sub_signed f (inf false) (inf t) h = absurd (false≢true h)
sub_signed f (inf s) (fin t n d) h = h
sub_signed f (fin s m e) nan h = absurd (false≢true h)
sub_signed f (fin s m e) (inf true) h = absurd (false≢true h)
sub_signed f (fin s m e) (inf false) h = refl
sub_signed f (fin s m e) (fin t n d) h = below_sum f (m * up e * down d) (n * up d * down e) (down e * down d) s t h

pub sub_under : (f : Format) (x y : Float) → lt x y ≡ true → lt nought (sub f x y) ≡ false
sub_under f x y h = not_above (sub f x y) (sub_signed f x y h)
