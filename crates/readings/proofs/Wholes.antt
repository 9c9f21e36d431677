-- Whole numbers as floats: their values, their sums, the same number in both formats, and one rounded division. Assumes nothing.
use Rattle.std.proofs.Common.{◌≡◌, ℕ, ◌+◌, ◌*◌, ◌^◌, ◌<◌, ◌≤◌, Bool, true, false, cond, eqb, pos, sym, ap, ◌∙◌, subst, true≢false, le_trans, lt_irrefl, zero-lt-suc, mul_assoc, mul_comm, mul-pos, mul_left_comm, eqb→eq, leb→le, pow_mono}
use native.Mathlib.Nat.{eq_of_mul-eq-mul_right}
use lib.Dec.{not_T}
use lib.Ieee.{Float, nan, inf, fin, Format, binary32, binary64, prec, up, down, round, add, of_int, div}
use lib.Ieee.Fits.{down_pos, of_int-fits, fits_widens}
use lib.Ieee.Exact.{HasValue}
use lib.Ieee.Scale.{round_same}
use lib.Ieee.Back.{round_whole, whole_unique}
use lib.Ieee.Bits.{is_false}
use lib.Ieee.Positive.{first_pos}
use Rattle.readings.proofs.Values.{add_value, sum_plus}

-- a whole number up to 2 ^ prec is a value of the format
pub of_int_value : (f : Format) (n : ℕ) → n ≤ 2 ^ prec f → HasValue (of_int f (pos n)) false n 1
unfolding of_int
of_int_value f n h = round_whole f false n h

-- `as f64` of a whole number
pub of_int_wide : (n : ℕ) → n ≤ 2 ^ 24 → of_int binary32 (pos n) ≡ of_int binary64 (pos n)
of_int_wide n h =
    whole_unique binary64 (of_int binary32 (pos n)) (of_int binary64 (pos n)) false n (fits_widens (of_int binary32 (pos n)) (of_int-fits binary32 (pos n))) (of_int-fits binary64 (pos n))
    (of_int_value binary32 n h) (of_int_value binary64 n (le_trans h (pow_mono (leb→le 24 53 tt))))

-- a sum of whole numbers
pub of_int_add : (f : Format) (a b : ℕ) → a ≤ 2 ^ prec f → b ≤ 2 ^ prec f → add f (of_int f (pos a)) (of_int f (pos b)) ≡ of_int f (pos (a + b))
unfolding of_int
of_int_add f a b h k = add_value f (of_int f (pos a)) (of_int f (pos b)) false false a b 1 (zero-lt-suc 0) (of_int_value f a h) (of_int_value f b k) ∙ sum_plus f a b 1

-- ---- one rounded division
no_zero : (n : ℕ) (u c b d : ℕ) → n * u * c ≡ b * d → 0 < b → 0 < d → 0 < n * u
no_zero n u c b d h B D = first_pos (n * u) c (subst (λ (x : ℕ). 0 < x) (sym h) (mul-pos B D))

-- the quotient of two values over one denominator is that of their numerators, rounded once
pub div_value : (f : Format) (x y : Float) (a b c : ℕ) → 0 < b → 0 < c → HasValue x false a c → HasValue y false b c → div f x y ≡ round f false a b
unfolding div
div_value f nan y a b c B C h k = absurd h
div_value f (inf s) y a b c B C h k = absurd h
div_value f (fin s m e) nan a b c B C h k = absurd k
div_value f (fin s m e) (inf t) a b c B C h k = absurd k
div_value f (fin true m e) (fin t n d) a b c B C h k = absurd (true≢false h.0)
div_value f (fin false m e) (fin true n d) a b c B C h k = absurd (true≢false k.0)
div_value f (fin false m e) (fin false n d) a b c B C h k =
    let some : 0 < n * up d = no_zero n (up d) c b (down d) k.1 B (down_pos d) in
    ap (λ (z : Bool). cond z (cond (eqb m 0) nan (inf false)) (round f false (m * up e * down d) (n * up d * down e)))
    (is_false (eqb n 0) (not_T (eqb n 0) (λ t. lt_irrefl 0 (subst (λ (x : ℕ). 0 < x) (eqb→eq n 0 t) (first_pos n (up d) some)))))
    ∙ round_same f false (m * up e * down d) (n * up d * down e) a b (mul-pos some (down_pos e)) B
    (eq_of_mul-eq-mul_right c C (m * up e * down d * b) (a * (n * up d * down e))
    (swap (m * up e) (down d) b c ∙ ap (λ (z : ℕ). z * (b * down d)) h.1 ∙ ap (λ (z : ℕ). a * down e * z) (sym k.1) ∙ swap_back a (down e) (n * up d) c))
  where
    swap : (p d b c : ℕ) → p * d * b * c ≡ p * c * (b * d)
    swap p d b c = simp (mul_assoc, mul_comm, mul_left_comm)

    swap_back : (a e q c : ℕ) → a * e * (q * c) ≡ a * (q * e) * c
    swap_back a e q c = simp (mul_assoc, mul_comm)

-- the quotient of two values that are whole numbers is the fraction, rounded once
pub div_whole : (f : Format) (x y : Float) (a b : ℕ) → 0 < b → HasValue x false a 1 → HasValue y false b 1 → div f x y ≡ round f false a b
div_whole f x y a b B h k = div_value f x y a b 1 B (zero-lt-suc 0) h k
