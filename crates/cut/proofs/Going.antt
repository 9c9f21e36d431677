-- The loop that takes the sides off the number: each step is exact, so it goes as the whole numbers do, and it ends in a side. Assumes nothing.
use Rattle.std.proofs.Common.{Some, ◌≡◌, ℕ, zero, suc, ◌+◌, ◌-◌, ◌*◌, ◌%◌, ◌^◌, ◌<◌, ◌≤◌, Bool, true, false, cond, ◌&&◌, T, eqb, ltb, leb, ◌⊎◌, ℤ, pos, negsuc, sym, refl, ap, ◌∙◌, subst, inl, inr, true≢false, zero-le, le_trans, le_of_eq, lt_of_le_of_lt, add-zero, le_of_lt, zero-lt-suc, add-mul, eq-zero-or-pos, one-mul, zero-mul, mul-one, arith, eqb→eq, ltb→lt, leb→le, pow_pos, pow-add}
use native.Mathlib.Nat.{sub-zero}
use lib.Dec.{nleb→lt}
use lib.Ieee.{Float, nan, inf, fin, binary64, up, down, round, sub, lt, le, fits, of_int}
use lib.Ieee.Fits.{and_l, and_r, round-fits}
use lib.Ieee.Exact.{HasValue}
use lib.Ieee.Positive.{num, den}
use borrow.Table.Steps.{cases as by-test}
use Rattle.readings.proofs.Tests.{leb_iff, leb_yes, no, pow_le_back}
use Rattle.readings.proofs.Keys.{value_unique}
use Rattle.readings.proofs.Values.{scaled_exact, sum_minus, scale_up, lt_value, zero_value}
use Rattle.readings.proofs.Wholes.{of_int_value}
use Rattle.readings.specs.Number.{nought}
use Rattle.boundingbox.specs.Wholes.{sum_to}
use Rattle.boundingbox.proofs.Sums.{sum_to_next}
use Rattle.cut.specs.Paper.{falls, first}
use Rattle.cut.specs.Draw.{reaches, left_of, side_from}
use Rattle.cut.proofs.First.{Short, falls_wide, falls_thin, short_next, never}
use Rattle.cut.proofs.Range.{Range, off_is, off_exact, off_test}

-- ---- a number as its own fraction: its denominator is 2 ^ expo
abbrev pub expo : Float → ℕ
expo nan = 0
expo (inf s) = 0
expo (fin s m (pos k)) = 0
expo (fin s m (negsuc k)) = suc k

pub den_is : (x : Float) → den x ≡ 2 ^ expo x
den_is nan = refl
den_is (inf s) = refl
den_is (fin s m (pos k)) = refl
den_is (fin s m (negsuc k)) = refl

fits_says : (s : Bool) (m : ℕ) (e : ℤ) → T (fits binary64 (fin s m e)) → (m < 2 ^ 53) × (down e ≤ 2 ^ 1074)
unfolding fits
fits_says s zero (pos k) t = (pow_pos 53, pow_pos 1074)
fits_says s zero (negsuc k) t = (pow_pos 53, le_trans (le_of_eq (sym (one-mul (2 ^ suc k)) ∙ eqb→eq (1 * 2 ^ suc k) 1 t)) (pow_pos 1074))
fits_says s (suc m) e t =
    let A = eqb (suc m % 2) 1 in
    let B = ltb (suc m) (2 ^ 53) in
    let C = leb (down e) (2 ^ 1074) in
    let D = ltb (suc m * up e) (2 ^ 1024 * down e) in
    (ltb→lt (suc m) (2 ^ 53) (and_r A B (and_l (A && B) C (and_l (A && B && C) D t))), leb→le (down e) (2 ^ 1074) (and_r (A && B) C (and_l (A && B && C) D t)))

module _ (S : ℕ) (A : S ≤ 2 ^ 32) where
  own_lt : (x : Float) → T (fits binary64 x) → num x ≤ S * den x → num x < 2 ^ 53
  own_lt nan t h = pow_pos 53
  own_lt (inf s) t h = pow_pos 53
  own_lt (fin s m (pos k)) t h = lt_of_le_of_lt (le_trans h (le_trans (le_of_eq (mul-one S)) A)) (leb→le (suc (2 ^ 32)) (2 ^ 53) tt)
  own_lt (fin s m (negsuc k)) t h = lt_of_le_of_lt (le_of_eq (mul-one m)) (fits_says s m (negsuc k) t).0

  pub own_range : (x : Float) (a c : ℕ) → T (fits binary64 x) → HasValue x false a c → num x ≤ S * den x → Range x (num x) (expo x) × (num x < 2 ^ 53)
  own_range x a c t v h = (record { value = is x v; small = le_of_lt (own_lt x t h); fine = fine x t v }, own_lt x t h)
    where
      is : (x : Float) → HasValue x false a c → HasValue x false (num x) (2 ^ expo x)
      is nan v = absurd v
      is (inf s) v = absurd v
      is (fin true m e) v = absurd (true≢false v.0)
      is (fin false m (pos k)) v = (refl, refl)
      is (fin false m (negsuc k)) v = (refl, refl)

      fine : (x : Float) → T (fits binary64 x) → HasValue x false a c → expo x ≤ 1074
      fine nan t v = absurd v
      fine (inf s) t v = absurd v
      fine (fin s m (pos k)) t v = zero-le
      fine (fin s m (negsuc k)) t v = pow_le_back (suc k) 1074 (fits_says s m (negsuc k) t).1

-- a number that fits is its own rounded fraction, where q is below 2 ^ 53
pub range_is : (x : Float) (q k : ℕ) → T (fits binary64 x) → Range x q k → q < 2 ^ 53 → x ≡ round binary64 false q (2 ^ k)
range_is x q k t R h =
    let e : 2 ^ k * 2 ^ (1074 - k) ≡ 2 ^ 1074 = sym (pow-add 2 k (1074 - k)) ∙ ap (λ (z : ℕ). 2 ^ z) (go k R.fine) in
    value_unique binary64 x (round binary64 false q (2 ^ k)) false (q * 2 ^ (1074 - k)) t (round-fits binary64 false q (2 ^ k))
    (subst (λ (c : ℕ). HasValue x false (q * 2 ^ (1074 - k)) c) e (scale_up x false q (2 ^ k) (2 ^ (1074 - k)) R.value))
    (subst (λ (c : ℕ). HasValue (round binary64 false q (2 ^ k)) false (q * 2 ^ (1074 - k)) c) e (scale_up (round binary64 false q (2 ^ k)) false q (2 ^ k) (2 ^ (1074 - k)) (scaled_exact q k h R.fine)))
  where
    go : (k : ℕ) → k ≤ 1074 → k + (1074 - k) ≡ 1074
    go k h = omega arith

-- ---- the loop before channel i
pub record Going (g : ℕ → ℕ) (q k i : ℕ) (r : Float) : Type 0 where
  pub range : Range r (q - sum_to g i * 2 ^ k) k
  pub is : r ≡ round binary64 false (q - sum_to g i * 2 ^ k) (2 ^ k)
  pub short : Short g q (2 ^ k) i

module _ (g : ℕ → ℕ) (q k : ℕ) where
  pub start : (r : Float) → Range r q k → r ≡ round binary64 false q (2 ^ k) → Going g q k 0 r
  unfolding sum_to
  start r R e = record { range = subst (λ (z : ℕ). Range r z k) (sym same) R; is = e ∙ ap (λ (z : ℕ). round binary64 false z (2 ^ k)) (sym same); short = inl refl }
    where
      same : q - 0 * 2 ^ k ≡ q
      same = ap (λ (z : ℕ). q - z) (zero-mul (2 ^ k)) ∙ sub-zero q

  after : (i : ℕ) → sum_to g (i + 1) * 2 ^ k ≡ sum_to g i * 2 ^ k + g i * 2 ^ k
  after i = ap (λ (x : ℕ). x * 2 ^ k) (sum_to_next g i) ∙ add-mul (sum_to g i) (g i) (2 ^ k)

  module _ (i : ℕ) (r : Float) (G : Going g q k i r) (L : g i ≤ 2 ^ 53) where
    abbrev f : Float
    f = of_int binary64 (pos (g i))

    wide : lt nought f ≡ ltb 0 (g i)
    wide = lt_value nought f 0 (g i) 1 (zero-lt-suc 0) (zero_value 1) (of_int_value binary64 (g i) L)

    test : 0 < g i → le (sub binary64 r f) nought ≡ leb q (sum_to g (i + 1) * 2 ^ k)
    test w = off_test r (q - sum_to g i * 2 ^ k) k (g i) G.range w L ∙ rw (after i) (go (sum_to g i * 2 ^ k) (g i * 2 ^ k))
      where
        go : (a b : ℕ) → leb (q - a) b ≡ leb q (a + b)
        go a b = leb_iff (q - a) b q (a + b) (λ h. omega arith) (λ h. omega arith)

    -- the side is cut exactly where the number falls to it
    pub reaches_is : reaches r f ≡ falls g q (2 ^ k) i
    unfolding reaches
    reaches_is = go (eq-zero-or-pos (g i))
      where
        go : (g i ≡ 0) ⊎ (0 < g i) → (lt nought f && le (sub binary64 r f) nought) ≡ falls g q (2 ^ k) i
        go (inl z) = ap (λ (b : Bool). b && le (sub binary64 r f) nought) (wide ∙ ap (ltb 0) z) ∙ sym (falls_thin g q (2 ^ k) i z)
        go (inr w) = ap (λ (b : Bool). b && le (sub binary64 r f) nought) (wide ∙ leb_yes w) ∙ test w ∙ sym (falls_wide g q (2 ^ k) i w)

    -- where it does not, what is left is exact
    pub going_on : falls g q (2 ^ k) i ≡ false → Going g q k (i + 1) (left_of r f)
    unfolding left_of
    going_on n = go (eq-zero-or-pos (g i))
      where
        short : Short g q (2 ^ k) (i + 1)
        short = short_next g q (2 ^ k) i G.short n

        skip : g i ≡ 0 → Going g q k (i + 1) r
        skip z =
            let e : sum_to g (i + 1) ≡ sum_to g i = sum_to_next g i ∙ ap (λ (x : ℕ). sum_to g i + x) z ∙ add-zero (sum_to g i) in
            record {
              range = subst (λ (x : ℕ). Range r (q - x * 2 ^ k) k) (sym e) G.range;
              is = G.is ∙ ap (λ (x : ℕ). round binary64 false (q - x * 2 ^ k) (2 ^ k)) (sym e);
              short = short;
            }

        minus : (a b : ℕ) → q - a - b ≡ q - (a + b)
        minus a b = omega arith

        more : (a b : ℕ) → a + b < q → b < q - a
        more a b h = omega arith

        take : 0 < g i → Going g q k (i + 1) (sub binary64 r f)
        take w =
            let l : sum_to g (i + 1) * 2 ^ k < q = nleb→lt q (sum_to g (i + 1) * 2 ^ k) (no (sym (falls_wide g q (2 ^ k) i w) ∙ n)) in
            let h : g i * 2 ^ k < q - sum_to g i * 2 ^ k = more (sum_to g i * 2 ^ k) (g i * 2 ^ k) (subst (λ (x : ℕ). x < q) (after i) l) in
            let e : q - sum_to g i * 2 ^ k - g i * 2 ^ k ≡ q - sum_to g (i + 1) * 2 ^ k = minus (sum_to g i * 2 ^ k) (g i * 2 ^ k) ∙ ap (λ (x : ℕ). q - x) (sym (after i)) in
            record {
              range = subst (λ (x : ℕ). Range (sub binary64 r f) x k) e (off_exact r (q - sum_to g i * 2 ^ k) k (g i) G.range w L h);
              is = off_is r (q - sum_to g i * 2 ^ k) k (g i) G.range L ∙ sum_minus binary64 (q - sum_to g i * 2 ^ k) (g i * 2 ^ k) (2 ^ k) (le_of_lt h) ∙ ap (λ (x : ℕ). round binary64 false x (2 ^ k)) e;
              short = short;
            }

        go : (g i ≡ 0) ⊎ (0 < g i) → Going g q k (i + 1) (cond (lt nought f) (sub binary64 r f) r)
        go (inl z) = rw (wide ∙ ap (ltb 0) z) (skip z)
        go (inr w) = rw (wide ∙ leb_yes w) (take w)

  -- the loop gives the first channel to which the number falls, and what is left of the number there
  pub found : (h : ℕ → Float) (N : ℕ) → ((j : ℕ) → j < N → (h j ≡ of_int binary64 (pos (g j))) × (g j ≤ 2 ^ 53)) → q ≤ sum_to g N * 2 ^ k → 0 < sum_to g N →
      (n i : ℕ) (r : Float) → i + n ≡ N → Going g q k i r → side_from h n i r ≡ Some (record { dimension = first g q (2 ^ k) n i; rest = round binary64 false (q - sum_to g (first g q (2 ^ k) n i) * 2 ^ k) (2 ^ k) })
  unfolding side_from first
  found h N H Q P zero i r e G = absurd (never g q (2 ^ k) N (subst (Short g q (2 ^ k)) e' G.short) Q P)
    where
      e' : i ≡ N
      e' = omega arith
  found h N H Q P (suc n) i r e G =
      let l : i < N = omega arith in
      let m : i + 1 + n ≡ N = omega arith in
      let L = (H i l).1 in
      let R : reaches r (h i) ≡ falls g q (2 ^ k) i = ap (reaches r) (H i l).0 ∙ reaches_is i r G L in
      by-test (falls g q (2 ^ k) i)
      (λ t. rw (R, t) (ap (λ (x : Float). Some (record { dimension = i; rest = x })) G.is))
      (λ t. rw (R, t) (found h N H Q P n (i + 1) (left_of r (h i)) m (subst (λ (x : Float). Going g q k (i + 1) (left_of r x)) (sym (H i l).0) (going_on i r G L t))))
