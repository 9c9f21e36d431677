-- The numbers of a box's answer, which a loop writes channel by channel. Assumes nothing.
use mathlib.Core.Path.{◌≡◌, refl, sym, ap, ◌∙◌, subst}
use mathlib.Core.List.{List, [], ◌∷◌, ◌++◌}
use Prim.Native.Nat.{ℕ, zero, suc, ◌+◌, ◌-◌, ◌*◌, ◌≤◌, ◌<◌, zero-le}
use native.Mathlib.Nat.{le_of_suc-le-suc, not-suc-le-zero}
use native.Mathlib.Omega.{arith}
use lib.Dec.{eqb, ltb}
use lib.ListN.{replicate, length, get_or, set, length-set, length-append, get_or-append, get_or-eq_default}
use lib.Seq.{ext_get_or, get_or-set_same, get_or-set_other, get_or-append-add}
use borrow.Author.Tests.{eqb-true, eqb-false, ltb-true, ltb-false}
use Rattle.limits.specs.Limits.{width}
use Rattle.cuttree.proofs.Tests.{by-test}
use Rattle.wholetree.specs.Whole.{tab}
use Rattle.wholetree.proofs.Readings.{tab_length, tab_at}
use Rattle.answers.specs.Said.{filled, reply_width}

pub filled_length : (n : ℕ) (xs : List ℕ) → length (filled n xs) ≡ n
unfolding filled
filled_length zero xs = refl
filled_length (suc n) [] = ap suc (filled_length n [])
filled_length (suc n) (x ∷ xs) = ap suc (filled_length n xs)

-- zeros at the end of the numbers are the same as none
filled_zeros : (n k : ℕ) → filled n (replicate k 0) ≡ filled n []
unfolding filled
filled_zeros zero k = refl
filled_zeros (suc n) zero = refl
filled_zeros (suc n) (suc k) = ap (λ xs. 0 ∷ xs) (filled_zeros n k)

-- the reply of a refusal: its number, and zeros
pub refused_reply : (r k : ℕ) → r ∷ replicate (2 * width) 0 ≡ filled reply_width (r ∷ replicate k 0)
unfolding filled
refused_reply r k = ap (λ xs. r ∷ xs) (sym (filled_zeros (2 * width) k))

filled_at : (n : ℕ) (xs : List ℕ) (i : ℕ) → i < n → get_or (filled n xs) i 0 ≡ get_or xs i 0
unfolding filled
filled_at zero xs i h = absurd (not-suc-le-zero h)
filled_at (suc n) [] zero h = refl
filled_at (suc n) [] (suc i) h = filled_at n [] i (le_of_suc-le-suc h)
filled_at (suc n) (x ∷ xs) zero h = refl
filled_at (suc n) (x ∷ xs) (suc i) h = filled_at n xs i (le_of_suc-le-suc h)

-- two tables, one after the other
module _ (f g : ℕ → ℕ) (d : ℕ) where
  both_lower : (m : ℕ) → m < d → get_or (tab d f ++ tab d g) m 0 ≡ f m
  both_lower m h = get_or-append (tab d f) (tab d g) 0 m (omega (arith, tab_length d f)) ∙ tab_at d f m 0 h

  both_upper : (j : ℕ) → j < d → get_or (tab d f ++ tab d g) (d + j) 0 ≡ g j
  both_upper j h = ap (λ (n : ℕ). get_or (tab d f ++ tab d g) (n + j) 0) (sym (tab_length d f)) ∙ get_or-append-add (tab d f) (tab d g) j 0 ∙ tab_at d g j 0 h

  both_after : (m : ℕ) → 2 * d ≤ m → get_or (tab d f ++ tab d g) m 0 ≡ 0
  both_after m h = get_or-eq_default (tab d f ++ tab d g) 0 (omega (arith, length-append (tab d f) (tab d g), tab_length d f, tab_length d g))

-- the refusal r, then f and g of each of d channels: of the channels below i they are written, and 0 comes after the last
pub record Told (r : ℕ) (f g : ℕ → ℕ) (d i : ℕ) (l : List ℕ) : Type 0 where
  pub within : i ≤ d
  pub long : length l ≡ reply_width
  pub first : get_or l 0 0 ≡ r
  pub lower : (j : ℕ) → j < i → get_or l (1 + j) 0 ≡ f j
  pub upper : (j : ℕ) → j < i → get_or l (1 + d + j) 0 ≡ g j
  pub rest : (k : ℕ) → 2 * d < k → k < reply_width → get_or l k 0 ≡ 0

module _ (r : ℕ) (f g : ℕ → ℕ) (d : ℕ) where
  pub told_none : Told r f g d 0 (set (filled reply_width []) 0 r)
  told_none = record {
    within = zero-le;
    long = length-set (filled reply_width []) 0 r ∙ filled_length reply_width [];
    first = get_or-set_same (filled reply_width []) 0 r 0 (omega (arith, filled_length reply_width []));
    lower = λ j h. absurd (omega arith);
    upper = λ j h. absurd (omega arith);
    rest = λ k h q. get_or-set_other (filled reply_width []) 0 k r 0 (λ e. absurd (omega arith)) ∙ filled_at reply_width [] k q;
  }

  -- the numbers of channel i are written
  module _ (i : ℕ) (l : List ℕ) (x y : ℕ) (w : Told r f g d i l) (h : i < d) (small : d ≤ width) (ex : x ≡ f i) (ey : y ≡ g i) where
    -- at every other place the list is as before
    kept : (k : ℕ) → (k ≡ 1 + i → ⊥) → (k ≡ 1 + d + i → ⊥) → get_or (set (set l (1 + i) x) (1 + d + i) y) k 0 ≡ get_or l k 0
    kept k n m = get_or-set_other (set l (1 + i) x) (1 + d + i) k y 0 m ∙ get_or-set_other l (1 + i) k x 0 n

    at_lower : get_or (set (set l (1 + i) x) (1 + d + i) y) (1 + i) 0 ≡ f i
    at_lower = get_or-set_other (set l (1 + i) x) (1 + d + i) (1 + i) y 0 (λ e. absurd (omega arith)) ∙ get_or-set_same l (1 + i) x 0 (omega (arith, w.long)) ∙ ex

    at_upper : get_or (set (set l (1 + i) x) (1 + d + i) y) (1 + d + i) 0 ≡ g i
    at_upper = get_or-set_same (set l (1 + i) x) (1 + d + i) y 0 (omega (arith, w.long, length-set l (1 + i) x)) ∙ ey

    pub told_turn : Told r f g d (i + 1) (set (set l (1 + i) x) (1 + d + i) y)
    told_turn = record {
      within = omega arith;
      long = length-set (set l (1 + i) x) (1 + d + i) y ∙ length-set l (1 + i) x ∙ w.long;
      first = kept 0 (λ e. absurd (omega arith)) (λ e. absurd (omega arith)) ∙ w.first;
      lower = λ j q. by-test (eqb j i)
          (λ t. let e : j ≡ i = eqb-true j i t in rw e at_lower)
          (λ t. let n : (j ≡ i → ⊥) = eqb-false j i t in kept (1 + j) (λ e. n (omega arith)) (λ e. absurd (omega arith)) ∙ w.lower j (omega arith));
      upper = λ j q. by-test (eqb j i)
          (λ t. let e : j ≡ i = eqb-true j i t in rw e at_upper)
          (λ t. let n : (j ≡ i → ⊥) = eqb-false j i t in kept (1 + d + j) (λ e. absurd (omega arith)) (λ e. n (omega arith)) ∙ w.upper j (omega arith));
      rest = λ k q z. kept k (λ e. absurd (omega arith)) (λ e. absurd (omega arith)) ∙ w.rest k q z;
    }

  -- a number by its place
  number_at : (l : List ℕ) → Told r f g d d l → (k : ℕ) → k < reply_width → get_or l k 0 ≡ get_or (r ∷ (tab d f ++ tab d g)) k 0
  number_at l w zero h = w.first
  number_at l w (suc m) h = by-test (ltb m d)
      (λ t. let q : m < d = ltb-true m d t in moved (1 + m) (omega arith) ∙ w.lower m q ∙ sym (both_lower f g d m q))
      (λ t. past (ltb-false m d t))
    where
      moved : (k : ℕ) → suc m ≡ k → get_or l (suc m) 0 ≡ get_or l k 0
      moved k e = ap (λ (n : ℕ). get_or l n 0) e

      -- past the lower ends: an upper end, or 0
      past : d ≤ m → get_or l (suc m) 0 ≡ get_or (tab d f ++ tab d g) m 0
      past p = by-test (ltb m (2 * d))
          (λ u. let q : m - d < d = omega (arith, ltb-true m (2 * d) u) in moved (1 + d + (m - d)) (omega arith) ∙ w.upper (m - d) q ∙ sym (both_upper f g d (m - d) q) ∙ ap (λ (k : ℕ). get_or (tab d f ++ tab d g) k 0) (omega arith))
          (λ u. let q : 2 * d ≤ m = ltb-false m (2 * d) u in w.rest (suc m) (omega arith) h ∙ sym (both_after f g d m q))

  pub told_all : (i : ℕ) (l : List ℕ) → Told r f g d i l → d ≤ i → l ≡ filled reply_width (r ∷ (tab d f ++ tab d g))
  told_all i l w h = ext_get_or 0 l (filled reply_width (r ∷ (tab d f ++ tab d g))) (w.long ∙ sym (filled_length reply_width (r ∷ (tab d f ++ tab d g))))
      (λ k q. number_at l (full (omega (arith, w.within))) k (omega (arith, w.long)) ∙ sym (filled_at reply_width (r ∷ (tab d f ++ tab d g)) k (omega (arith, w.long))))
    where
      full : i ≡ d → Told r f g d d l
      full e = subst (λ (n : ℕ). Told r f g d n l) e w
