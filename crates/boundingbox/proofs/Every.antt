-- A test over the first n channels: from and to the test of each. Assumes nothing.
use mathlib.Core.Path.{◌≡◌, refl, sym, subst}
use mathlib.Core.Logic.{⊎_elim}
use mathlib.Core.Bool.{Bool, true, false, not, ◌&&◌, ◌||◌, and-true}
use Prim.Native.Nat.{ℕ, zero, suc, ◌+◌, ◌≤◌, ◌<◌, min}
use native.Mathlib.Omega.{arith}
use native.Mathlib.Nat.{le_of_suc-le-suc, not-suc-le-zero, eq-or-lt_of_le, le-suc, le_refl, le_trans}
use native.Mathlib.Numerals.{add-one}
use lib.Dec.{T, leb, leb→le, nleb→lt}
use lib.Ieee.Fits.{and_l, and_r, and_i}
use Rattle.readings.proofs.Tests.{yes, no, split, same_test}
use Rattle.boundingbox.specs.Contained.{every}

module _ (p : ℕ → Bool) where
  pub every_next : (i : ℕ) → every p (i + 1) ≡ (every p i && p i)
  unfolding every
  every_next i = rw add-one

  pub every_at : (n : ℕ) → T (every p n) → (i : ℕ) → i < n → T (p i)
  unfolding every
  every_at zero t i h = absurd (not-suc-le-zero h)
  every_at (suc n) t i h =
      ⊎_elim (λ (e : i ≡ n). rw e (and_r (every p n) (p n) t)) (λ (l : i < n). every_at n (and_l (every p n) (p n) t) i l)
      (eq-or-lt_of_le (le_of_suc-le-suc h))

  pub every_from : (n : ℕ) → ((i : ℕ) → i < n → T (p i)) → T (every p n)
  unfolding every
  every_from zero h = tt
  every_from (suc n) h = and_i (every p n) (p n) (every_from n (λ i l. h i (le_trans l (le-suc n)))) (h n (le_refl (suc n)))

  pub every_fails : (n i : ℕ) → i < n → p i ≡ false → every p n ≡ false
  every_fails n i h e = same_test (every p n) false (λ t. rw e at (every_at n t i h)) (λ b. absurd b)

  -- one channel more, of those before d
  pub every_among : (d i : ℕ) → every p (min d (i + 1)) ≡ (every p (min d i) && (leb d i || p i))
  every_among d i = go (leb d i) refl
    where
      go : (b : Bool) → leb d i ≡ b → every p (min d (i + 1)) ≡ (every p (min d i) && (b || p i))
      go true e =
          let l : d ≤ i = leb→le d i (yes e) in
          let z : min d (i + 1) ≡ min d i = omega arith in
          rw z (sym (and-true (every p (min d i))))
      go false e =
          let l : i < d = nleb→lt d i (no e) in
          let z : min d (i + 1) ≡ i + 1 = omega arith in
          let y : min d i ≡ i = omega arith in
          rw (z, y) (every_next i)

pub every_same : (p q : ℕ → Bool) (n : ℕ) → ((i : ℕ) → i < n → p i ≡ q i) → every p n ≡ every q n
every_same p q n h =
    same_test (every p n) (every q n)
    (λ t. every_from q n (λ i l. subst T (h i l) (every_at p n t i l))) (λ t. every_from p n (λ i l. subst T (sym (h i l)) (every_at q n t i l)))

-- channels that pass whatever the rest
pub every_more : (p : ℕ → Bool) (d n : ℕ) → d ≤ n → ((i : ℕ) → d ≤ i → i < n → T (p i)) → every p n ≡ every p d
every_more p d n l h =
    same_test (every p n) (every p d) (λ t. every_from p d (λ i k. every_at p n t i (le_trans k l)))
    (λ t. every_from p n (λ i k. ⊎_elim (λ (g : T (leb d i)). h i (leb→le d i g) k) (λ (g : T (not (leb d i))). every_at p d t i (nleb→lt d i g)) (split (leb d i))))
