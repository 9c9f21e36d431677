-- How many channels pass a test: no more than there are, and as many where all do. Assumes nothing.
use mathlib.Core.Path.{◌≡◌, refl, sym, ◌∙◌}
use mathlib.Core.Bool.{Bool, true, false, cond, and-true, and-false}
use Prim.Native.Nat.{ℕ, zero, suc, ◌+◌, ◌≤◌, zero-le}
use native.Mathlib.Omega.{arith}
use lib.Dec.{eqb, eqb→eq}
use borrow.Table.Steps.{cases as by-test}
use Rattle.readings.proofs.Tests.{same_test, eqb_iff}
use Rattle.boundingbox.specs.Contained.{every, count_of}
use Rattle.boundingbox.specs.Wholes.{sum_to}

module _ (p : ℕ → Bool) where
  pub count_most : (n : ℕ) → count_of p n ≤ n
  unfolding sum_to
  count_most zero = zero-le
  count_most (suc n) = go (p n) (count_most n)
    where
      go : (b : Bool) → count_of p n ≤ n → count_of p n + cond b 1 0 ≤ suc n
      go true h = omega arith
      go false h = omega arith

  pub count_every : (n : ℕ) → eqb (count_of p n) n ≡ every p n
  unfolding sum_to every
  count_every zero = refl
  count_every (suc n) = by-test (p n) (λ t. rw t (passes (count_of p n) ∙ count_every n ∙ sym (and-true (every p n)))) (λ t. rw t (fails (count_of p n) (count_most n) ∙ sym (and-false (every p n))))
    where
      passes : (a : ℕ) → eqb (a + 1) (suc n) ≡ eqb a n
      passes a = eqb_iff (a + 1) (suc n) a n (λ e. omega arith) (λ e. omega arith)

      fails : (a : ℕ) → a ≤ n → eqb (a + 0) (suc n) ≡ false
      fails a h = same_test (eqb (a + 0) (suc n)) false (λ t. none (eqb→eq (a + 0) (suc n) t)) (λ t. absurd t)
        where
          none : a + 0 ≡ suc n → ⊥
          none e = omega arith
