-- What holds at each step of an entry's way holds at its end, and the ways up and down stay in the list. Assumes nothing.
use mathlib.Core.Path.{◌≡◌, refl}
use mathlib.Core.Bool.{Bool, true, false, ◌&&◌, false≢true}
use mathlib.Core.List.{List}
use Prim.Native.Nat.{ℕ, zero, suc, ◌+◌, ◌*◌, ◌≤◌, ◌<◌}
use native.Mathlib.Omega.{arith}
use lib.Dec.{ltb}
use lib.ListN.{length, get_or}
use borrow.Author.Tests.{ltb-true}
use borrow.Table.Steps.{cases as by-test}
use Rattle.sampler.specs.Heap.{swapped, moved, parent, rises, to_right, heavier, sinks}

-- ---- a way, step by step
module _ {A : Type 0} (z : A) (goes : List A → ℕ → Bool) (to : List A → ℕ → ℕ) (Q : ℕ → List A → ℕ → Type 0) (R : List A → Type 0)
    (out : (xs : List A) (i : ℕ) → Q 0 xs i → R xs)
    (stop : (n : ℕ) (xs : List A) (i : ℕ) → Q (suc n) xs i → goes xs i ≡ false → R xs)
    (step : (n : ℕ) (xs : List A) (i : ℕ) → Q (suc n) xs i → goes xs i ≡ true → Q n (swapped z xs i (to xs i)) (to xs i)) where
  pub along : (n : ℕ) (xs : List A) (i : ℕ) → Q n xs i → R (moved z goes to n xs i)
  unfolding moved
  along zero xs i q = out xs i q
  along (suc n) xs i q =
      by-test (goes xs i)
      (λ t. rw t (along n (swapped z xs i (to xs i)) (to xs i) (step n xs i q t)))
      (λ t. rw t (stop n xs i q t))

-- ---- both of two tests
pub both : (a b : Bool) → (a && b) ≡ true → (a ≡ true) × (b ≡ true)
both true b h = (refl, h)
both false b h = absurd (false≢true h)

-- ---- the heavier child is one of the two, and is there where a child is
module _ {A : Type 0} (above : A → A → Bool) (z : A) (xs : List A) (i : ℕ) where
  pub heavier_right : to_right above z xs i ≡ true → heavier above z xs i ≡ 2 * i + 2
  unfolding heavier
  heavier_right t = rw t

  pub heavier_left : to_right above z xs i ≡ false → heavier above z xs i ≡ 2 * i + 1
  unfolding heavier
  heavier_left t = rw t

  pub heavier_there : 2 * i + 1 < length xs → (2 * i < heavier above z xs i) × (heavier above z xs i ≤ 2 * i + 2) × (heavier above z xs i < length xs)
  heavier_there h =
      by-test (to_right above z xs i)
      (λ t. rw (heavier_right t) (omega arith, omega arith, ltb-true (2 * i + 2) (length xs) (both _ _ t).0))
      (λ t. rw (heavier_left t) (omega arith, omega arith, h))

  -- what a test that is passed says
  pub rises_says : rises above z xs i ≡ true → (0 < i) × (above (get_or xs i z) (get_or xs (parent i) z) ≡ true)
  rises_says t = let w = both (ltb 0 i) (above (get_or xs i z) (get_or xs (parent i) z)) t in (ltb-true 0 i w.0, w.1)

  pub sinks_says : sinks above z xs i ≡ true → (2 * i + 1 < length xs) × (above (get_or xs (heavier above z xs i) z) (get_or xs i z) ≡ true)
  sinks_says t =
      let w = both (ltb (2 * i + 1) (length xs)) (above (get_or xs (heavier above z xs i) z) (get_or xs i z)) t in
      (ltb-true (2 * i + 1) (length xs) w.0, w.1)
