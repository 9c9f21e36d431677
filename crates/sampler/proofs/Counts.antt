-- The same entries: a sum over them is the same whatever places they change, so a push adds one entry and a pop takes the first. Assumes nothing.
use mathlib.Core.Path.{◌≡◌, refl, ◌∙◌}
use mathlib.Core.Bool.{Bool, true}
use mathlib.Core.List.{List, [], ◌∷◌, ◌++◌}
use Prim.Native.Nat.{ℕ, zero, suc, ◌+◌, ◌<◌}
use native.Mathlib.Omega.{arith}
use lib.ListN.{length, get_or, set, take, length-set, length-append}
use lib.Seq.{lt-length-set, get_or-set_same, get_or-set_other}
use borrow.Author.Tests.{eqb-true, eqb-false}
use borrow.Table.Steps.{cases as by-test}
use lib.Dec.{eqb}
use Rattle.sampler.specs.Heap.{swapped, refilled, moved, total, parent, rises, pushed, heavier, sinks, popped, PushKeeps, PopKeeps, PushLength, PopLength}
use Rattle.sampler.proofs.Moves.{along, heavier_there, sinks_says}

module _ {A : Type 0} (z : A) (f : A → ℕ) where
  total_set : (xs : List A) (i : ℕ) (x : A) → i < length xs → total f (set xs i x) + f (get_or xs i z) ≡ total f xs + f x
  unfolding total
  total_set [] i x h = absurd (omega arith)
  total_set (y ∷ xs) zero x h = omega arith
  total_set (y ∷ xs) (suc i) x h = omega (arith, total_set xs i x (omega arith))

  -- what stands at b once a is written: the same, also where a is b
  written : (xs : List A) (a b : ℕ) → b < length xs → get_or (set xs a (get_or xs b z)) b z ≡ get_or xs b z
  written xs a b h =
      by-test (eqb b a)
      (λ t. let e = eqb-true b a t in rw (← e) (get_or-set_same xs b (get_or xs b z) z h))
      (λ t. get_or-set_other xs a b (get_or xs b z) z (eqb-false b a t))

  total_swapped : (xs : List A) (a b : ℕ) → a < length xs → b < length xs → total f (swapped z xs a b) ≡ total f xs
  total_swapped xs a b h l =
      let second = total_set (set xs a (get_or xs b z)) b (get_or xs a z) (lt-length-set xs a (get_or xs b z) l) in
      let first = total_set xs a (get_or xs b z) h in
      let same = rw (written xs a b l) at second in
      omega arith

  total_refilled : (x : A) (xs : List A) → total f (take (length xs) (x ∷ xs)) + f (get_or (x ∷ xs) (length xs) z) ≡ total f (x ∷ xs)
  unfolding total
  total_refilled x [] = omega arith
  total_refilled x (y ∷ xs) = omega (arith, total_refilled y xs)

  refilled_total : (x : A) (xs : List A) → total f (refilled z (x ∷ xs)) ≡ total f xs
  unfolding refilled total
  refilled_total x [] = refl
  refilled_total x (y ∷ xs) = omega (arith, total_refilled y xs)

  total_added : (xs : List A) (x : A) → total f (xs ++ (x ∷ [])) ≡ f x + total f xs
  unfolding total
  total_added [] x = refl
  total_added (y ∷ xs) x = omega (arith, total_added xs x)

  -- a way from a place of the list to places of the list
  module _ (goes : List A → ℕ → Bool) (to : List A → ℕ → ℕ) (there : (xs : List A) (i : ℕ) → i < length xs → goes xs i ≡ true → to xs i < length xs) where
    total_moved : (n : ℕ) (xs : List A) (i : ℕ) → i < length xs → total f (moved z goes to n xs i) ≡ total f xs
    total_moved n xs i h =
        along z goes to (λ _ ys j. (j < length ys) × (total f ys ≡ total f xs)) (λ ys. total f ys ≡ total f xs)
        (λ ys j q. q.1)
        (λ m ys j q t. q.1)
        (λ m ys j q t. (simp length-set (there ys j q.0 t), total_swapped ys j (to ys j) q.0 (there ys j q.0 t) ∙ q.1))
        n xs i (h, refl)

module _ {A : Type 0} (above : A → A → Bool) (z : A) where
  pub push_keeps : PushKeeps above z
  push_keeps f xs x =
      total_moved z f (rises above z) (λ _. parent) (λ ys i h t. omega arith) (length xs) (xs ++ (x ∷ [])) (length xs) (simp length-append (omega arith))
      ∙ total_added z f xs x

  pub pop_keeps : PopKeeps above z
  unfolding total refilled moved
  pop_keeps f x [] = refl
  pop_keeps f x (y ∷ xs) =
      let ys = refilled z (x ∷ y ∷ xs) in
      omega (arith, refilled_total z f x (y ∷ xs), total_moved z f (sinks above z) (heavier above z) (λ ks i h t. (heavier_there above z ks i (sinks_says above z ks i t).0).2) (length ys) ys 0 (omega arith))

  -- a sum of ones counts
  total_ones : (xs : List A) → total (λ _. 1) xs ≡ length xs
  unfolding total
  total_ones [] = refl
  total_ones (x ∷ xs) = omega (arith, total_ones xs)

  pub push_length : PushLength above z
  push_length xs x = omega (arith, total_ones xs, total_ones (pushed above z xs x), push_keeps (λ _. 1) xs x)

  pub pop_length : PopLength above z
  pop_length x xs = omega (arith, total_ones (x ∷ xs), total_ones (popped above z (x ∷ xs)), pop_keeps (λ _. 1) x xs)
