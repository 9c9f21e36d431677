-- How many numbers and how many intervals a stack has: numbers that are free once each are no more than there are numbers, nor are
-- their intervals, so as many rows as numbers are enough and no release is refused. Assumes nothing.
use mathlib.Core.Path.{◌≡◌, refl}
use mathlib.Core.List.{List, [], ◌∷◌}
use Prim.Native.Nat.{ℕ, zero, suc, ◌+◌, ◌-◌, ◌≤◌, ◌<◌}
use native.Mathlib.Omega.{arith}
use lib.Dec.{eqb, leb, ltb}
use lib.ListN.{length}
use borrow.Author.Tests.{le-leb, eqb-true, eqb-false, leb-true, leb-false, ltb-true, ltb-false}
use Rattle.limits.specs.Limits.{branch_limit}
use Rattle.intervalstoremanager.specs.Stack.{fresh, after_get, after_release, within, holds, sizes, Proper, FewIntervals}
use Rattle.intervalstoremanager.specs.Rows.{released_on, NeverFull}
use Rattle.intervalstoremanager.proofs.Tests.{by-test}
use Rattle.intervalstoremanager.proofs.Counts.{inside, below_start, after, proper_release, once_release}
use Rattle.intervalstoremanager.proofs.Layouts.{release_on_stack}

pub sizes_fresh : (size : ℕ) → sizes (fresh size) ≡ size
unfolding sizes fresh
sizes_fresh size =
    by-test (eqb size 0)
    (λ z. rw z (omega (arith, eqb-true size 0 z)))
    (λ z. let z' = eqb-false size 0 z in rw z (omega (arith, z')))

pub sizes_get : (size : ℕ) (xs : List (ℕ × ℕ)) → Proper size xs → 0 < length xs → sizes xs ≡ sizes (after_get xs) + 1
unfolding sizes after_get Proper
sizes_get size [] p h = absurd (omega arith)
sizes_get size (x ∷ xs) p h =
    by-test (ltb x.0 x.1)
    (λ t. rw t (omega (arith, ltb-true x.0 x.1 t)))
    (λ t. rw t (omega (arith, ltb-false x.0 x.1 t, p.0)))

pub sizes_release : (size : ℕ) (xs : List (ℕ × ℕ)) (i : ℕ) → Proper size xs → sizes (after_release xs i) ≡ sizes xs + 1
unfolding sizes after_release Proper
sizes_release size [] i p = omega arith
sizes_release size (x ∷ xs) i p =
    by-test (eqb x.0 (i + 1))
    (λ s. rw s (omega (arith, eqb-true x.0 (i + 1) s, p.0)))
    (λ s. by-test (eqb (x.1 + 1) i)
    (λ e. rw (s, e) (omega (arith, eqb-true (x.1 + 1) i e, p.0)))
    (λ e. rw (s, e) (omega arith)))

length_sizes : (size : ℕ) (xs : List (ℕ × ℕ)) → Proper size xs → length xs ≤ sizes xs
unfolding sizes Proper
length_sizes size [] p = omega arith
length_sizes size (x ∷ xs) p = omega (arith, length_sizes size xs p.2, p.0)

-- Where a number is free, there is an interval to hand it out of.
pub some_interval : (xs : List (ℕ × ℕ)) → 0 < sizes xs → 0 < length xs
unfolding sizes
some_interval [] h = h
some_interval (x ∷ xs) h = omega arith

-- The sum of `f` at the numbers below `n`.
abbrev total : ℕ → (ℕ → ℕ) → ℕ
total zero f = 0
total (suc n) f = f n + total n f

total_none : (n : ℕ) → total n (λ j. 0) ≡ 0
total_none zero = refl
total_none (suc n) = omega (arith, total_none n)

total_sum : (n : ℕ) (f g : ℕ → ℕ) → total n (λ j. f j + g j) ≡ total n f + total n g
total_sum zero f g = refl
total_sum (suc n) f g = omega (arith, total_sum n f g)

total_once : (n : ℕ) (f : ℕ → ℕ) → ((j : ℕ) → f j ≤ 1) → total n f ≤ n
total_once zero f h = omega arith
total_once (suc n) f h = omega (arith, total_once n f h, h n)

total_begun : (a b n : ℕ) → n ≤ b + 1 → total n (within (a, b)) ≡ n - a
total_begun a b zero h = omega arith
total_begun a b (suc n) h =
    by-test (leb a n)
    (λ l. omega (arith, total_begun a b n (omega arith), inside a b n (leb-true a n l) (omega arith), leb-true a n l))
    (λ l. omega (arith, total_begun a b n (omega arith), below_start a b n (leb-false a n l), leb-false a n l))

total_whole : (a b n : ℕ) → b < n → total n (within (a, b)) ≡ b + 1 - a
total_whole a b zero h = absurd (omega arith)
total_whole a b (suc n) h =
    by-test (leb n b)
    (λ l. let e : n ≡ b = omega (arith, leb-true n b l) in rw e (omega (arith, total_begun a b (suc b) (omega arith))))
    (λ l. omega (arith, total_whole a b n (leb-false n b l), after a b n (leb-false n b l)))

total_holds : (size : ℕ) (xs : List (ℕ × ℕ)) → Proper size xs → total size (holds xs) ≡ sizes xs
unfolding holds sizes Proper
total_holds size [] p = total_none size
total_holds size (x ∷ xs) p =
    omega (arith, total_sum size (within x) (holds xs), total_whole x.0 x.1 size p.1, total_holds size xs p.2)

pub few_intervals : FewIntervals
few_intervals size xs p o =
    (omega (arith, total_holds size xs p, total_once size (holds xs) o), length_sizes size xs p)

pub never_full : NeverFull
unfolding released_on
never_full size m xs i w small p o h n =
    let few = few_intervals size (after_release xs i) (proper_release size xs i h p) (once_release size xs i p o n) in
    let fits = le-leb (length (after_release xs i)) branch_limit (omega arith) in
    let on = release_on_stack m xs i w in
    (rw fits at on.0, rw fits at on.1)
