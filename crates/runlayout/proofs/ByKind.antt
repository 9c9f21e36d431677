-- The kinds of a run's calls: the numbers of a call and of its answer by its kind, and which kinds stand in a run. Laws.
use mathlib.Core.Path.{◌≡◌, refl}
use mathlib.Core.Bool.{Bool, true, false, cond, ◌&&◌, ◌||◌}
use mathlib.Core.List.{List}
use Prim.Native.Nat.{ℕ, zero, suc, ◌+◌, ◌*◌, ◌≤◌}
use native.Mathlib.Omega.{arith}
use borrow.Author.Tests.{eqb-true, eqb-false, leb-true, ne_eqb}
use lib.Dec.{eqb, leb}
use lib.Ieee.{binary32, of_bits}
use Rattle.cuttree.specs.Run.{put, add, delete, query, copies_of, branch_of, box_of}
use Rattle.cuttree.proofs.Tests.{by_cond, by-test, clash}
use Rattle.runlayout.specs.Layout.{RunCall, plain, arrives, reports, sample, is_call, call_width, number, double, coordinates_at, words_at, arrival_words_at, call_at}
use Rattle.runlayout.specs.Check.{width_of, width_of_kind}

pub and_left : (a b : Bool) → (a && b) ≡ true → a ≡ true
and_left true b e = refl
and_left false b e = e

pub and_right : (a b : Bool) → (a && b) ≡ true → b ≡ true
and_right true b e = e
and_right false b e = clash false e refl

by_or : {P : Type 0} (a b : Bool) → (a || b) ≡ true → (a ≡ true → P) → (b ≡ true → P) → P
by_or true b e f g = f refl
by_or false b e f g = g e

-- a kind is from 3 to 11
in_range : (sampled : Bool) (k : ℕ) → is_call sampled k ≡ true → (3 ≤ k) × (k ≤ 11)
in_range sampled k e =
    by_or (eqb k 3 || (leb 7 k && leb k 10)) (cond sampled (eqb k 6 || eqb k 11) (eqb k 4 || eqb k 5)) e
    (λ u. by_or (eqb k 3) (leb 7 k && leb k 10) u
    (λ t. one 3 t (omega arith) (omega arith))
    (λ t. (omega (arith, leb-true 7 k (and_left (leb 7 k) (leb k 10) t)), omega (arith, leb-true k 10 (and_right (leb 7 k) (leb k 10) t)))))
    (by_cond (λ (b : Bool). b ≡ true → (3 ≤ k) × (k ≤ 11)) sampled (eqb k 6 || eqb k 11) (eqb k 4 || eqb k 5)
    (λ _ t. by_or (eqb k 6) (eqb k 11) t (λ v. one 6 v (omega arith) (omega arith)) (λ v. one 11 v (omega arith) (omega arith)))
    (λ _ t. by_or (eqb k 4) (eqb k 5) t (λ v. one 4 v (omega arith) (omega arith)) (λ v. one 5 v (omega arith) (omega arith))))
  where
    one : (n : ℕ) → eqb k n ≡ true → 3 ≤ n → n ≤ 11 → (3 ≤ k) × (k ≤ 11)
    one n t h g = (omega (arith, eqb-true k n t), omega (arith, eqb-true k n t))

pub by_kind : (P : ℕ → Type 0) → P 3 → P 4 → P 5 → P 6 → P 7 → P 8 → P 9 → P 10 → P 11 → (sampled : Bool) (k : ℕ) → is_call sampled k ≡ true → P k
by_kind P p3 p4 p5 p6 p7 p8 p9 p10 p11 sampled k e = go k (in_range sampled k e).0 (in_range sampled k e).1
  where
    go : (k : ℕ) → 3 ≤ k → k ≤ 11 → P k
    go zero h g = absurd (omega arith)
    go (suc zero) h g = absurd (omega arith)
    go (suc (suc zero)) h g = absurd (omega arith)
    go (suc (suc (suc zero))) h g = p3
    go (suc (suc (suc (suc zero)))) h g = p4
    go (suc (suc (suc (suc (suc zero))))) h g = p5
    go (suc (suc (suc (suc (suc (suc zero)))))) h g = p6
    go (suc (suc (suc (suc (suc (suc (suc zero))))))) h g = p7
    go (suc (suc (suc (suc (suc (suc (suc (suc zero)))))))) h g = p8
    go (suc (suc (suc (suc (suc (suc (suc (suc (suc zero))))))))) h g = p9
    go (suc (suc (suc (suc (suc (suc (suc (suc (suc (suc zero)))))))))) h g = p10
    go (suc (suc (suc (suc (suc (suc (suc (suc (suc (suc (suc zero))))))))))) h g = p11
    go (suc (suc (suc (suc (suc (suc (suc (suc (suc (suc (suc (suc k)))))))))))) h g = absurd (omega arith)

-- the numbers of a call
pub two_least : (k n m : ℕ) → (k ≡ 11 → ⊥) → 2 ≤ call_width k n m
unfolding call_width
two_least k n m f =
    by_cond (λ (w : ℕ). 2 ≤ w) (eqb k 3 || eqb k 7) (3 + n) (cond (eqb k 4) (3 + 2 * n) (cond (eqb k 6) (6 + 2 * m) (cond (eqb k 11) 1 2))) (λ e. omega arith)
    (λ e. by_cond (λ (w : ℕ). 2 ≤ w) (eqb k 4) (3 + 2 * n) (cond (eqb k 6) (6 + 2 * m) (cond (eqb k 11) 1 2)) (λ e. omega arith)
    (λ e. by_cond (λ (w : ℕ). 2 ≤ w) (eqb k 6) (6 + 2 * m) (cond (eqb k 11) 1 2) (λ e. omega arith) (λ e. rw (ne_eqb k 11 f) (omega arith))))

pub width_least : (k n m : ℕ) → 1 ≤ call_width k n m
unfolding call_width
width_least k n m = by-test (eqb k 11) (λ e. rw (eqb-true k 11 e) (omega arith)) (λ e. omega (arith, two_least k n m (eqb-false k 11 e)))

-- and of its answer
pub width_kind : (bytes : List ℕ) (d c p : ℕ) (sampled : Bool) → is_call sampled (number bytes p) ≡ true → width_of d c (call_at bytes d p) ≡ width_of_kind d c (number bytes p) (number bytes (p + 1))
unfolding width_of_kind
width_kind bytes d c p sampled e =
    by_kind (λ (k : ℕ). width_of d c (at k) ≡ width_of_kind d c k (number bytes (p + 1)))
    refl refl refl refl refl refl refl refl refl sampled (number bytes p) e
  where
    at : ℕ → RunCall d
    at k =
        cond (eqb k 6) (arrives (number bytes (p + 1)) (of_bits binary32 (number bytes (p + 2))) (double bytes (p + 3)) (arrival_words_at bytes p))
        (cond (eqb k 7) (reports (number bytes (p + 1)) (coordinates_at bytes p))
        (cond (eqb k 11) sample
        (plain
        (cond (eqb k 3) (put (number bytes (p + 1)) (coordinates_at bytes p))
        (cond (eqb k 4) (add (number bytes (p + 1)) (words_at bytes p))
        (cond (eqb k 5) (delete (number bytes (p + 1)))
        (cond (eqb k 8) (query (copies_of (number bytes (p + 1))))
        (cond (eqb k 9) (query (branch_of (number bytes (p + 1))))
        (query (box_of (number bytes (p + 1))))))))))))
