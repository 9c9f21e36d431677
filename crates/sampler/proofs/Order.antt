-- Heap order: an entry that goes up or down mends the one place that is out of order, so both calls keep it, and the first entry is a largest.
-- Assumes nothing.
use mathlib.Core.Path.{◌≡◌, refl, ◌∙◌}
use mathlib.Core.Bool.{Bool, true, false}
use mathlib.Core.List.{List, [], ◌∷◌, ◌++◌}
use Prim.Native.Nat.{ℕ, zero, suc, ◌+◌, ◌-◌, ◌*◌, ◌≤◌, ◌<◌}
use native.Mathlib.Omega.{arith}
use lib.Dec.{eqb, ltb}
use lib.ListN.{length, get_or, set, length-append, length-set, length-take, get_or-append}
use lib.Seq.{lt-length-set, get_or-set_same, get_or-set_other, get_or-take, get_or-append_seam}
use borrow.Author.Tests.{eqb-true, eqb-false, lt-ltb, le-ltb, ltb-true}
use borrow.Table.Steps.{cases as by-test}
use Rattle.sampler.specs.Heap.{swapped, refilled, parent, rises, pushed, to_right, heavier, sinks, popped, Orders, Heap, PushHeap, PopHeap, FirstLargest}
use Rattle.sampler.proofs.Moves.{along, both, heavier_left, heavier_right, heavier_there, rises_says, sinks_says}

-- ---- what stands where once a and b have changed places
module _ {A : Type 0} (z : A) (xs : List A) (a b : ℕ) (h : a < length xs) (l : b < length xs) (apart : a ≡ b → ⊥) where
  at_first : (k : ℕ) → k ≡ a → get_or (swapped z xs a b) k z ≡ get_or xs b z
  at_first k e = rw e (get_or-set_other (set xs a (get_or xs b z)) b a (get_or xs a z) z apart ∙ get_or-set_same xs a (get_or xs b z) z h)

  at_second : (k : ℕ) → k ≡ b → get_or (swapped z xs a b) k z ≡ get_or xs a z
  at_second k e = rw e (get_or-set_same (set xs a (get_or xs b z)) b (get_or xs a z) z (lt-length-set xs a (get_or xs b z) l))

  at_other : (k : ℕ) → (k ≡ a → ⊥) → (k ≡ b → ⊥) → get_or (swapped z xs a b) k z ≡ get_or xs k z
  at_other k m n = get_or-set_other (set xs a (get_or xs b z)) b k (get_or xs a z) z n ∙ get_or-set_other xs a k (get_or xs b z) z m

-- ---- the last entry in the first's place: the others stand where they stood
module _ {A : Type 0} (z : A) where
  past_first : (x y : A) (xs : List A) (i : ℕ) → 0 < i → get_or (y ∷ xs) i z ≡ get_or (x ∷ xs) i z
  past_first x y xs zero h = absurd (omega arith)
  past_first x y xs (suc i) h = refl

  refilled_at : (xs : List A) (i : ℕ) → 0 < i → i < length (refilled z xs) → (get_or (refilled z xs) i z ≡ get_or xs i z) × (i < length xs)
  unfolding refilled
  refilled_at [] i h l = absurd (omega arith)
  refilled_at (x ∷ xs) i h l =
      let l' : i < length xs = omega (arith, simp length-take at l) in
      (get_or-take (length xs) (get_or (x ∷ xs) (length xs) z ∷ xs) i z l' ∙ past_first x _ xs i h, omega arith)

  refilled_first : (xs : List A) → 0 < length (refilled z xs) → (get_or (refilled z xs) 0 z ≡ get_or xs (length xs - 1) z) × (0 < length xs)
  unfolding refilled
  refilled_first [] l = absurd (omega arith)
  refilled_first (x ∷ []) l = absurd (omega arith)
  refilled_first (x ∷ y ∷ xs) l = let last : length (x ∷ y ∷ xs) - 1 ≡ suc (length xs) = omega arith in (rw last, omega arith)

module _ {A : Type 0} (above : A → A → Bool) (z : A) (Good : A → Type 0) (O : Orders above Good) where
  -- the entry at j is not above the one at k
  abbrev Under : List A → ℕ → ℕ → Type 0
  Under xs j k = above (get_or xs j z) (get_or xs k z) ≡ false

  abbrev Each : List A → Type 0
  Each xs = (i : ℕ) → i < length xs → Good (get_or xs i z)

  under_self : (xs : List A) (j : ℕ) → Each xs → j < length xs → Under xs j j
  under_self xs j g h = by-test (above (get_or xs j z) (get_or xs j z)) (λ t. O.one_way _ _ (g j h) (g j h) t) (λ t. t)

  under_through : (xs : List A) (j k m : ℕ) → Each xs → j < length xs → k < length xs → m < length xs → Under xs j k → Under xs k m → Under xs j m
  under_through xs j k m g a b c p q = O.through _ _ _ (g j a) (g k b) (g m c) p q

  -- entries that stand elsewhere now
  under_as : (xs ys : List A) (j k j' k' : ℕ) → get_or ys j z ≡ get_or xs j' z → get_or ys k z ≡ get_or xs k' z → Under xs j' k' → Under ys j k
  under_as xs ys j k j' k' d e u = rw (d, e) u

  -- The list is in order but at the places that `Out` names, next to i; and what is below i is not above i's parent.
  record Around (Out : ℕ → Type 0) (xs : List A) (i : ℕ) : Type 0 where
    each : Each xs
    others : (j : ℕ) → 0 < j → j < length xs → (Out j → ⊥) → Under xs j (parent j)
    below : (j : ℕ) → 0 < i → 0 < j → j < length xs → parent j ≡ i → Under xs j (parent i)

  each_swapped : (xs : List A) (a b : ℕ) → a < length xs → b < length xs → (a ≡ b → ⊥) → Each xs → Each (swapped z xs a b)
  each_swapped xs a b h l apart g i k =
      by-test (eqb i a)
      (λ t. rw (at_first z xs a b h l apart i (eqb-true i a t)) (g b l))
      (λ t. by-test (eqb i b)
      (λ u. rw (at_second z xs a b h l apart i (eqb-true i b u)) (g a h))
      (λ u. rw (at_other z xs a b h l apart i (eqb-false i a t) (eqb-false i b u)) (g i (simp length-set at k))))

  -- ---- up: the entry at i may be above its parent
  module _ (xs : List A) (i : ℕ) (h : i < length xs) (A₀ : Around (λ j. j ≡ i) xs i) where
    up_ends : rises above z xs i ≡ false → Heap above z Good xs
    up_ends t =
        record {
          each = A₀.each;
          ordered = λ j p l. by-test (eqb j i)
              (λ e. let e' = eqb-true j i e in rw e' (rw (lt-ltb 0 i (omega arith)) at t))
              (λ e. A₀.others j p l (eqb-false j i e));
        }

    up_goes : rises above z xs i ≡ true → Around (λ j. j ≡ parent i) (swapped z xs i (parent i)) (parent i)
    up_goes t =
        let p = parent i in
        let ys = swapped z xs i p in
        let from : 0 < i = (rises_says above z xs i t).0 in
        let l : p < length xs = omega arith in
        let apart : i ≡ p → ⊥ = λ e. omega arith in
        let first = at_first z xs i p h l apart in
        let second = at_second z xs i p h l apart in
        let other = at_other z xs i p h l apart in
        let lower : Under xs p i = O.one_way _ _ (A₀.each i h) (A₀.each p l) (rises_says above z xs i t).1 in
        record {
          each = each_swapped xs i p h l apart A₀.each;
          others = λ j s k out.
              let k' : j < length xs = simp length-set at k in
              by-test (eqb j i)
              (λ a. let a' = eqb-true j i a in under_as xs ys j (parent j) p i (first j a') (second (parent j) (rw a')) lower)
              (λ a. let a' = eqb-false j i a in
              by-test (eqb (parent j) i)
              (λ b. let b' = eqb-true (parent j) i b in under_as xs ys j (parent j) j p (other j a' out) (first (parent j) b') (A₀.below j from s k' b'))
              (λ b. by-test (eqb (parent j) p)
              (λ d. let d' = eqb-true (parent j) p d in
              under_as xs ys j (parent j) j i (other j a' out) (second (parent j) d') (under_through xs j p i A₀.each k' l h (rw d' at (A₀.others j s k' a')) lower))
              (λ d. under_as xs ys j (parent j) j (parent j) (other j a' out) (other (parent j) (eqb-false (parent j) i b) (eqb-false (parent j) p d)) (A₀.others j s k' a'))));
          below = λ j q s k e.
              let k' : j < length xs = simp length-set at k in
              let top = other (parent p) (λ x. omega arith) (λ x. omega arith) in
              let above-p : Under xs p (parent p) = A₀.others p q l (λ x. omega arith) in
              by-test (eqb j i)
              (λ a. under_as xs ys j (parent p) p (parent p) (first j (eqb-true j i a)) top above-p)
              (λ a. let a' = eqb-false j i a in
              under_as xs ys j (parent p) j (parent p) (other j a' (λ x. omega arith)) top
              (under_through xs j p (parent p) A₀.each k' l (omega arith) (rw e at (A₀.others j s k' a')) above-p));
        }

  -- ---- down: the entry at i may have children above it
  module _ (xs : List A) (i : ℕ) (g : Each xs) (h : 2 * i + 1 < length xs) where
    -- no child is above the heavier one
    heaviest : (j : ℕ) → 0 < j → j < length xs → parent j ≡ i → Under xs j (heavier above z xs i)
    heaviest j s k e =
        by-test (to_right above z xs i)
        (λ t. let w = both (ltb (2 * i + 2) (length xs)) (above (get_or xs (2 * i + 2) z) (get_or xs (2 * i + 1) z)) t in
        rw (heavier_right above z xs i t)
        (by-test (eqb j (2 * i + 2))
        (λ a. rw (eqb-true j (2 * i + 2) a) (under_self xs (2 * i + 2) g (ltb-true (2 * i + 2) (length xs) w.0)))
        (λ a. let left : j ≡ 2 * i + 1 = omega (arith, eqb-false j (2 * i + 2) a) in
        rw left (O.one_way _ _ (g (2 * i + 2) (ltb-true (2 * i + 2) (length xs) w.0)) (g (2 * i + 1) h) w.1))))
        (λ t. rw (heavier_left above z xs i t)
        (by-test (eqb j (2 * i + 1))
        (λ a. rw (eqb-true j (2 * i + 1) a) (under_self xs (2 * i + 1) g h))
        (λ a. let right : j ≡ 2 * i + 2 = omega (arith, eqb-false j (2 * i + 1) a) in
        rw right (rw (lt-ltb (2 * i + 2) (length xs) (omega arith)) at t))))

  module _ (xs : List A) (i : ℕ) (A₀ : Around (λ j. parent j ≡ i) xs i) where
    down_ends : sinks above z xs i ≡ false → Heap above z Good xs
    down_ends t =
        record {
          each = A₀.each;
          ordered = λ j p l. by-test (eqb (parent j) i)
              (λ e. let e' = eqb-true (parent j) i e in
              let h : 2 * i + 1 < length xs = omega arith in
              rw e'
              (under_through xs j (heavier above z xs i) i A₀.each l (heavier_there above z xs i h).2 (omega arith)
              (heaviest xs i A₀.each h j p l e') (rw (lt-ltb (2 * i + 1) (length xs) h) at t)))
              (λ e. A₀.others j p l (eqb-false (parent j) i e));
        }

    down_goes : sinks above z xs i ≡ true → Around (λ j. parent j ≡ heavier above z xs i) (swapped z xs i (heavier above z xs i)) (heavier above z xs i)
    down_goes t =
        let m = heavier above z xs i in
        let ys = swapped z xs i m in
        let h : 2 * i + 1 < length xs = (sinks_says above z xs i t).0 in
        let there = heavier_there above z xs i h in
        let l : i < length xs = omega arith in
        let apart : i ≡ m → ⊥ = λ e. omega arith in
        let first = at_first z xs i m l there.2 apart in
        let second = at_second z xs i m l there.2 apart in
        let other = at_other z xs i m l there.2 apart in
        let lower : Under xs i m = O.one_way _ _ (A₀.each m there.2) (A₀.each i l) (sinks_says above z xs i t).1 in
        record {
          each = each_swapped xs i m l there.2 apart A₀.each;
          others = λ j s k out.
              let k' : j < length xs = simp length-set at k in
              by-test (eqb j i)
              (λ a. let a' = eqb-true j i a in
              under_as xs ys j (parent j) m (parent i) (first j a') (rw a' (other (parent i) (λ x. omega arith) (λ x. omega arith))) (A₀.below m (omega arith) (omega arith) there.2 (omega arith)))
              (λ a. let a' = eqb-false j i a in
              by-test (eqb j m)
              (λ b. let b' = eqb-true j m b in under_as xs ys j (parent j) i m (second j b') (first (parent j) (omega arith)) lower)
              (λ b. let b' = eqb-false j m b in
              by-test (eqb (parent j) i)
              (λ d. let d' = eqb-true (parent j) i d in under_as xs ys j (parent j) j m (other j a' b') (first (parent j) d') (heaviest xs i A₀.each h j s k' d'))
              (λ d. let d' = eqb-false (parent j) i d in under_as xs ys j (parent j) j (parent j) (other j a' b') (other (parent j) d' out) (A₀.others j s k' d'))));
          below = λ j q s k e.
              let k' : j < length xs = simp length-set at k in
              under_as xs ys j (parent m) j m (other j (λ x. omega arith) (λ x. omega arith)) (first (parent m) (omega arith)) (rw e at (A₀.others j s k' (λ x. omega arith)));
        }

  pushed_heap : (xs : List A) (x : A) → Heap above z Good xs → Good x → Heap above z Good (pushed above z xs x)
  pushed_heap xs x H gx =
      let n = length xs in
      let ys = xs ++ (x ∷ []) in
      let longer : length ys ≡ n + 1 = simp length-append (omega arith) in
      let old : (i : ℕ) → i < n → get_or ys i z ≡ get_or xs i z = λ i h. get_or-append xs (x ∷ []) z i h in
      along z (rises above z) (λ _. parent) (λ m ks i. (i ≤ m) × (i < length ks) × Around (λ j. j ≡ i) ks i) (Heap above z Good)
      (λ ks i q. let none : i ≡ 0 = omega arith in up_ends ks i q.1 q.2 (rw none))
      (λ m ks i q t. up_ends ks i q.1 q.2 t)
      (λ m ks i q t. (omega (arith, (rises_says above z ks i t).0), simp length-set (omega arith), up_goes ks i q.1 q.2 t))
      n ys n (
        omega arith,
        omega arith,
        record {
          each = λ i h. by-test (eqb i n)
              (λ e. rw (eqb-true i n e, get_or-append_seam xs x [] z) gx)
              (λ e. let h' : i < n = omega (arith, eqb-false i n e) in rw (old i h') (H.each i h'));
          others = λ j s k out. let k' : j < n = omega (arith, out) in under_as xs ys j (parent j) j (parent j) (old j k') (old (parent j) (omega arith)) (H.ordered j s k');
          below = λ j q s k e. absurd (omega arith);
        },
      )

  popped_heap : (xs : List A) → Heap above z Good xs → Heap above z Good (popped above z xs)
  popped_heap xs H =
      let ys = refilled z xs in
      along z (sinks above z) (heavier above z) (λ m ks i. (length ks ≤ i + m) × Around (λ j. parent j ≡ i) ks i) (Heap above z Good)
      (λ ks i q. down_ends ks i q.1 (rw (le-ltb (2 * i + 1) (length ks) (omega arith))))
      (λ m ks i q t. down_ends ks i q.1 t)
      (λ m ks i q t. (simp length-set (omega (arith, heavier_there above z ks i (sinks_says above z ks i t).0)), down_goes ks i q.1 t))
      (length ys) ys 0 (
        omega arith,
        record {
          each = λ i h. by-test (eqb i 0)
              (λ e. let e' = eqb-true i 0 e in let w = refilled_first z xs (omega arith) in rw (e', w.0) (H.each (length xs - 1) (omega arith)))
              (λ e. let w = refilled_at z xs i (omega (arith, eqb-false i 0 e)) h in rw w.0 (H.each i w.1));
          others = λ j s k out.
              let w = refilled_at z xs j s k in
              under_as xs ys j (parent j) j (parent j) w.0 (refilled_at z xs (parent j) (omega (arith, out)) (omega arith)).0 (H.ordered j s w.1);
          below = λ j q s k e. absurd (omega arith);
        },
      )

  under_first : (xs : List A) → Heap above z Good xs → (i : ℕ) → i < length xs → Under xs i 0
  under_first xs H i h = go i i h (omega arith)
    where
      go : (n j : ℕ) → j < length xs → j ≤ n → Under xs j 0
      go zero j l s = let none : j ≡ 0 = omega arith in rw none (under_self xs 0 H.each (omega arith))
      go (suc n) j l s =
          by-test (eqb j 0)
          (λ e. rw (eqb-true j 0 e) (under_self xs 0 H.each (omega arith)))
          (λ e. let p : 0 < j = omega (arith, eqb-false j 0 e) in
          under_through xs j (parent j) 0 H.each l (omega arith) (omega arith) (H.ordered j p l) (go n (parent j) (omega arith) (omega arith)))

module _ {A : Type 0} (above : A → A → Bool) (z : A) where
  pub push_heap : PushHeap above z
  push_heap = pushed_heap above z

  pub pop_heap : PopHeap above z
  pop_heap = popped_heap above z

  pub first_largest : FirstLargest above z
  first_largest = under_first above z
