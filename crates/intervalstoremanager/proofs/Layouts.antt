-- The calls on the rows of a stack: `get` and `release` answer of the stack, and leave the rows of the stack after them.
-- Assumes nothing.
use mathlib.Core.Path.{◌≡◌, refl}
use mathlib.Core.Bool.{true, false}
use mathlib.Core.List.{List, [], ◌∷◌}
use Prim.Native.Nat.{ℕ, suc, ◌+◌, ◌-◌, ◌<◌}
use native.Mathlib.Omega.{arith}
use native.Mathlib.Numerals.{add-one}
use lib.Dec.{eqb, leb, ltb}
use lib.ListN.{length, get_or, set, replicate}
use borrow.Author.Tests.{le-leb, lt-leb, ltb-true, ltb-false}
use Rattle.limits.specs.Limits.{branch_limit}
use Rattle.intervalstoremanager.specs.Stack.{next, after_get, after_release}
use Rattle.intervalstoremanager.specs.Rows.{upon, layout, got_of, rows_got, released_of, rows_released, got_on, released_on, GetOnStack, ReleaseOnStack}
use Rattle.intervalstoremanager.proofs.Tests.{by-test, is_topped}

-- A row above a stack, read and written.
get_d_upon : (xs : List (ℕ × ℕ)) (above : List (List ℕ)) (n k : ℕ) → n ≡ length xs + k → get_or (upon xs above) n [] ≡ get_or above k []
unfolding upon
get_d_upon [] above n k e = let same : n ≡ k = omega arith in rw same
get_d_upon (x ∷ xs) above n k e = get_d_upon xs ((x.0 ∷ x.1 ∷ []) ∷ above) n (suc k) (omega arith)

set_upon : (xs : List (ℕ × ℕ)) (above : List (List ℕ)) (n k : ℕ) (v : List ℕ) → n ≡ length xs + k →
    set (upon xs above) n v ≡ upon xs (set above k v)
unfolding upon
set_upon [] above n k v e = let same : n ≡ k = omega arith in rw same
set_upon (x ∷ xs) above n k v e = set_upon xs ((x.0 ∷ x.1 ∷ []) ∷ above) n (suc k) v (omega arith)

-- The first row above a stack with room is zero.
room_above : (xs : List (ℕ × ℕ)) → length xs < branch_limit →
    layout xs ≡ upon xs ((0 ∷ 0 ∷ []) ∷ replicate (branch_limit - suc (length xs)) (0 ∷ 0 ∷ []))
unfolding layout
room_above xs h = let e : branch_limit - length xs ≡ suc (branch_limit - suc (length xs)) = omega arith in rw e

-- The top interval of a laid out stack: read, changed, taken off, put on.
module _ (x : ℕ × ℕ) (xs : List (ℕ × ℕ)) (k : ℕ) (at : k ≡ length xs) where
  top_row : get_or (layout (x ∷ xs)) k [] ≡ x.0 ∷ x.1 ∷ []
  unfolding layout upon
  top_row = get_d_upon xs _ k 0 (omega arith)

  top_changed : (y : ℕ × ℕ) → set (layout (x ∷ xs)) k (y.0 ∷ y.1 ∷ []) ≡ layout (y ∷ xs)
  unfolding layout upon
  top_changed y = set_upon xs _ k 0 _ (omega arith)

  top_gone : length xs < branch_limit → set (layout (x ∷ xs)) k (0 ∷ 0 ∷ []) ≡ layout xs
  unfolding layout upon
  top_gone h = rw (room_above xs h) (set_upon xs _ k 0 _ (omega arith))

  top_new : length xs < branch_limit → set (layout xs) k (x.0 ∷ x.1 ∷ []) ≡ layout (x ∷ xs)
  unfolding layout upon
  top_new h = rw (room_above xs h) (set_upon xs _ k 0 _ (omega arith))

pub get_on_stack : GetOnStack
unfolding got_of rows_got got_on after_get next
get_on_stack m [] w = rw w.used (refl, refl)
get_on_stack m (x ∷ xs) w =
    let k : m.last_in_use - 1 ≡ length xs = omega (arith, w.used) in
    let top = is_topped m (omega (arith, w.used)) (omega (arith, w.used, w.room)) in
    let row = top_row x xs (m.last_in_use - 1) k in
    by-test (ltb x.0 x.1)
    (λ t. rw (top, row, t) (rw (← w.used) refl, top_changed x xs _ k (x.0 + 1, x.1)))
    (λ t. rw (top, row, t) (rw k refl, top_gone x xs _ k (omega (arith, w.room))))

pub release_on_stack : ReleaseOnStack
unfolding released_of rows_released released_on after_release
release_on_stack m [] i w = rw w.used (refl, top_new (i, i) [] 0 refl (omega arith))
release_on_stack m (x ∷ xs) i w =
    let k : m.last_in_use - 1 ≡ length xs = omega (arith, w.used) in
    let top = is_topped m (omega (arith, w.used)) (omega (arith, w.used, w.room)) in
    let fits : leb (suc (length xs)) branch_limit ≡ true = le-leb _ _ w.room in
    let row = top_row x xs (m.last_in_use - 1) k in
    by-test (eqb x.0 (i + 1))
    (λ s. rw (top, row, s, fits) (rw (← w.used) refl, top_changed x xs _ k (i, x.1)))
    (λ s. by-test (eqb (x.1 + 1) i)
    (λ e. rw (top, row, s, e, fits) (rw (← w.used) refl, top_changed x xs _ k (x.0, i)))
    (λ e. by-test (ltb m.last_in_use branch_limit)
    (λ r. let more : leb (suc (suc (length xs))) branch_limit ≡ true = le-leb (suc (suc (length xs))) branch_limit (omega (arith, ltb-true, w.used)) in
    rw (top, row, s, e, r, more) (rw (add-one m.last_in_use, w.used) refl, top_new (i, i) (x ∷ xs) _ w.used (omega (arith, ltb-true, w.used))))
    (λ r. let over : leb (suc (suc (length xs))) branch_limit ≡ false = lt-leb (suc (suc (length xs))) branch_limit (omega (arith, ltb-false, w.used)) in
    rw (top, row, s, e, r, over) (refl, refl))))
