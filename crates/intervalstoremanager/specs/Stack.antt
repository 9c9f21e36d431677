-- The free branch numbers as a stack of intervals, each a start and an end, the top interval first in the list: document 01, "Branch
-- numbers are 0 to c−2, as `IntervalStoreManager` hands them out". Definitions, with the Rust's order computed beside them.
use Rattle.std.specs.Prelude.{◌≡◌, refl, cond, ◌&&◌, List, [], ◌∷◌, ℕ, ◌+◌, ◌-◌, ◌≤◌, ◌<◌, eqb, leb, ltb, length}

-- A new manager of `size` numbers: one interval, 0 to size − 1; of no number, the empty stack.
unfoldable pub fresh : ℕ → List (ℕ × ℕ)
fresh size = cond (eqb size 0) [] ((0, size - 1) ∷ [])

-- The number that is handed out: the start of the top interval. Nothing is handed out of the empty stack, whose 0 nobody reads.
unfoldable pub next : List (ℕ × ℕ) → ℕ
next [] = 0
next (x ∷ xs) = x.0

-- The stack once that number is handed out: the top interval begins one later, or is gone with its last number. (The Rust tests that
-- start and end are the same; in an interval that ends before it begins, which no call makes, the start counts as the last number.)
unfoldable pub after_get : List (ℕ × ℕ) → List (ℕ × ℕ)
after_get [] = []
after_get (x ∷ xs) = cond (ltb x.0 x.1) ((x.0 + 1, x.1) ∷ xs) xs

-- The stack once `i` is freed: it joins the top interval at its start or at its end, and no other; else it is a new top by itself.
unfoldable pub after_release : List (ℕ × ℕ) → ℕ → List (ℕ × ℕ)
after_release [] i = (i, i) ∷ []
after_release (x ∷ xs) i =
    cond (eqb x.0 (i + 1)) ((i, x.1) ∷ xs)
    (cond (eqb (x.1 + 1) i) ((x.0, i) ∷ xs)
    ((i, i) ∷ x ∷ xs))

-- Freed 0, 3, then 1: 1 is beside 0, which is not on top, so they never join.
below_top : after_release (after_release (after_release [] 0) 3) 1 ≡ (1, 1) ∷ (3, 3) ∷ (0, 0) ∷ []
unfolding after_release
below_top = refl

-- Freed 2, then 1 and 3, at either end of it.
joined : after_release (after_release (after_release [] 2) 1) 3 ≡ (1, 3) ∷ []
unfolding after_release
joined = refl

-- 1 where the two numbers are the same, else 0.
unfoldable pub is : ℕ → ℕ → ℕ
is i j = cond (eqb i j) 1 0

-- 1 where `j` lies in the interval, else 0.
unfoldable pub within : ℕ × ℕ → ℕ → ℕ
within x j = cond (leb x.0 j && leb j x.1) 1 0

-- How many intervals of the stack `j` lies in: how often it is free.
unfoldable pub holds : List (ℕ × ℕ) → ℕ → ℕ
holds [] j = 0
holds (x ∷ xs) j = within x j + holds xs j

-- How many numbers are free.
unfoldable pub sizes : List (ℕ × ℕ) → ℕ
sizes [] = 0
sizes (x ∷ xs) = x.1 + 1 - x.0 + sizes xs

-- Every interval has a number, and none reaches `size`.
unfoldable pub Proper : ℕ → List (ℕ × ℕ) → Type 0
Proper size [] = Unit {0}
Proper size (x ∷ xs) = (x.0 ≤ x.1) × (x.1 < size) × Proper size xs

-- No number is free twice.
abbrev pub Once : List (ℕ × ℕ) → Type 0
Once xs = (j : ℕ) → holds xs j ≤ 1

-- What is proved of them, in proofs/Counts.antt and proofs/Sizes.antt. A new manager's stack is `Proper` and `Once`, and each call leaves
-- it so, where a freed number was not free (`proper_fresh`, `once_fresh`, `once_get` and the like). Each call changes `sizes` by one
-- (`sizes_get`, `sizes_release`). `get` moves one number, the one that it hands out:
abbrev pub GetMovesOne : Type 0
GetMovesOne =
    (size : ℕ) (xs : List (ℕ × ℕ)) (j : ℕ) → Proper size xs → 0 < length xs → holds xs j ≡ is (next xs) j + holds (after_get xs) j

-- `release` moves one number, the one that is freed:
abbrev pub ReleaseMovesOne : Type 0
ReleaseMovesOne = (size : ℕ) (xs : List (ℕ × ℕ)) (i j : ℕ) → Proper size xs → holds (after_release xs i) j ≡ is i j + holds xs j

-- A new manager holds each number below `size` once, and no other:
abbrev pub FreshHoldsAll : Type 0
FreshHoldsAll = (size j : ℕ) → holds (fresh size) j ≡ cond (ltb j size) 1 0

-- What is handed out is below `size`:
abbrev pub NextBelow : Type 0
NextBelow = (size : ℕ) (xs : List (ℕ × ℕ)) → Proper size xs → 0 < length xs → next xs < size

-- Numbers that are free once at most are no more than `size`, and neither are their intervals:
abbrev pub FewIntervals : Type 0
FewIntervals = (size : ℕ) (xs : List (ℕ × ℕ)) → Proper size xs → Once xs → (sizes xs ≤ size) × (length xs ≤ sizes xs)
