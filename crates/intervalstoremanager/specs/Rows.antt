-- The stack as rows of two numbers, bottom first, and what each call gives and leaves of any rows at all. Definitions.
use Rattle.std.specs.Prelude.{◌≡◌, refl, Bool, cond, ◌&&◌, ◌||◌, Option, Some, None, List, [], ◌∷◌, ℕ, ◌+◌, ◌-◌, ◌≤◌, ◌<◌, eqb, leb, ltb, length, get_or, set, replicate}
use Rattle.limits.specs.Limits.{branch_limit}
use Rattle.intervalstoremanager.specs.declared.IntervalStoreManager.{IntervalStoreManager}
use Rattle.intervalstoremanager.specs.declared.Got.{Got}
use Rattle.intervalstoremanager.specs.Stack.{next, after_get, after_release, holds, Proper, Once}

-- The rows of a stack, bottom first, with the rows `above` after them.
unfoldable pub upon : List (ℕ × ℕ) → List (List ℕ) → List (List ℕ)
upon [] above = above
upon (x ∷ xs) above = upon xs ((x.0 ∷ x.1 ∷ []) ∷ above)

-- The rows of a stack: those above its top are zero.
unfoldable pub layout : List (ℕ × ℕ) → List (List ℕ)
layout xs = upon xs (replicate (branch_limit - length xs) (0 ∷ 0 ∷ []))

two_rows : layout ((2, 2) ∷ (0, 0) ∷ []) ≡ (0 ∷ 0 ∷ []) ∷ (2 ∷ 2 ∷ []) ∷ replicate 253 (0 ∷ 0 ∷ [])
unfolding layout upon
two_rows = refl

-- The same manager with `n` rows in use.
abbrev pub in_use : IntervalStoreManager → ℕ → IntervalStoreManager
in_use m n = record { capacity = m.capacity; last_in_use = n }

-- There is a top row, and it is one of the 255.
abbrev pub topped : IntervalStoreManager → Bool
topped m = ltb 0 m.last_in_use && leb m.last_in_use branch_limit

-- The two ends of the interval in the top row.
abbrev pub start : IntervalStoreManager → List (List ℕ) → ℕ
start m rows = get_or (get_or rows (m.last_in_use - 1) []) 0 0

abbrev pub end : IntervalStoreManager → List (List ℕ) → ℕ
end m rows = get_or (get_or rows (m.last_in_use - 1) []) 1 0

-- What `get` answers: the top row's start, with one row less in use where that was its last number; without a top row, nothing.
unfoldable pub got_of : IntervalStoreManager → List (List ℕ) → Option Got
got_of m rows =
    cond (topped m)
    (Some (record { index = start m rows; manager = cond (ltb (start m rows) (end m rows)) m (in_use m (m.last_in_use - 1)) }))
    None

-- The rows after `get`: the top row begins one later, or is cleared; without a top row, unchanged.
unfoldable pub rows_got : IntervalStoreManager → List (List ℕ) → List (List ℕ)
rows_got m rows =
    cond (topped m)
    (set rows (m.last_in_use - 1) (cond (ltb (start m rows) (end m rows)) ((start m rows + 1) ∷ end m rows ∷ []) (0 ∷ 0 ∷ [])))
    rows

-- The number `i` touches the top row's interval.
abbrev pub joins : IntervalStoreManager → List (List ℕ) → ℕ → Bool
joins m rows i = topped m && (eqb (start m rows) (i + 1) || eqb (end m rows + 1) i)

-- What a push of a row answers, and the rows after it: one row more in use, else, where none is left, nothing, and nothing is written.
abbrev pub pushed_of : IntervalStoreManager → Option IntervalStoreManager
pushed_of m = cond (ltb m.last_in_use branch_limit) (Some (in_use m (m.last_in_use + 1))) None

abbrev pub rows_pushed : IntervalStoreManager → List (List ℕ) → ℕ → List (List ℕ)
rows_pushed m rows i = cond (ltb m.last_in_use branch_limit) (set rows m.last_in_use (i ∷ i ∷ [])) rows

-- What `release` answers: the same rows are in use where `i` joins the top row, else `i` is pushed.
unfoldable pub released_of : IntervalStoreManager → List (List ℕ) → ℕ → Option IntervalStoreManager
released_of m rows i = cond (joins m rows i) (Some m) (pushed_of m)

-- The rows after `release`: `i` at the end of the top row that it touches, else pushed.
unfoldable pub rows_released : IntervalStoreManager → List (List ℕ) → ℕ → List (List ℕ)
rows_released m rows i =
    cond (joins m rows i)
    (set rows (m.last_in_use - 1) (cond (eqb (start m rows) (i + 1)) (i ∷ end m rows ∷ []) (start m rows ∷ i ∷ [])))
    (rows_pushed m rows i)

-- The manager of a stack, laid out in rows: it has as many rows in use as the stack has intervals, at most 255.
pub record Manages (m : IntervalStoreManager) (xs : List (ℕ × ℕ)) : Type 0 where
  pub used : m.last_in_use ≡ length xs
  pub room : length xs ≤ branch_limit

-- What `get` answers of a stack.
unfoldable pub got_on : IntervalStoreManager → List (ℕ × ℕ) → Option Got
got_on m [] = None
got_on m (x ∷ xs) = Some (record { index = next (x ∷ xs); manager = in_use m (length (after_get (x ∷ xs))) })

-- What `release` answers of a stack: nothing where the stack with `i` has more intervals than there are rows.
unfoldable pub released_on : IntervalStoreManager → List (ℕ × ℕ) → ℕ → Option IntervalStoreManager
released_on m xs i =
    cond (leb (length (after_release xs i)) branch_limit) (Some (in_use m (length (after_release xs i)))) None

-- The two calls on the rows of a stack: they answer of the stack, and leave the rows of the stack after them, a refused one its own.
abbrev pub GetOnStack : Type 0
GetOnStack =
    (m : IntervalStoreManager) (xs : List (ℕ × ℕ)) → Manages m xs →
    (got_of m (layout xs) ≡ got_on m xs) × (rows_got m (layout xs) ≡ layout (after_get xs))

abbrev pub ReleaseOnStack : Type 0
ReleaseOnStack =
    (m : IntervalStoreManager) (xs : List (ℕ × ℕ)) (i : ℕ) → Manages m xs →
    (released_of m (layout xs) i ≡ released_on m xs i) ×
    (rows_released m (layout xs) i ≡ cond (leb (length (after_release xs i)) branch_limit) (layout (after_release xs i)) (layout xs))

-- Of no more numbers than there are rows, each free once at most, one that is not free is always taken back.
abbrev pub NeverFull : Type 0
NeverFull =
    (size : ℕ) (m : IntervalStoreManager) (xs : List (ℕ × ℕ)) (i : ℕ) → Manages m xs →
    size ≤ branch_limit → Proper size xs → Once xs → i < size → holds xs i ≡ 0 →
    (released_of m (layout xs) i ≡ Some (in_use m (length (after_release xs i)))) × (rows_released m (layout xs) i ≡ layout (after_release xs i))
