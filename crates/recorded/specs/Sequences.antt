-- What is answered to a recorded sequence of an interval manager. Definitions.
use Rattle.std.specs.Prelude.{◌≡◌, cond, Option, Some, None, List, [], ◌∷◌, ◌++◌, ℕ, zero, suc, ◌+◌, ◌-◌, ◌*◌, ◌/◌, ◌≤◌, eqb, length, get_or}
use Rattle.limits.specs.Limits.{branch_limit}
use Rattle.little.specs.Little.{little16}
use Rattle.intervalstoremanager.specs.declared.IntervalStoreManager.{IntervalStoreManager}
use Rattle.intervalstoremanager.specs.declared.Got.{Got}
use Rattle.intervalstoremanager.specs.Stack.{fresh}
use Rattle.intervalstoremanager.specs.Rows.{layout, topped, got_of, rows_got, released_of, rows_released}
use Rattle.lines.specs.Lines.{Wrote}
use Rattle.recorded.specs.Words.{pair_bytes}
use Rattle.recorded.specs.declared.intervals.Called.{Called}
use Rattle.recorded.specs.declared.intervals.Reached.{Reached}

-- what is given for a `get`, and for a look at all rows; any other number is released
abbrev pub getting : ℕ
getting = 65535

abbrev pub looking : ℕ
looking = 65534

-- what is answered where nothing is left, or a number is not taken back
abbrev pub refused : ℕ
refused = 65535

-- the bytes of all rows
abbrev pub look_bytes : ℕ
look_bytes = 4 * branch_limit

-- the top row, zeros where there is none
unfoldable pub top_of : IntervalStoreManager → List (List ℕ) → List ℕ
top_of m rows = cond (topped m) (get_or rows (m.last_in_use - 1) []) (0 ∷ 0 ∷ [])

-- the first n rows
unfoldable pub rows_to : List (List ℕ) → ℕ → List ℕ
rows_to rows zero = []
rows_to rows (suc n) = rows_to rows n ++ pair_bytes (get_or rows n [])

-- what a call answers, and the manager after it
abbrev pub gotten : IntervalStoreManager → Option Got → Called
gotten m (Some g) = record { answer = g.index; manager = g.manager }
gotten m None = record { answer = refused; manager = m }

abbrev pub taken : IntervalStoreManager → ℕ → Option IntervalStoreManager → Called
taken m i (Some after) = record { answer = i; manager = after }
taken m i None = record { answer = refused; manager = m }

-- an answer, the rows in use after it, and the top one
abbrev pub told_top : Called → List (List ℕ) → List ℕ
told_top c rows = pair_bytes (c.answer ∷ c.manager.last_in_use ∷ []) ++ pair_bytes (top_of c.manager rows)

unfoldable pub called : IntervalStoreManager → List (List ℕ) → ℕ → Called
called m rows i = cond (eqb i getting) (gotten m (got_of m rows)) (taken m i (released_of m rows i))

unfoldable pub rows_called : IntervalStoreManager → List (List ℕ) → ℕ → List (List ℕ)
rows_called m rows i = cond (eqb i getting) (rows_got m rows) (rows_released m rows i)

-- one number more, a look or a call: what is written, and the manager and the rows after it
unfoldable pub told_next : IntervalStoreManager → List (List ℕ) → ℕ → List ℕ
told_next m rows i = cond (eqb i looking) (rows_to rows branch_limit) (told_top (called m rows i) (rows_called m rows i))

unfoldable pub manager_next : IntervalStoreManager → List (List ℕ) → ℕ → IntervalStoreManager
manager_next m rows i = cond (eqb i looking) m (called m rows i).manager

unfoldable pub rows_next : IntervalStoreManager → List (List ℕ) → ℕ → List (List ℕ)
rows_next m rows i = cond (eqb i looking) rows (rows_called m rows i)

-- what is given and left by telling of a call, and by a turn
pub record Told (c : Called) (rows : List (List ℕ)) (at : ℕ) (lent : List ℕ) (t : Reached) (out : List ℕ) : Type 0 where
  pub manager_is : t.manager ≡ c.manager
  pub wrote : Wrote lent at (told_top c rows) t.place out
  pub next : t.place ≡ at + 8

pub record Turned (m : IntervalStoreManager) (rows : List (List ℕ)) (i at : ℕ) (lent : List ℕ) (t : Reached) (rows' : List (List ℕ)) (out : List ℕ) : Type 0 where
  pub manager_is : t.manager ≡ manager_next m rows i
  pub rows_are : rows' ≡ rows_next m rows i
  pub wrote : Wrote lent at (told_next m rows i) t.place out
  pub few : t.place ≤ at + look_bytes

-- where a sequence stands
pub record Standing : Type 0 where
  pub manager : IntervalStoreManager
  pub rows : List (List ℕ)
  pub written : List ℕ

abbrev pub new : ℕ → IntervalStoreManager
new size = record { capacity = size; last_in_use = length (fresh size) }

-- a new manager answers its size
abbrev pub begun : ℕ → Standing
begun size = record { manager = new size; rows = layout (fresh size); written = told_top (record { answer = size; manager = new size }) (layout (fresh size)) }

abbrev pub stepped : Standing → ℕ → Standing
stepped s i = record { manager = manager_next s.manager s.rows i; rows = rows_next s.manager s.rows i; written = s.written ++ told_next s.manager s.rows i }

-- the size and the n numbers after it
unfoldable pub after : List ℕ → ℕ → Standing
after given zero = begun (little16 given 0)
after given (suc n) = stepped (after given n) (little16 given (2 * suc n))

unfoldable pub sequence_answer : List ℕ → List ℕ
sequence_answer given = cond (eqb (length given / 2) 0) [] (after given (length given / 2 - 1)).written
