-- Whether a box holds another box, or a point strictly inside. Definitions.
-- Proved of it (proofs/Held.antt): a box holds what growing by it leaves unchanged (`contains_unchanged`, `unchanged_contains`), and on coordinates that is the Rust's
-- test of the range sums (`same_range`).
use Rattle.std.specs.Prelude.{ℕ, zero, suc, Bool, true, not, ◌&&◌, cond, List, Float}
use Rattle.std.specs.Float.Ieee.{lt}
use Rattle.boundingbox.specs.Ends.{channel}
use Rattle.boundingbox.specs.Wholes.{sum_to}

-- whether p is true in each of the first n channels
unfoldable pub every : (ℕ → Bool) → ℕ → Bool
every p zero = true
every p (suc n) = every p n && p n

-- in how many of the first n channels p is true
abbrev pub count_of : (ℕ → Bool) → ℕ → ℕ
count_of p n = sum_to (λ i. cond (p i) 1 0) n

-- whether growing a side from lo to hi by one from newlo to newhi moves neither end
unfoldable pub stays : Float → Float → Float → Float → Bool
stays lo hi newlo newhi = not (lt newlo lo) && not (lt hi newhi)

-- Request A.8: 'growth ends only when no end of the box moves'. The Rust compares the rounded range sums before and after, which is the same on coordinates: the law `same_range`.
-- The box from lo to hi is grown by the box from newlo to newhi, over n channels; for a point newlo and newhi are the point.
abbrev pub contains : List Float → List Float → List Float → List Float → ℕ → Bool
contains lo hi newlo newhi n = every (λ i. stays (channel lo i) (channel hi i) (channel newlo i) (channel newhi i)) n

-- nodestore.rs, `check_strictly_contains`: in no channel `x >= y || y >= z`, with the coordinate y between the ends x and z: on a face is not inside
unfoldable pub inside : Float → Float → Float → Bool
inside lo hi p = lt lo p && lt p hi

abbrev pub strictly_contains : List Float → List Float → List Float → ℕ → Bool
strictly_contains lo hi p n = every (λ i. inside (channel lo i) (channel hi i) (channel p i)) n

-- in how many of the first n channels the point lies strictly inside
abbrev pub inside_to : List Float → List Float → List Float → ℕ → ℕ
inside_to lo hi p n = count_of (λ i. inside (channel lo i) (channel hi i) (channel p i)) n
