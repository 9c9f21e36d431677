-- Document 01's copy counts: fed each call's arguments and answer, they read nothing of the table or the tree.
use Rattle.std.specs.Prelude.{◌≡◌, Bool, true, false, cond, List, [], ◌∷◌, ℕ, ◌+◌, ◌-◌, ◌<◌, ltb}
use Rattle.std.proofs.Math.Option.{Option, none, some}
use Rattle.cuttree.specs.Setting.{Setting}
use Rattle.cuttree.specs.Run.{Answer, refused, written, added, deleted, copies_are, branch_is, box_is, Call, put, add, delete, query, write}

module _ (S : Setting) where
  open S use {Point, same, point}

  -- "a point or none for each index, none at first, and a number for each value, 0 at first"
  pub record Counts : Type 0 where
    pub kept : ℕ → Option Point
    pub number : Point → ℕ

  abbrev pub nothing : Counts
  nothing = record { kept = λ i. none; number = λ v. 0 }

  -- one for the value p, nothing for any other
  abbrev pub one : Point → Point → ℕ
  one p v = cond (same p v) 1 0

  abbrev pub up : Option Point → (Point → ℕ) → Point → ℕ
  up none f v = f v
  up (some p) f v = f v + one p v

  abbrev pub down : Option Point → (Point → ℕ) → Point → ℕ
  down none f v = f v
  down (some p) f v = f v - one p v

  -- "put: the point is kept for its index. Add: its value's number goes up by 1. Delete: down by 1", the value being "the point kept
  -- for its index"
  abbrev pub after : Call S → Counts → Counts
  after (put i x) K = record { kept = write S K.kept i (point x); number = K.number }
  after (add i ws) K = record { kept = K.kept; number = up (K.kept i) K.number }
  after (delete i) K = record { kept = K.kept; number = down (K.kept i) K.number }
  after (query q) K = K

  abbrev pub succeeded : Answer S → Bool
  succeeded (refused n) = false
  succeeded written = true
  succeeded (added i n) = true
  succeeded (deleted i) = true
  succeeded (copies_are n) = true
  succeeded (branch_is r) = true
  succeeded (box_is b) = true

  -- "refused: no change"
  abbrev pub count : Call S → Answer S → Counts → Counts
  count d a K = cond (succeeded a) (after d K) K

  abbrev pub count_all : List (Call S) → List (Answer S) → Counts → Counts
  count_all [] as' K = K
  count_all (d ∷ ds) [] K = K
  count_all (d ∷ ds) (a ∷ as') K = count_all ds as' (count d a K)

  -- "a value is held while its number is above 0"
  abbrev pub Held : Counts → Point → Type 0
  Held K v = 0 < K.number v

  abbrev pub NothingHeld : Counts → Type 0
  NothingHeld K = (v : Point) → K.number v ≡ 0

  -- the list has each held value once, and no other: it is as long as the number of different values held
  abbrev pub times : List Point → Point → ℕ
  times [] v = 0
  times (q ∷ qs) v = one q v + times qs v

  abbrev pub Values : Counts → List Point → Type 0
  Values K vs = (v : Point) → times vs v ≡ cond (ltb 0 (K.number v)) 1 0
