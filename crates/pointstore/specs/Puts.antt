-- What a put gives and leaves: of whatever arrays are lent, and in document 01's words where they are a world's. Definitions.
use Rattle.std.specs.Prelude.{◌≡◌, cond, List, ℕ, eqb, leb, ltb, length, get_or, set, Float, Result, Ok, Err, is_ok}
use Rattle.std.specs.Result.{result_and}
use Rattle.limits.specs.Limits.{width, point_limit}
use Rattle.boundingbox.specs.Ends.{channel}
use Rattle.readings.specs.Number.{nought}
use Rattle.cuttree.specs.Sound.{Sound}
use Rattle.cuttree.specs.Run.{World, put, call, Answer, refused, written, added, deleted, copies_are, branch_is, box_is}
use Rattle.wholetree.specs.Reading.{padded}
use Rattle.wholetree.specs.Whole.{whole, tab, all_coordinates}
use Rattle.layout.specs.Layout.{table_of, count_in}
use Rattle.refusals.specs.declared.Refusal.{Refusal}
use Rattle.refusals.specs.declared.Refusal.TheVariants.{IndexAbove, CoordinateCount, BadCoordinate, IndexIsLeaf}
use Rattle.pointstore.specs.Refusals.{refusal_of}

-- entry i of a list, +0.0 beyond its end
abbrev pub or_nought : List Float → ℕ → Float
or_nought xs i = cond (ltb i (length xs)) (channel xs i) nought

-- '6 coordinate count; 7 bad coordinate', in this order: what is wrong with a point that a call is given, if anything is
unfoldable pub point_checked : ℕ → List Float → Result Unit Refusal
point_checked d xs = cond (eqb (length xs) d) (cond (all_coordinates xs) (Ok tt) (Err BadCoordinate)) (Err CoordinateCount)

-- 'put: 5 index above 1,023; 6 coordinate count; 7 bad coordinate; 8 index is a leaf', in this order, if any
unfoldable pub put_checked : ℕ → List ℕ → ℕ → List Float → Result Unit Refusal
put_checked d copies i xs = cond (leb point_limit i) (Err IndexAbove) (result_and (point_checked d xs) (cond (ltb 0 (get_or copies i 0)) (Err IndexIsLeaf) (Ok tt)))

-- What a put of d channels gives and leaves, of any arrays: refused, it writes nothing; else the row and the mark of its index.
pub record Puts (d : ℕ) (copies : List ℕ) (i : ℕ) (xs : List Float) (points : List (List Float)) (marks : List ℕ) (points' : List (List Float)) (marks' : List ℕ) (r : Result Unit Refusal) : Type 0 where
  pub answer : r ≡ put_checked d copies i xs
  pub rows : points' ≡ cond (is_ok (put_checked d copies i xs)) (set points i (padded width xs)) points
  pub marked : marks' ≡ cond (is_ok (put_checked d copies i xs)) (set marks i 1) marks

-- That it is done, or why it is refused. A put has no other answer.
abbrev pub put_says : (d : ℕ) → Answer (whole d) → Result Unit Refusal
put_says d (refused r) = Err (refusal_of r)
put_says d written = Ok tt
put_says d (added j n) = Ok tt
put_says d (deleted j) = Ok tt
put_says d (copies_are n) = Ok tt
put_says d (branch_is r) = Ok tt
put_says d (box_is b) = Ok tt

-- The lent arrays are those of a world that a tree's making and its calls leave: the table, and the copies of each leaf.
pub record Tabled (d c : ℕ) (W : World (whole d)) (points : List (List Float)) (marks copies : List ℕ) : Type 0 where
  pub table : record { points = points; written = marks } ≡ table_of W.table
  pub leaves : copies ≡ tab point_limit (count_in d c 0 W.tree)
  pub sound : Sound (whole d) c W

-- The same in the words of the call on the world: the answer, and the table after it.
pub record PutDone (d c : ℕ) (W : World (whole d)) (i : ℕ) (xs : List Float) (points : List (List Float)) (marks : List ℕ) (r : Result Unit Refusal) : Type 0 where
  pub answer : r ≡ put_says d (call (whole d) c W (put i xs)).0
  pub table : record { points = points; written = marks } ≡ table_of (call (whole d) c W (put i xs)).1.table

-- That it is the same: a put of a world's arrays is the call on the world.
abbrev pub PutsAreCalls : Type 0
PutsAreCalls = (d c : ℕ) (W : World (whole d)) (i : ℕ) (xs : List Float) (points : List (List Float)) (marks copies : List ℕ) (points' : List (List Float)) (marks' : List ℕ) (r : Result Unit Refusal) → Tabled d c W points marks copies
    → Puts d copies i xs points marks points' marks' r → PutDone d c W i xs points' marks' r
