-- A put of a world's arrays is the call on the world: case by case, which refusal it gives, and the table that it leaves. Assumes nothing.
use mathlib.Core.Path.{◌≡◌, refl, sym, ap, ◌∙◌, subst}
use mathlib.Core.List.{List, []}
use mathlib.Core.Logic.{◌≢◌}
use mathlib.Core.Bool.{true, false}
use mathlib.Core.Option.{Option, none, some}
use Prim.Native.Nat.{ℕ, ◌≤◌, ◌<◌}
use lib.Dec.{eqb, leb, ltb}
use lib.ListN.{length, set, get_or}
use lib.Ieee.{Float}
use borrow.Author.Tests.{eq-eqb, ne_eqb, eqb-true, eqb-false, le-leb, lt-leb, leb-true, leb-false, lt-ltb, le-ltb, ltb-true, ltb-false}
use Rattle.limits.specs.Limits.{width, point_limit}
use Rattle.readings.proofs.Tests.{yes}
use Rattle.cuttree.specs.Tree.{Tree, All, OfTree}
use Rattle.std.specs.Prelude.{Result, Ok, Err}
use Rattle.cuttree.specs.Run.{World, put, call, Answer, refused, written, is_leaf, write, index_above, coordinate_count, bad_coordinate, index_is_leaf}
use Rattle.cuttree.proofs.Tests.{by-test}
use Rattle.cuttree.proofs.Room.{leaf_copies}
use Rattle.wholetree.specs.Reading.{Reading, padded, reading}
use Rattle.wholetree.specs.Whole.{whole, tab, all_coordinates}
use Rattle.wholetree.proofs.Readings.{reading_row}
use Rattle.layout.specs.Layout.{Table, table_of, count_in, point_row, mark}
use Rattle.layout.proofs.Tabs.{entry_of, set_tab}
use Rattle.cuttree.specs.Run as Run
use Rattle.refusals.specs.declared.Refusal.{Refusal}
use Rattle.pointstore.specs.Refusals.{refusal_of}
use Rattle.pointstore.specs.Puts.{put_checked, put_says, Puts, Tabled, PutDone, PutsAreCalls}
use Rattle.pointstore.proofs.Refusals.{wrong_count, bad_point, good_point, index_refused, point_refused, leaf_refused, none_refused}

-- ---- an index is a leaf's exactly where it has copies
module _ (d c i : ℕ) where
  pub leaf_is : (o : Option (Tree (whole d))) → OfTree (whole d) (All (whole d) (λ j q n. 0 < n)) o → is_leaf (whole d) o i ≡ ltb 0 (count_in d c 0 o i)
  leaf_is none h = refl
  leaf_is (some t) h = leaf_copies (whole d) t i h

-- ---- the cases
module _ (d c : ℕ) (W : World (whole d)) (i : ℕ) (xs : List Float) (points : List (List Float)) (marks copies : List ℕ) (points' : List (List Float)) (marks' : List ℕ) (r : Result Unit Refusal)
    (H : Tabled d c W points marks copies) (P : Puts d copies i xs points marks points' marks' r) where
  -- refused: the world is the same, and so are the arrays
  refuse_done : (x : Run.Refusal) → put_checked d copies i xs ≡ Err (refusal_of x) → call (whole d) c W (put i xs) ≡ (refused x, W) → PutDone d c W i xs points' marks' r
  refuse_done x e f =
      let a : points' ≡ points = P.rows ∙ rw e refl in
      let b : marks' ≡ marks = P.marked ∙ rw e refl in
      record {
        answer = P.answer ∙ e ∙ ap (λ (y : Answer (whole d) × World (whole d)). put_says d y.0) (sym f);
        table = rw (a, b) (H.table ∙ ap (λ (y : Answer (whole d) × World (whole d)). table_of y.1.table) (sym f));
      }

  copies_are : i < point_limit → get_or copies i 0 ≡ count_in d c 0 W.tree i
  copies_are I = entry_of point_limit (count_in d c 0 W.tree) copies H.leaves 0 i I

  module _ (I : i < point_limit) (L : length xs ≡ d) (G : all_coordinates xs ≡ true) where
    leaf_done : 0 < get_or copies i 0 → PutDone d c W i xs points' marks' r
    leaf_done h =
        let some : ltb 0 (count_in d c 0 W.tree i) ≡ true = lt-ltb 0 (count_in d c 0 W.tree i) (subst (λ (n : ℕ). 0 < n) (copies_are I) h) in
        refuse_done index_is_leaf (leaf_refused d copies i xs I (good_point d xs L G) h)
        (rw (lt-leb point_limit i I, eq-eqb (length xs) d L, G, leaf_is d c i W.tree H.sound.filled, some))

    accepted : get_or copies i 0 ≤ 0 → call (whole d) c W (put i xs) ≡ (written, record { table = write (whole d) W.table i (reading xs); tree = W.tree; free = W.free })
    accepted h =
        let none : ltb 0 (count_in d c 0 W.tree i) ≡ false = le-ltb 0 (count_in d c 0 W.tree i) (subst (λ (n : ℕ). n ≤ 0) (copies_are I) h) in
        rw (lt-leb point_limit i I, eq-eqb (length xs) d L, G, leaf_is d c i W.tree H.sound.filled, none)

    other : {A : Type 0} (f : Option Reading → A) (j : ℕ) → j ≢ i → f (write (whole d) W.table i (reading xs) j) ≡ f (W.table j)
    other f j n = rw (ne_eqb j i n) refl

    own : {A : Type 0} (f : Option Reading → A) → f (write (whole d) W.table i (reading xs) i) ≡ f (some (reading xs))
    own f = rw (eq-eqb i i refl) refl

    written_done : get_or copies i 0 ≤ 0 → PutDone d c W i xs points' marks' r
    written_done h = record {
      answer = P.answer ∙ fine ∙ ap (λ (y : Answer (whole d) × World (whole d)). put_says d y.0) (sym (accepted h));
      table = rw (P.rows ∙ rw fine refl ∙ rows, P.marked ∙ rw fine refl ∙ marked) (ap (λ (y : Answer (whole d) × World (whole d)). table_of y.1.table) (sym (accepted h)));
    }
      where
        fine : put_checked d copies i xs ≡ Ok tt
        fine = none_refused d copies i xs I (good_point d xs L G) h

        f : ℕ → Option Reading
        f = write (whole d) W.table i (reading xs)

        rows : set points i (padded width xs) ≡ tab point_limit (λ (j : ℕ). point_row (f j))
        rows = ap (set points i) (sym (reading_row xs (yes G)) ∙ sym (own point_row)) ∙ set_tab [] point_limit (λ (j : ℕ). point_row (W.table j)) (λ (j : ℕ). point_row (f j)) points i (ap (λ (t : Table). t.points) H.table) I (λ j n. other point_row j n)

        marked : set marks i 1 ≡ tab point_limit (λ (j : ℕ). mark (f j))
        marked = ap (set marks i) (sym (own mark)) ∙ set_tab 0 point_limit (λ (j : ℕ). mark (W.table j)) (λ (j : ℕ). mark (f j)) marks i (ap (λ (t : Table). t.written) H.table) I (λ j n. other mark j n)

  put_done : PutDone d c W i xs points' marks' r
  put_done =
      by-test (leb point_limit i)
      (λ t. let m = leb-true point_limit i t in refuse_done index_above (index_refused d copies i xs m) (rw (le-leb point_limit i m)))
      (λ t. let I = leb-false point_limit i t in
      by-test (eqb (length xs) d)
      (λ l. let L = eqb-true (length xs) d l in
      by-test (all_coordinates xs)
      (λ G. by-test (ltb 0 (get_or copies i 0)) (λ h. leaf_done I L G (ltb-true 0 (get_or copies i 0) h)) (λ h. written_done I L G (ltb-false 0 (get_or copies i 0) h)))
      (λ G. refuse_done bad_coordinate (point_refused d copies i xs I _ (bad_point d xs L G)) (rw (lt-leb point_limit i I, eq-eqb (length xs) d L, G))))
      (λ l. let n = eqb-false (length xs) d l in refuse_done coordinate_count (point_refused d copies i xs I _ (wrong_count d xs n)) (rw (lt-leb point_limit i I, ne_eqb (length xs) d n))))

pub puts_are_calls : PutsAreCalls
puts_are_calls = put_done
