-- The refusals of a given point and of a put, case by case. Assumes nothing.
use mathlib.Core.Path.{◌≡◌, refl, sym, ap, ◌∙◌}
use mathlib.Core.List.{List}
use mathlib.Core.Logic.{◌≢◌}
use mathlib.Core.Bool.{true, false, true≢false}
use Prim.Native.Nat.{ℕ, ◌≤◌, ◌<◌}
use lib.Dec.{leb}
use lib.ListN.{length, set, get_or}
use lib.Ieee.{Float}
use borrow.Author.Tests.{eq-eqb, ne_eqb, le-leb, lt-leb, leb-true, leb-false, lt-ltb, le-ltb}
use Rattle.std.specs.Prelude.{Ok, Err, is_ok}
use Rattle.limits.specs.Limits.{width, point_limit}
use Rattle.cuttree.proofs.Tests.{by-test}
use Rattle.wholetree.specs.Reading.{padded}
use Rattle.wholetree.specs.Whole.{all_coordinates}
use Rattle.refusals.specs.declared.Refusal.{Refusal}
use Rattle.refusals.specs.declared.Refusal.TheVariants.{IndexAbove, CoordinateCount, BadCoordinate, IndexIsLeaf}
use Rattle.pointstore.specs.Puts.{point_checked, put_checked, Puts}

module _ (d : ℕ) (xs : List Float) where
  pub wrong_count : length xs ≢ d → point_checked d xs ≡ Err CoordinateCount
  unfolding point_checked
  wrong_count h = rw (ne_eqb (length xs) d h)

  pub bad_point : length xs ≡ d → all_coordinates xs ≡ false → point_checked d xs ≡ Err BadCoordinate
  unfolding point_checked
  bad_point l h = rw (eq-eqb (length xs) d l, h)

  pub good_point : length xs ≡ d → all_coordinates xs ≡ true → point_checked d xs ≡ Ok tt
  unfolding point_checked
  good_point l h = rw (eq-eqb (length xs) d l, h)

module _ (d : ℕ) (copies : List ℕ) (i : ℕ) (xs : List Float) where
  pub index_refused : point_limit ≤ i → put_checked d copies i xs ≡ Err IndexAbove
  unfolding put_checked
  index_refused h = rw (le-leb point_limit i h)

  module _ (I : i < point_limit) where
    pub point_refused : (e : Refusal) → point_checked d xs ≡ Err e → put_checked d copies i xs ≡ Err e
    unfolding put_checked
    point_refused e h = rw (lt-leb point_limit i I, h)

    pub leaf_refused : point_checked d xs ≡ Ok tt → 0 < get_or copies i 0 → put_checked d copies i xs ≡ Err IndexIsLeaf
    unfolding put_checked
    leaf_refused e h = rw (lt-leb point_limit i I, e, lt-ltb 0 (get_or copies i 0) h)

    pub none_refused : point_checked d xs ≡ Ok tt → get_or copies i 0 ≤ 0 → put_checked d copies i xs ≡ Ok tt
    unfolding put_checked
    none_refused e h = rw (lt-leb point_limit i I, e, le-ltb 0 (get_or copies i 0) h)

  pub taken_below : put_checked d copies i xs ≡ Ok tt → i < point_limit
  taken_below e = by-test (leb point_limit i)
      (λ t. absurd (true≢false (sym (ap is_ok (sym (index_refused (leb-true point_limit i t)) ∙ e)))))
      (λ t. leb-false point_limit i t)

  -- what `put` gives and leaves
  module _ (points : List (List Float)) (marks : List ℕ) where
    pub puts_refused : (x : Refusal) → Err x ≡ put_checked d copies i xs → Puts d copies i xs points marks points marks (Err x)
    puts_refused x e = record { answer = e; rows = rw (sym e) refl; marked = rw (sym e) refl }

    pub puts_written : Ok tt ≡ put_checked d copies i xs → (row : List Float) → row ≡ padded width xs → Puts d copies i xs points marks (set points i row) (set marks i 1) (Ok tt)
    puts_written e row w = record { answer = e; rows = ap (set points i) w ∙ rw (sym e) refl; marked = rw (sym e) refl }
