-- The making's row of an archive by its fields. Assumes nothing.
use mathlib.Core.Path.{◌≡◌}
use mathlib.Core.List.{List, ◌∷◌}
use mathlib.Core.Option.{none}
use Prim.Native.Nat.{ℕ, ◌+◌, ◌-◌, ◌≤◌}
use native.Mathlib.Omega.{arith}
use lib.ListN.{length, take, drop}
use Rattle.text.specs.Pieces.{pieces_from, PieceEnds}
use Rattle.text.specs.Numbers.{decimal_of}
use Rattle.text.proofs.Pieces.{from_first, from_past, own_end}
use Rattle.form.proofs.Lines.{one, two, three}
use Rattle.archivehead.specs.Head.{archive_making_by, archive_making_of, making_of_line}

-- the fields end at x, y, z and w
module _ (s : List ℕ) {x : ℕ} (wx : PieceEnds 32 s 0 x) where
  pub making_one : x ≡ length s → making_of_line s ≡ none
  unfolding archive_making_of
  making_one h = rw (one 32 s wx h)

  module _ (nx : x ≡ length s → ⊥) {y : ℕ} (wy : PieceEnds 32 s (x + 1) y) where
    pub making_two : y ≡ length s → making_of_line s ≡ none
    unfolding archive_making_of
    making_two h = rw (two 32 s wx nx wy h)

    module _ (ny : y ≡ length s → ⊥) {z : ℕ} (wz : PieceEnds 32 s (y + 1) z) where
      pub making_three : z ≡ length s → making_of_line s ≡ none
      unfolding archive_making_of
      making_three h = rw (three 32 s wx nx wy ny wz, from_past 32 s (z + 1) (omega arith))

      module _ (nz : z ≡ length s → ⊥) {w : ℕ} (ww : PieceEnds 32 s (z + 1) w) where
        fourth : pieces_from 32 s (z + 1) ≡ take (w - (z + 1)) (drop (z + 1) s) ∷ pieces_from 32 s (w + 1)
        fourth = let g : z + 1 ≤ length s = omega arith in from_first 32 s (z + 1) w g ww

        pub making_many : (w ≡ length s → ⊥) → making_of_line s ≡ none
        unfolding archive_making_of
        making_many h =
            let g : w + 1 ≤ length s = omega arith in
            rw (three 32 s wx nx wy ny wz, fourth, from_first 32 s (w + 1) _ g (own_end 32 s (w + 1) g))

        pub making_four : w ≡ length s → making_of_line s ≡ archive_making_by (decimal_of (take (x - 0) (drop 0 s))) (decimal_of (take (y - (x + 1)) (drop (x + 1) s)))
            (decimal_of (take (z - (y + 1)) (drop (y + 1) s))) (decimal_of (take (w - (z + 1)) (drop (z + 1) s)))
        unfolding archive_making_of
        making_four h = rw (three 32 s wx nx wy ny wz, fourth, from_past 32 s (w + 1) (omega arith))
