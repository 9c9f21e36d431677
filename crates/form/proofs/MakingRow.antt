-- The making's row by its fields. Assumes nothing.
use mathlib.Core.Path.{◌≡◌}
use mathlib.Core.List.{List}
use mathlib.Core.Option.{Option as Maybe, none}
use Prim.Native.Nat.{ℕ, ◌+◌, ◌-◌, ◌≤◌}
use native.Mathlib.Omega.{arith}
use lib.ListN.{length, take, drop}
use Rattle.text.specs.Pieces.{pieces, PieceEnds}
use Rattle.text.specs.Numbers.{decimal_of}
use Rattle.text.proofs.Pieces.{from_first, from_past, own_end}
use Rattle.form.specs.Rows.{is_there}
use Rattle.form.specs.Making.{Making, making_by, making_of, making_says}
use Rattle.form.specs.declared.Making as Read
use Rattle.std.specs.Prelude.{Option, Some, None, is_some}
use Rattle.form.proofs.Lines.{one, two, three}

module _ (s : List ℕ) {x : ℕ} (wx : PieceEnds 32 s 0 x) where
  pub making_one : x ≡ length s → making_of (pieces 32 s) ≡ none
  unfolding making_of
  making_one h = rw (one 32 s wx h)

  module _ (nx : x ≡ length s → ⊥) {y : ℕ} (wy : PieceEnds 32 s (x + 1) y) where
    pub making_two : y ≡ length s → making_of (pieces 32 s) ≡ none
    unfolding making_of
    making_two h = rw (two 32 s wx nx wy h)

    module _ (ny : y ≡ length s → ⊥) {z : ℕ} (wz : PieceEnds 32 s (y + 1) z) where
      pub making_many : (z ≡ length s → ⊥) → making_of (pieces 32 s) ≡ none
      unfolding making_of
      making_many h =
          let g : z + 1 ≤ length s = omega arith in
          rw (three 32 s wx nx wy ny wz, from_first 32 s (z + 1) _ g (own_end 32 s (z + 1) g))

      pub making_three : z ≡ length s → making_of (pieces 32 s) ≡ making_by (decimal_of (take (x - 0) (drop 0 s))) (decimal_of (take (y - (x + 1)) (drop (x + 1) s))) (decimal_of (take (z - (y + 1)) (drop (y + 1) s)))
      unfolding making_of
      making_three h = rw (three 32 s wx nx wy ny wz, from_past 32 s (z + 1) (omega arith))

-- whether there is one, by the code's answer
pub making_said : (h : Option Read.Making) {o : Maybe Making} → o ≡ making_says h → is_some h ≡ is_there o
making_said None e = rw e
making_said (Some m) e = rw e
