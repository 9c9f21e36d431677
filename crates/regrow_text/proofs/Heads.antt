-- A text of fewer than three lines, by where its pieces end. Laws.
use mathlib.Core.Path.{◌≡◌, ap, ◌∙◌}
use mathlib.Core.List.{List}
use Prim.Native.Nat.{ℕ, suc, ◌+◌, ◌≤◌, ◌<◌}
use native.Mathlib.Omega.{arith}
use lib.ListN.{length}
use Rattle.text.specs.Pieces.{pieces, pieces_from, PieceEnds}
use Rattle.text.proofs.Pieces.{from_zero, from_first, from_past}

module _ (text : List ℕ) where
  -- one piece, then those after it; the last has none after it
  one : {k e : ℕ} → k ≤ length text → PieceEnds 10 text k e → length (pieces_from 10 text k) ≡ suc (length (pieces_from 10 text (e + 1)))
  one {k} {e} h x = rw (from_first 10 text k e h x)

  last : {k : ℕ} → k ≤ length text → PieceEnds 10 text k (length text) → length (pieces_from 10 text k) ≡ 1
  last {k} h x = one h x ∙ ap (λ (ps : List (List ℕ)). suc (length ps)) (from_past 10 text (length text + 1) (omega arith))

  all : length (pieces 10 text) ≡ length (pieces_from 10 text 0)
  all = rw (from_zero 10 text)

  pub no_first : PieceEnds 10 text 0 (length text) → length (pieces 10 text) ≤ 3
  no_first x = omega (arith, all, last (omega arith) x)

  module _ {a : ℕ} (x : PieceEnds 10 text 0 a × (a < length text)) where
    pub no_second : PieceEnds 10 text (a + 1) (length text) → length (pieces 10 text) ≤ 3
    no_second y = omega (arith, all, one (omega arith) x.0, last (omega arith) y)

    pub no_third : {b : ℕ} → PieceEnds 10 text (a + 1) b × (b < length text) → PieceEnds 10 text (b + 1) (length text) → length (pieces 10 text) ≤ 3
    no_third y z = omega (arith, all, one (omega arith) x.0, one (omega arith) y.0, last (omega arith) z)
