-- The first pieces of a text one by one, and its op rows one by one. Assumes nothing.
use mathlib.Core.Path.{◌≡◌, refl, sym, ap, ◌∙◌}
use mathlib.Core.List.{List, [], ◌∷◌}
use mathlib.Core.Option.{Option as Maybe, none, some}
use mathlib.Core.Bool.{Bool, true, false, true≢false, false≢true}
use Prim.Native.Nat.{ℕ, suc, ◌+◌, ◌-◌, ◌≤◌}
use native.Mathlib.Nat.{add-zero}
use native.Mathlib.Omega.{arith}
use borrow.Author.Tests.{ne_eqb}
use lib.ListN.{length, take, drop, length-take, length-drop}
use Rattle.text.specs.Pieces.{pieces, pieces_from, PieceEnds}
use Rattle.text.proofs.Pieces.{from_zero, from_first, from_past, own_end}
use Rattle.form.specs.Rows.{Op, row_of, is_there}
use Rattle.form.specs.Form.{Rows, bad_row, op_rows, with_row, rows_from}
use Rattle.form.specs.Lines.{rows_form}
use Rattle.std.specs.Prelude.{Ok}
use Rattle.form.specs.Form.{first_bad}

-- ---- one, two, or three pieces and more
module _ (b : ℕ) (s : List ℕ) {x : ℕ} (wx : PieceEnds b s 0 x) where
  pub one : x ≡ length s → pieces b s ≡ take (x - 0) (drop 0 s) ∷ []
  one h = rw (← from_zero b s, from_first b s 0 x (omega arith) wx, from_past b s (x + 1) (omega arith))

  module _ (nx : x ≡ length s → ⊥) {y : ℕ} (wy : PieceEnds b s (x + 1) y) where
    pub two : y ≡ length s → pieces b s ≡ take (x - 0) (drop 0 s) ∷ take (y - (x + 1)) (drop (x + 1) s) ∷ []
    two h = let g : x + 1 ≤ length s = omega arith in rw (← from_zero b s, from_first b s 0 x (omega arith) wx, from_first b s (x + 1) y g wy, from_past b s (y + 1) (omega arith))

    module _ (ny : y ≡ length s → ⊥) {z : ℕ} (wz : PieceEnds b s (y + 1) z) where
      pub three : pieces b s ≡ take (x - 0) (drop 0 s) ∷ take (y - (x + 1)) (drop (x + 1) s) ∷ take (z - (y + 1)) (drop (y + 1) s) ∷ pieces_from b s (z + 1)
      three =
          let g : x + 1 ≤ length s = omega arith in
          let k : y + 1 ≤ length s = omega arith in
          rw (← from_zero b s, from_first b s 0 x (omega arith) wx, from_first b s (x + 1) y g wy, from_first b s (y + 1) z k wz)

-- ---- the op rows
piece_length : {b : ℕ} {s : List ℕ} {k e : ℕ} → PieceEnds b s k e → length (take (e - k) (drop k s)) ≡ e - k
piece_length {b} {s} {k} {e} w = rw (length-take, length-drop) (omega arith)

-- the line from `at` to e, and the lines after it
pub lines : {s : List ℕ} {at e : ℕ} (n : ℕ) → at ≤ length s → PieceEnds 10 s at e → (e ≡ length s → ⊥)
    → rows_from n (pieces_from 10 s at) ≡ with_row (n + 1) (row_of (pieces 32 (take (e - at) (drop at s)))) (rows_from (n + 1) (pieces_from 10 s (e + 1)))
unfolding rows_from
lines {s} {at} {e} n h x m =
    let g : e + 1 ≤ length s = omega arith in
    rw (from_first 10 s at e h x, from_first 10 s (e + 1) _ g (own_end 10 s (e + 1) g))

-- a row more before the others
counted : (n : ℕ) (o : Maybe Op) (r : Rows) → is_there o ≡ true → rows_form n (with_row (n + 1) o r) ≡ rows_form (n + 1) r
counted n none r h = absurd (false≢true h)
counted n (some o) (bad_row k) h = refl
counted n (some o) (op_rows os) h = ap Ok (more (length os))
  where
    more : (l : ℕ) → n + suc l ≡ n + 1 + l
    more l = omega arith

stopped : (n : ℕ) (o : Maybe Op) (r : Rows) → is_there o ≡ false → rows_form n (with_row (n + 1) o r) ≡ first_bad (n + 1)
stopped n none r h = refl
stopped n (some o) r h = absurd (true≢false h)

-- n rows are good and the next starts at `at`, so what is left gives the form of all from k on
pub record Counting (s : List ℕ) (k at n : ℕ) : Type 0 where
  pub within : at ≤ length s
  pub few : n ≤ at
  pub same : rows_form n (rows_from n (pieces_from 10 s at)) ≡ rows_form 0 (rows_from 0 (pieces_from 10 s k))

pub count_start : {s : List ℕ} {k : ℕ} → k ≤ length s → Counting s k k 0
count_start h = record { within = h; few = omega arith; same = refl }

module _ {s : List ℕ} {k at n e : ℕ} (w : Counting s k at n) (x : PieceEnds 10 s at e) where
  pub count_end : e ≡ length s → e ≡ at → Ok n ≡ rows_form 0 (rows_from 0 (pieces_from 10 s k))
  unfolding rows_from
  count_end h q =
      let z : e - at ≡ 0 = omega arith in
      rw (from_first 10 s at e w.within x, from_past 10 s (e + 1) (omega arith), piece_length x, z, add-zero n) at w.same

  pub count_tail : e ≡ length s → (e ≡ at → ⊥) → first_bad (n + 1) ≡ rows_form 0 (rows_from 0 (pieces_from 10 s k))
  unfolding rows_from
  count_tail h q =
      let z : e - at ≡ 0 → ⊥ = λ y. absurd (q (omega arith)) in
      rw (from_first 10 s at e w.within x, from_past 10 s (e + 1) (omega arith), piece_length x, ne_eqb _ _ z) at w.same

  module _ (m : e ≡ length s → ⊥) where
    module _ {t : Bool} (p : t ≡ is_there (row_of (pieces 32 (take (e - at) (drop at s))))) where
      abbrev row : Maybe Op
      row = row_of (pieces 32 (take (e - at) (drop at s)))

      abbrev rest : Rows
      rest = rows_from (n + 1) (pieces_from 10 s (e + 1))

      pub count_bad : t ≡ false → first_bad (n + 1) ≡ rows_form 0 (rows_from 0 (pieces_from 10 s k))
      count_bad z = sym (ap (rows_form n) (lines n w.within x m) ∙ stopped n row rest (sym p ∙ z)) ∙ w.same

      pub count_step : t ≡ true → Counting s k (e + 1) (n + 1)
      count_step z = record {
        within = omega arith;
        few = omega arith;
        same = sym (ap (rows_form n) (lines n w.within x m) ∙ counted n row rest (sym p ∙ z)) ∙ w.same;
      }
