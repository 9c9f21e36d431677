-- A text that is read, by its lines: the making's row, then the op rows one by one. Assumes nothing.
use mathlib.Core.Path.{◌≡◌, refl, sym, ap, ◌∙◌}
use mathlib.Core.List.{List, [], ◌∷◌}
use mathlib.Core.Option.{Option as Maybe, none, some}
use mathlib.Core.Bool.{Bool, true, false, ◌&&◌, cond, false≢true}
use Prim.Native.Nat.{ℕ, ◌+◌, ◌-◌, ◌≤◌}
use native.Mathlib.Omega.{arith}
use lib.ListN.{length, take, drop}
use lib.Dec.{eqb, leb}
use Rattle.text.specs.Pieces.{pieces, pieces_from, PieceEnds}
use Rattle.text.proofs.Pieces.{from_first, from_past}
use Rattle.form.specs.Rows.{Op, row_of}
use Rattle.form.specs.Making.{Making, making_of}
use Rattle.form.specs.Form.{Rows, bad_row, op_rows, with_row, rows_from, making_names, op_names, Parsed, bad, read, made, blocks, parsed, form_from, form_of}
use Rattle.form.specs.Lines.{FirstLines}
use Rattle.form.specs.declared.BadRow.{BadRow}
use Rattle.std.specs.Prelude.{Result, Ok, Err, bytes_eq}
use Rattle.form.specs.Form.{first_bad}
use Rattle.form.proofs.Lines.{lines}
use Rattle.form.proofs.Blocks.{by_blocks}

-- ---- what is read is neither bad nor anything else
is_read : Parsed → Bool
is_read (bad r) = false
is_read (read m os) = true

making_in : Parsed → Maybe Making
making_in (bad r) = none
making_in (read m os) = some m

ops_in : Parsed → List Op
ops_in (bad r) = []
ops_in (read m os) = os

are_read : Rows → Bool
are_read (bad_row k) = false
are_read (op_rows os) = true

ops_of : Rows → List Op
ops_of (bad_row k) = []
ops_of (op_rows os) = os

is_good : Result ℕ BadRow → Bool
is_good (Ok n) = true
is_good (Err r) = false

module _ {m : Making} {os : List Op} where
  -- so an answer `Bad` is ruled out
  pub read_not_bad : (s : List ℕ) {r : ℕ} → parsed s ≡ read m os → first_bad r ≡ form_of s → ⊥
  unfolding form_of is_good
  read_not_bad s e f = false≢true (ap is_good (f ∙ ap form_from e))

  -- and the text is not too long
  pub read_blocks : (s : List ℕ) → parsed s ≡ read m os → blocks (pieces 10 s) ≡ read m os
  unfolding parsed is_read
  read_blocks s e = go (leb (length s) 32768) e
    where
      go : (t : Bool) → cond t (blocks (pieces 10 s)) (bad 0) ≡ read m os → blocks (pieces 10 s) ≡ read m os
      go true f = f
      go false f = absurd (false≢true (ap is_read f))

  -- the making's row and the op rows
  pub read_lines : {s : List ℕ} {a b c : ℕ} → FirstLines s a b c → blocks (pieces 10 s) ≡ read m os
      → (making_of (pieces 32 (take (b - (a + 1)) (drop (a + 1) s))) ≡ some m) × (rows_from 0 (pieces_from 10 s (c + 1)) ≡ op_rows os)
  unfolding is_read making_in ops_in
  read_lines {s} {a} {b} {c} w e = go (bytes_eq (take (a - 0) (drop 0 s)) making_names && bytes_eq (take (c - (b + 1)) (drop (b + 1) s)) op_names) _ _ (sym (by_blocks w) ∙ e)
    where
      go : (t : Bool) (o : Maybe Making) (r : Rows) → cond t (made o r) (bad 0) ≡ read m os → (o ≡ some m) × (r ≡ op_rows os)
      go false o r f = absurd (false≢true (ap is_read f))
      go true none r f = absurd (false≢true (ap is_read f))
      go true (some x) (bad_row k) f = absurd (false≢true (ap is_read f))
      go true (some x) (op_rows xs) f = (ap making_in f, ap op_rows (ap ops_in f))

-- ---- the op rows one by one: os are those left, and the next starts at `at` and ends at e
pub record NextRow (s : List ℕ) (n at e : ℕ) (os : List Op) : Type 0 where
  pub op : Op
  pub rest : List Op
  pub is : os ≡ op ∷ rest
  pub row : row_of (pieces 32 (take (e - at) (drop at s))) ≡ some op
  pub left : rows_from (n + 1) (pieces_from 10 s (e + 1)) ≡ op_rows rest

module _ {s : List ℕ} {at e : ℕ} (n : ℕ) {os : List Op} (h : at ≤ length s) (x : PieceEnds 10 s at e) (r : rows_from n (pieces_from 10 s at) ≡ op_rows os) where
  pub next_row : (e ≡ length s → ⊥) → NextRow s n at e os
  unfolding are_read ops_of
  next_row m = go (row_of (pieces 32 (take (e - at) (drop at s)))) (rows_from (n + 1) (pieces_from 10 s (e + 1))) refl refl (sym (lines n h x m) ∙ r)
    where
      go : (o : Maybe Op) (q : Rows) → row_of (pieces 32 (take (e - at) (drop at s))) ≡ o → rows_from (n + 1) (pieces_from 10 s (e + 1)) ≡ q → with_row (n + 1) o q ≡ op_rows os → NextRow s n at e os
      go none q a b f = absurd (false≢true (ap are_read f))
      go (some o) (bad_row k) a b f = absurd (false≢true (ap are_read f))
      go (some o) (op_rows xs) a b f = record { op = o; rest = xs; is = sym (ap ops_of f); row = a; left = b }

  pub no_row_lem : e ≡ length s → os ≡ []
  unfolding rows_from are_read ops_of
  no_row_lem z = go (eqb (length (take (e - at) (drop at s))) 0) (rw (from_first 10 s at e h x, from_past 10 s (e + 1) (omega arith)) at r)
    where
      go : (t : Bool) → cond t (op_rows []) (bad_row (n + 1)) ≡ op_rows os → os ≡ []
      go true f = sym (ap ops_of f)
      go false f = absurd (false≢true (ap are_read f))
