-- What `read_line` answers says what the row is. Assumes nothing.
use mathlib.Core.Path.{◌≡◌, refl}
use mathlib.Core.List.{List}
use mathlib.Core.Bool.{Bool, true, false, cond}
use Prim.Native.Nat.{ℕ, ◌+◌, ◌-◌, ◌≤◌}
use native.Mathlib.Omega.{arith}
use borrow.Author.Tests.{eqb-true, eqb-false, leb-true}
use lib.Dec.{eqb, leb}
use lib.ListN.{length, take, drop}
use Rattle.std.specs.Prelude.{Option}
use Rattle.std.specs.Prelude.{Some, None}
use Rattle.text.specs.Pieces.{pieces_from, PieceEnds}
use Rattle.text.specs.Numbers.{decimal_of}
use Rattle.text.proofs.Pieces.{own_end}
use Rattle.form.specs.Rows.{are_coordinates}
use Rattle.namedwords.specs.Named.{is_beyond}
use Rattle.archiverow.specs.Rows.{ArchiveRow, beyond, out_of_form, is_arrival, is_dash, put_by, arrival_by, report_by, row_by, row_by_number, longest_row}
use Rattle.archiverow.specs.Read.{answer_at, read_line, line_says, LineTells}
use Rattle.archiverow.proofs.Rows.{row_long, one_field, two_fields, rest_at_lem}

module _ (s : List ℕ) (k : ℕ) where
  abbrev Told : ArchiveRow → Type 0
  Told r = line_says s (answer_at k r) ≡ r

  -- one test that is passed, or out of form
  tested : (t : Bool) (r : ArchiveRow) → Told r → Told (cond t r out_of_form)
  tested true r h = h
  tested false r h = refl

  -- and one that is not: the stream has not the words
  unless : (t : Bool) (r : ArchiveRow) → Told r → Told (cond t beyond r)
  unless true r h = refl
  unless false r h = h

  told_put : (n : Option ℕ) → Told (put_by n (pieces_from 32 s k))
  told_put None = refl
  told_put (Some i) = tested (are_coordinates (pieces_from 32 s k)) _ refl

  told_arrival : (n : Option ℕ) → Told (arrival_by n (pieces_from 32 s k))
  told_arrival None = refl
  told_arrival (Some i) = tested (is_arrival (pieces_from 32 s k)) _ (unless (is_beyond (drop 1 (pieces_from 32 s k))) _ refl)

  told_report : (i : List ℕ) → Told (report_by i (pieces_from 32 s k))
  unfolding report_by
  told_report i = tested (is_dash i) _ (tested (are_coordinates (pieces_from 32 s k)) _ refl)

  told_op : (o : ℕ) (i : List ℕ) → Told (row_by o i (pieces_from 32 s k))
  unfolding row_by
  told_op o i = go (eqb o 0) (eqb o 3) (eqb o 4) _ _ _ (told_put (decimal_of i)) (told_arrival (decimal_of i)) (told_report i)
    where
      go : (a b c : Bool) (x y z : ArchiveRow) → Told x → Told y → Told z → Told (cond a x (cond b y (cond c z out_of_form)))
      go true b c x y z p q r = p
      go false true c x y z p q r = q
      go false false c x y z p q r = tested c z r

  told : (o : Option ℕ) (i : List ℕ) → Told (row_by_number o i (pieces_from 32 s k))
  told None i = refl
  told (Some o) i = told_op o i

pub line_tells : (s : List ℕ) → LineTells s
unfolding read_line
line_tells s = go (leb (length s) longest_row) refl
  where
    two : length s ≤ longest_row → {e : ℕ} → PieceEnds 32 s 0 e → (e ≡ length s → ⊥) → {f : ℕ} → PieceEnds 32 s (e + 1) f → LineTells s
    two h {e} w n {f} x = rw (two_fields s h w n x, rest_at_lem s h w n x) (told s (f + 1) (decimal_of (take (e - 0) (drop 0 s))) (take (f - (e + 1)) (drop (e + 1) s)))

    one : length s ≤ longest_row → {e : ℕ} → PieceEnds 32 s 0 e → (t : Bool) → eqb e (length s) ≡ t → LineTells s
    one h {e} w true t = rw (one_field s h w (eqb-true e (length s) t))
    one h {e} w false t = let n : (e ≡ length s → ⊥) = eqb-false e (length s) t in two h w n (own_end 32 s (e + 1) (omega (arith, w.most, n)))

    go : (b : Bool) → leb (length s) longest_row ≡ b → LineTells s
    go true e = one (leb-true _ _ e) (own_end 32 s 0 (omega arith)) _ refl
    go false e = rw (row_long s e)
