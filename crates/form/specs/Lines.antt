-- What the steps of `check_form` say of a text's lines. Definitions.
use Rattle.std.specs.Prelude.{ℕ, ◌+◌, ◌<◌, List, length, Result, Ok}
use Rattle.text.specs.Pieces.{PieceEnds}
use Rattle.form.specs.Form.{Rows, bad_row, op_rows, first_bad}
use Rattle.form.specs.declared.BadRow.{BadRow}

-- the form of rows that come after n good ones
abbrev pub rows_form : ℕ → Rows → Result ℕ BadRow
rows_form n (bad_row k) = first_bad k
rows_form n (op_rows os) = Ok (n + length os)

-- the text's first three lines end at a, b and c, each in a line feed
pub record FirstLines (s : List ℕ) (a b c : ℕ) : Type 0 where
  pub first : PieceEnds 10 s 0 a
  pub second : PieceEnds 10 s (a + 1) b
  pub third : PieceEnds 10 s (b + 1) c
  pub more : c < length s
