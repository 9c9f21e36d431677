-- Treelist's text (document 01, 'Printed tree') for every list of bytes: the making and the op rows that it brings, or its first bad row. Definitions and statements.
use Rattle.std.specs.Prelude.{ℕ, ◌+◌, ◌≤◌, ◌<◌, ◌≡◌, refl, List, [], ◌∷◌, ◌&&◌, cond, length, eqb, leb, bytes_eq, Result, Ok, Err}
use Rattle.std.proofs.Math.Option.{Option as Maybe, none, some}
use Rattle.std.specs.Float.{binary32}
use Rattle.std.specs.Float.Ieee.{of_bits, of_int}
use Rattle.text.specs.Quoted.{bytes}
use Rattle.text.specs.Pieces.{pieces}
use Rattle.text.specs.Numbers.{digit_value, digits_from, decimal_of, word_of}
use Rattle.text.specs.Coordinates.{capped, coordinate_of}
use Rattle.form.specs.Rows.{Op, put, add, row_by, row_of}
use Rattle.form.specs.Making.{Making, making_of}
use Rattle.form.specs.declared.BadRow.{BadRow}

-- ---- the op rows
-- the op rows of a text, or the first bad one, counted from 1
pub data Rows : Type 0 where
  bad_row : ℕ → Rows
  op_rows : List Op → Rows

-- row n in front of the rows after it: the first bad row is the one that is told
abbrev pub with_row : ℕ → Maybe Op → Rows → Rows
with_row n none r = bad_row n
with_row n (some o) (bad_row k) = bad_row k
with_row n (some o) (op_rows os) = op_rows (o ∷ os)

-- Document 01, 'Printed tree': 'every line, the last too, ends in a line feed', 'R being the op row from 1'.
-- The lines after n op rows: what stands after the last line feed is no row and must be empty, else it is a row with no line feed.
unfoldable pub rows_from : ℕ → List (List ℕ) → Rows
rows_from n [] = bad_row (n + 1)
rows_from n (p ∷ []) = cond (eqb (length p) 0) (op_rows []) (bad_row (n + 1))
rows_from n (p ∷ q ∷ ps) = with_row (n + 1) (row_of (pieces 32 p)) (rows_from (n + 1) (q ∷ ps))

-- ---- the whole text
-- Document 01, 'Printed tree': 'Two blocks, each a line of names, then lines of values.'
abbrev pub making_names : List ℕ
making_names = bytes "dimensions capacity cache16"

abbrev pub op_names : List ℕ
op_names = bytes "op index rest"

-- what a text is read as: its first bad row, R of `refused 17 R`, or its making and op rows
pub data Parsed : Type 0 where
  bad : ℕ → Parsed
  read : Making → List Op → Parsed

-- the making and the op rows together: a bad making is row 0
abbrev pub made : Maybe Making → Rows → Parsed
made none r = bad 0
made (some m) (bad_row k) = bad k
made (some m) (op_rows os) = read m os

-- Document 01, 'Printed tree': 'R 0 in the first block, in either names line'. By the text's lines, with what stands after the last line feed as one more.
unfoldable pub blocks : List (List ℕ) → Parsed
blocks [] = bad 0
blocks (a ∷ []) = bad 0
blocks (a ∷ b ∷ []) = bad 0
blocks (a ∷ b ∷ c ∷ []) = bad 0
blocks (a ∷ b ∷ c ∷ d ∷ ps) = cond (bytes_eq a making_names && bytes_eq c op_names) (made (making_of (pieces 32 b)) (rows_from 0 (d ∷ ps))) (bad 0)

-- Document 01, 'Printed tree': 'reads standard input, at most 32 KiB', 'or for an over-long text'. Its length is looked at before its lines; 10 is the line feed.
unfoldable pub parsed : List ℕ → Parsed
parsed t = cond (leb (length t) 32768) (blocks (pieces 10 t)) (bad 0)

-- Document 01's own text, read: the coordinates 0, 8 and 2 are the f32s 00000000, 41000000 and 40000000.
document : parsed (bytes "dimensions capacity cache16\n1 4 16\nop index rest\n0 0 0\n0 1 8\n0 2 2\n1 0\n1 1 8000000000000000\n1 2 8000000000000000 8000000000000000\n")
    ≡ read (record { channels = 1; capacity = 4; sixteenths = 16 })
    (put 0 (of_bits binary32 0 ∷ [])
    ∷ put 1 (of_bits binary32 0x4100_0000 ∷ [])
    ∷ put 2 (of_bits binary32 0x4000_0000 ∷ [])
    ∷ add 0 []
    ∷ add 1 (0x8000_0000_0000_0000 ∷ [])
    ∷ add 2 (0x8000_0000_0000_0000 ∷ 0x8000_0000_0000_0000 ∷ [])
    ∷ [])
unfolding parsed blocks making_of rows_from row_of row_by pieces digit_value digits_from decimal_of word_of capped coordinate_of of_int of_bits
document = refl

-- A text that is read has at most 8,180 op rows: at least 48 bytes stand before them, and each has at least 4, the line feeds counted. A bad row's number has at
-- most five digits. Proved of every text (`few_rows_lem` in proofs/Sizes.antt).
abbrev pub FewRows : Parsed → Type 0
FewRows (bad r) = r < 100000
FewRows (read m os) = length os ≤ 8180

-- ---- what `check_form` answers
-- the first bad row is r
abbrev pub first_bad : ℕ → Result ℕ BadRow
first_bad r = Err (record { row = r })

-- Document 01, 'Printed tree': 'The form of the whole text is checked first: a bad text prints only `refused 17 R` for its first bad row'
abbrev pub form_from : Parsed → Result ℕ BadRow
form_from (bad r) = first_bad r
form_from (read m os) = Ok (length os)

unfoldable pub form_of : List ℕ → Result ℕ BadRow
form_of t = form_from (parsed t)

-- the op rows of a text that is read
pub record ReadWith (p : Parsed) (n : ℕ) : Type 0 where
  pub making : Making
  pub ops : List Op
  pub is : p ≡ read making ops
  pub many : length ops ≡ n

-- The answer tells the text: `first_bad r` exactly where row r is its first bad one, `Ok n` exactly where it is read with n op rows.
pub record FormTells (t : List ℕ) : Type 0 where
  pub bad_is : (r : ℕ) → form_of t ≡ first_bad r → parsed t ≡ bad r
  pub is_bad : (r : ℕ) → parsed t ≡ bad r → form_of t ≡ first_bad r
  pub good_is : (n : ℕ) → form_of t ≡ Ok n → ReadWith (parsed t) n
  pub is_good : (n : ℕ) → ReadWith (parsed t) n → form_of t ≡ Ok n
