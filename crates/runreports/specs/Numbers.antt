-- A report's answer as numbers (docs/LAYOUT.md, 'The answers'). Definitions.
use Rattle.std.specs.Prelude.{◌≡◌, List, [], ◌∷◌, ℕ, ◌+◌, ◌*◌, ◌/◌, ◌%◌, length}
use Rattle.std.specs.Float.{binary64}
use Rattle.std.specs.Float.Ieee.{to_bits}
use Rattle.answers.specs.Said.{filled}
use Rattle.nodeview.specs.Report.{ReportRow, report_number, Report, refused, rows}

-- a number of 64 bits as two, the lower half first
abbrev pub low_half : ℕ → ℕ
low_half x = x % 4294967296

abbrev pub high_half : ℕ → ℕ
high_half x = x / 4294967296

-- docs/LAYOUT.md, kind 7: 'five numbers: id, depth, mass, probability (bits of an f64, 2 numbers)', 'the lower half first'
abbrev pub row_numbers : List ReportRow → List ℕ
row_numbers [] = []
row_numbers (r ∷ rs) = r.id ∷ r.depth ∷ r.mass ∷ low_half (to_bits binary64 r.probability) ∷ high_half (to_bits binary64 r.probability) ∷ row_numbers rs

-- 'refusal, number of rows written, then for each of the rows lent five numbers', 'rows beyond those written are 0'; all are 0 where it is refused. n rows are lent.
abbrev pub report_numbers : ℕ → Report → List ℕ
report_numbers n (refused r) = report_number r ∷ 0 ∷ filled (5 * n) []
report_numbers n (rows rs) = 0 ∷ length rs ∷ filled (5 * n) (row_numbers rs)

-- There are as many, whatever is reported: the place of the next answer follows from the rows lent alone.
abbrev pub ReportWidth : Type 0
ReportWidth = (n : ℕ) (x : Report) → length (report_numbers n x) ≡ 2 + 5 * n
