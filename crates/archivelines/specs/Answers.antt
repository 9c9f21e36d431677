-- The lines that answer a row of an archive, as lists of bytes. Definitions.
use Rattle.std.specs.Prelude.{◌≡◌, refl, cond, List, [], ◌∷◌, ◌++◌, ℕ, ◌*◌, eqb, get_or, take}
use Rattle.limits.specs.Limits.{capacity_limit}
use Rattle.text.specs.Quoted.{bytes}
use Rattle.lines.specs.Lines.{digit, decimal_in, decimal, hex, number_field, last_number_field, refused_line}
use Rattle.archivelines.specs.declared.Asks.{Asks}
use Rattle.archivelines.specs.declared.Asks.TheVariants.{Nothing, Arrival, Report}

-- What became of the arrival of row r: 'not accepted, or the leaf's index and the evicted index if any'.
unfoldable pub passed_line : (r : ℕ) → List ℕ
passed_line r = bytes "passed " ++ last_number_field r

unfoldable pub kept_line : (leaf r : ℕ) → List ℕ
kept_line leaf r = bytes "leaf " ++ number_field leaf ++ last_number_field r

unfoldable pub evicted_line : (leaf evicted r : ℕ) → List ℕ
evicted_line leaf evicted r = bytes "leaf " ++ number_field leaf ++ bytes "evicted " ++ number_field evicted ++ last_number_field r

example_evicted : evicted_line 7 12 120 ≡ bytes "leaf 7 evicted 12 120\n"
unfolding evicted_line decimal decimal_in digit
example_evicted = refl

-- A row of a report, its four numbers 'id, depth, mass, probability (f64)': the probability by its bits, as a word is written.
unfoldable pub report_line : List ℕ → List ℕ
report_line row = bytes "row " ++ number_field (get_or row 0 0) ++ number_field (get_or row 1 0) ++ number_field (get_or row 2 0) ++ hex 16 (get_or row 3 0) ++ (10 ∷ [])

-- the probability 1/3
example_report : report_line (0 ∷ 2 ∷ 3 ∷ 0x3fd5_5555_5555_5555 ∷ []) ≡ bytes "row 0 2 3 3FD5555555555555\n"
unfolding report_line decimal decimal_in hex digit
example_report = refl

-- 'rows from leaf to root'
abbrev pub report_lines : List (List ℕ) → List ℕ
report_lines [] = []
report_lines (x ∷ xs) = report_line x ++ report_lines xs

-- By an arrival's numbers, 'refusal, what became of it (0 not accepted, 1 accepted, 2 accepted and another evicted), the leaf's point index, the evicted point
-- index', where it is not refused.
unfoldable pub arrival_line : List ℕ → ℕ → List ℕ
arrival_line n r = cond (eqb (get_or n 1 0) 0) (passed_line r) (cond (eqb (get_or n 1 0) 1) (kept_line (get_or n 2 0) r) (evicted_line (get_or n 2 0) (get_or n 3 0) r))

-- What is told beside a refusal, by the answer's numbers n and by the lent rows, of which a report has written as many as its second number says. A put that is
-- done prints nothing.
abbrev pub asked_lines : Asks → List ℕ → List (List ℕ) → (r : ℕ) → List ℕ
asked_lines Nothing n rows r = []
asked_lines Arrival n rows r = arrival_line n r
asked_lines Report n rows r = report_lines (take (get_or n 1 0) rows)

-- THE LINES of the row r that asks x, by its answer's numbers n, the refusal first, and by the lent rows
unfoldable pub answer_lines : Asks → List ℕ → List (List ℕ) → (r : ℕ) → List ℕ
answer_lines x n rows r = cond (eqb (get_or n 0 0) 0) (asked_lines x n rows r) (refused_line (get_or n 0 0) r)

-- 21,504 bytes: a report has at most as many rows as a tree has leaves, and four numbers of 64 bits take at most 84 bytes with their names, spaces and line feed
abbrev pub answer_limit : ℕ
answer_limit = capacity_limit * 84
