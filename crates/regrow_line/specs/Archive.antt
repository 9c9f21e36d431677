-- What an archive prints and leaves, line after line, and that it leaves what its calls do: so demand 3, which speaks of lists of calls, speaks of what is printed.
-- Definitions and a statement.
use Rattle.std.specs.Prelude.{◌≡◌, cond, List, [], ◌∷◌, ◌++◌, ℕ, ◌+◌, Float}
use Rattle.wholetree.specs.Whole.{whole}
use Rattle.sampledtree.specs.Sampled.{Sampled, SampledCall, sampled_after}
use Rattle.archiverow.specs.Rows.{ArchiveRow, row_of}
use Rattle.archivecalls.specs.Carried.{calls_of, row_leaves}
use Rattle.regrow_line.specs.Answered.{answered, in_form}

-- the rows of lines that are carried out: all, or those up to the first that is out of form, which is answered too
unfoldable pub rows_of : List (List ℕ) → List ArchiveRow
rows_of [] = []
rows_of (l ∷ ls) = row_of l ∷ cond (in_form (row_of l)) (rows_of ls) []

-- a sampled tree of d channels
module _ (d : ℕ) where
  -- the sampled tree after rows, each carried out on what the one before it left
  abbrev pub rows_leave : Sampled (whole d) → List ArchiveRow → Sampled (whole d)
  rows_leave X [] = X
  rows_leave X (row ∷ rows) = rows_leave (row_leaves d X row) rows

  -- what they print, the first of them being op row r
  abbrev pub printed : Float → Sampled (whole d) → ℕ → List ArchiveRow → List ℕ
  printed s X r [] = []
  printed s X r (row ∷ rows) = answered d s X row r ++ printed s (row_leaves d X row) (r + 1) rows

  -- their calls
  abbrev pub calls_of_rows : List ArchiveRow → List (SampledCall (whole d))
  calls_of_rows [] = []
  calls_of_rows (row ∷ rows) = calls_of d row ++ calls_of_rows rows

-- Rows leave what their calls leave. Proved of all rows (`as_calls` in proofs/Archive.antt).
abbrev pub AsCalls : Type 0
AsCalls = (d : ℕ) (X : Sampled (whole d)) (rows : List ArchiveRow) → rows_leave d X rows ≡ sampled_after (whole d) X (calls_of_rows d rows)
