-- What `read_line` answers of a line: which row it is, its index, and where its rest starts. Definitions and a statement.
use Rattle.std.specs.Prelude.{ℕ, ◌≡◌, List, Result, Ok, Err}
use Rattle.text.specs.Pieces.{pieces_from}
use Rattle.refusals.specs.declared.Refusal.{Refusal}
use Rattle.refusals.specs.declared.Refusal.TheVariants.{OutOfForm, PastStream}
use Rattle.form.specs.Rows.{rest_at}
use Rattle.archiverow.specs.declared.Line.{Line}
use Rattle.archiverow.specs.declared.Line.TheVariants.{Puts, Arrives, Reports}
use Rattle.archiverow.specs.Rows.{ArchiveRow, puts, arrives, reports, beyond, out_of_form, coordinates_in, weight_in, chance_in, arrival_words_in, row_of}

-- a row as it is answered, with the place k of the rest in place of its fields
abbrev pub answer_at : ℕ → ArchiveRow → Result Line Refusal
answer_at k (puts i xs) = Ok (Puts i k)
answer_at k (arrives i w x ws) = Ok (Arrives i k)
answer_at k (reports xs) = Ok (Reports k)
answer_at k beyond = Err PastStream
answer_at k out_of_form = Err OutOfForm

unfoldable pub read_line : List ℕ → Result Line Refusal
read_line s = answer_at (rest_at s) (row_of s)

-- what an answer says of a line s: the fields of the rest are those from the place k on. No other refusals are answered.
abbrev pub line_says : List ℕ → Result Line Refusal → ArchiveRow
line_says s (Ok (Puts i k)) = puts i (coordinates_in (pieces_from 32 s k))
line_says s (Ok (Arrives i k)) = arrives i (weight_in (pieces_from 32 s k)) (chance_in (pieces_from 32 s k)) (arrival_words_in (pieces_from 32 s k))
line_says s (Ok (Reports k)) = reports (coordinates_in (pieces_from 32 s k))
line_says s (Err PastStream) = beyond
line_says s (Err _) = out_of_form

-- The answer says what the row is. Proved of every line (`line_tells` in proofs/Tells.antt).
abbrev pub LineTells : List ℕ → Type 0
LineTells s = line_says s (read_line s) ≡ row_of s
