-- Demand 3 of an archive: of the answers of its rows, line by line, and of the sample and the tree that are printed at its end. Definitions and the statement.
use Rattle.std.specs.Prelude.{◌≡◌, List, [], ◌∷◌, ◌++◌, ℕ, ◌+◌, length, Float, Ok}
use Rattle.std.proofs.Math.Option.{none, some}
use Rattle.limits.specs.Limits.{capacity_limit}
use Rattle.sampler.specs.Sample.{Entry}
use Rattle.cuttree.specs.Run.{put}
use Rattle.cuttree.specs.Counts.{Counts, nothing}
use Rattle.cuttree.specs.Graph.{View}
use Rattle.wholetree.specs.Whole.{whole}
use Rattle.sampledtree.specs.Sampled.{SampledAnswer, plain as bare, not_accepted, accepted, fresh}
use Rattle.samplerplustree.specs.declared.SamplerPlusTree.{SamplerPlusTree}
use Rattle.samplerplustree.specs.Making.{sampled_by}
use Rattle.form.specs.Making.{sixteenths_of}
use Rattle.lines.specs.Lines.{names_line, refused_line}
use Rattle.demand3.specs.Answered.{SampleClaim}
use Rattle.runlayout.specs.Layout as Run
use Rattle.runlayout.specs.Layout.{RunCall}
use Rattle.treelist_text.specs.Output.{told_row}
use Rattle.archiverow.specs.Rows.{ArchiveRow, puts, arrives, reports, beyond, out_of_form}
use Rattle.archivelines.specs.Answers.{passed_line, kept_line, evicted_line}
use Rattle.archivecalls.specs.Carried.{out_number, beyond_number}
use Rattle.archivehead.specs.Head.{ArchiveMaking, making_of_line}
use Rattle.archiveend.specs.End.{entry_lines, sample_names, end_lines}
use Rattle.regrow_line.specs.Answered.{lines_of_report}
use Rattle.regrow_line.specs.Archive.{rows_of, rows_leave, printed}
use Rattle.demand3_outputs.specs.Run.{RunAnswers, RunAnswered}
use Rattle.demand3_outputs.specs.Text.{Listing}

-- a sampled tree of d channels
module _ (d : ℕ) where
  -- THE CALLS of rows, as a run has them: one of each put, arrival and report. A report is lent as many rows as any walk has nodes.
  abbrev pub calls_in : List ArchiveRow → List (RunCall d)
  calls_in [] = []
  calls_in (puts i xs ∷ rows) = Run.plain (put i xs) ∷ calls_in rows
  calls_in (arrives i w x ws ∷ rows) = Run.arrives i w x ws ∷ calls_in rows
  calls_in (reports xs ∷ rows) = Run.reports capacity_limit xs ∷ calls_in rows
  calls_in (beyond ∷ rows) = calls_in rows
  calls_in (out_of_form ∷ rows) = calls_in rows

  -- THE LINES of their answers (docs/ARCHIVE_TEXT.md, 'Answers'), r being the first op row: of an arrival, then of all rows. A put that is done has none;
  -- a row that names words beyond the stream's end has its refusal with no call, and so has one out of form.
  abbrev pub arrival_told : SampledAnswer (whole d) → ℕ → List ℕ
  arrival_told (bare a) r = told_row d a r
  arrival_told not_accepted r = passed_line r
  arrival_told (accepted j none) r = kept_line j r
  arrival_told (accepted j (some e)) r = evicted_line j e r

  abbrev pub rows_told : ℕ → (rows : List ArchiveRow) → RunAnswers d (calls_in rows) → List ℕ
  rows_told r [] as' = []
  rows_told r (puts i xs ∷ rows) (a, as') = told_row d a r ++ rows_told (r + 1) rows as'
  rows_told r (arrives i w x ws ∷ rows) (o, as') = arrival_told o r ++ rows_told (r + 1) rows as'
  rows_told r (reports xs ∷ rows) (x, as') = lines_of_report x r ++ rows_told (r + 1) rows as'
  rows_told r (beyond ∷ rows) as' = refused_line beyond_number r ++ rows_told (r + 1) rows as'
  rows_told r (out_of_form ∷ rows) as' = refused_line out_number r ++ rows_told (r + 1) rows as'

-- Of the last tree and the counts after all rows: the entries ks that the sample keeps are the copies in the tree, value by value, and the lines ls are the tree's.
abbrev pub AtEnd : (d c : ℕ) → List Entry → List ℕ → View (whole d) → Counts (whole d) → Type 0
AtEnd d c ks ls G K = SampleClaim d c (length ks) ks K × Listing d ls G

-- Of rows on a fresh sampled tree of capacity c, cached share s and initial share f, there are answers, one for each call of theirs, that are as demand 3 says:
-- before each row and after the last there is a tree, handed on from row to row, `first` being the first. They are what the rows print. What is printed at the
-- end is a line of names, the entries, a line of names, and the last tree in its lines.
pub record RowsAnswered (d c : ℕ) (s f : Float) (rows : List ArchiveRow) : Type 0 where
  pub first : View (whole d)
  pub answers : RunAnswers d (calls_in d rows)
  pub entries : List Entry
  pub listing : List ℕ
  pub answered : RunAnswered d c (AtEnd d c entries listing) first (nothing (whole d)) (calls_in d rows) answers
  pub rows_are : printed d s (fresh (whole d) c f) 1 rows ≡ rows_told d 1 rows answers
  pub end_is : end_lines d (rows_leave d (fresh (whole d) c f) rows) ≡ sample_names ++ entry_lines entries ++ (names_line ++ listing)

-- For every making line in form whose making is accepted, and for all lines after it, carried out up to the first that is out of form. `printed` and `end_lines`
-- are what the promises of `carry_line` and `print_end` say of these lines; OfCode.antt joins the promises.
abbrev pub ArchivesAnswer : Type 0
ArchivesAnswer = (line : List ℕ) (m : ArchiveMaking) (h : SamplerPlusTree) → making_of_line line ≡ some m → sampled_by m.channels m.capacity (sixteenths_of m.cached) (sixteenths_of m.initial) ≡ Ok h
    → (lines : List (List ℕ)) → RowsAnswered m.channels m.capacity (sixteenths_of m.cached) (sixteenths_of m.initial) (rows_of lines)
