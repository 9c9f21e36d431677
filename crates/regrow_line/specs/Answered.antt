-- What a line of an archive prints and leaves, in the words of the sampled tree. Definitions.
use Rattle.std.specs.Prelude.{◌≡◌, Bool, true, false, List, [], ◌∷◌, map, ℕ, get_or, Float, Option, None, Some, Result, Ok, Err}
use Rattle.cuttree.specs.Run as Bare
use Rattle.wholetree.specs.Whole.{whole}
use Rattle.sampledtree.specs.Sampled.{Sampled, arrive, call}
use Rattle.treestore.specs.Arrays.{NodeStore}
use Rattle.refusals.specs.declared.Refusal.{Refusal}
use Rattle.refusals.specs.Refusals.{number}
use Rattle.pointstore.specs.Puts.{put_says}
use Rattle.samplerplustree.specs.declared.SamplerPlusTree.{SamplerPlusTree}
use Rattle.samplerplustree.specs.declared.Accepted.{Accepted}
use Rattle.samplerplustree.specs.State.{SampledState, head_of}
use Rattle.samplerplustree.specs.Updates.{update_says}
use Rattle.nodeview.specs.Report.{Report, refused, rows as report_rows, report_number}
use Rattle.nodeview.specs.Told.{numbers_of}
use Rattle.lines.specs.Lines.{refused_line, Wrote}
use Rattle.refusals.specs.declared.Refusal.TheVariants.{OutOfForm}
use Rattle.archiverow.specs.declared.Line.{Line}
use Rattle.archiverow.specs.declared.Line.TheVariants.{Puts, Arrives, Reports}
use Rattle.archiverow.specs.Rows.{ArchiveRow, puts, arrives, reports, beyond, out_of_form}
use Rattle.archivecalls.specs.Carried.{out_number, beyond_number, report_to, rows_left, row_leaves}
use Rattle.archivelines.specs.declared.Asks.{Asks}
use Rattle.archivelines.specs.declared.Asks.TheVariants as Asked
use Rattle.archivelines.specs.Answers.{passed_line, kept_line, evicted_line, report_lines}
use Rattle.regrow_line.specs.declared.Done.{Done}

-- ---- what is printed
-- of the put, the arrival and the report of row r: 'A refused row prints `refused N R`'; a put that is done prints nothing, and a report its rows
abbrev pub put_lines : Result Unit Refusal → ℕ → List ℕ
put_lines (Ok u) r = []
put_lines (Err x) r = refused_line (number x) r

abbrev pub accepted_lines : (leaf : ℕ) (evicted : Option ℕ) → ℕ → List ℕ
accepted_lines j None r = kept_line j r
accepted_lines j (Some e) r = evicted_line j e r

abbrev pub arrival_lines : Result (Option Accepted) Refusal → ℕ → List ℕ
arrival_lines (Ok (Some a)) r = accepted_lines a.leaf a.evicted r
arrival_lines (Ok None) r = passed_line r
arrival_lines (Err x) r = refused_line (number x) r

abbrev pub lines_of_report : Report → ℕ → List ℕ
lines_of_report (refused x) r = refused_line (report_number x) r
lines_of_report (report_rows xs) r = report_lines (map numbers_of xs)

-- THE ANSWER of row r on the sampled tree X of d channels and the cached share s
abbrev pub answered : (d : ℕ) → Float → Sampled (whole d) → ArchiveRow → ℕ → List ℕ
answered d s X (puts i xs) r = put_lines (put_says d (Bare.call (whole d) X.capacity X.world (Bare.put i xs)).0) r
answered d s X (arrives i w x ws) r = arrival_lines (update_says d (head_of d s (call (whole d) X (arrive i w x ws)).1) (call (whole d) X (arrive i w x ws)).0) r
answered d s X (reports xs) r = lines_of_report (report_to d X xs) r
answered d s X beyond r = refused_line beyond_number r
answered d s X out_of_form r = refused_line out_number r

-- a row out of form prints `refused 17 R` and ends all; after one that names words beyond the stream's end, `refused 22 R`, the rows go on
abbrev pub in_form : ArchiveRow → Bool
in_form (puts i xs) = true
in_form (arrives i w x ws) = true
in_form (reports xs) = true
in_form beyond = true
in_form out_of_form = false

-- ---- a line carried out
-- what it prints and leaves of X: its answer from the place `at` on, and header, arrays, table, sample and lent rows after it
pub record LineDone (d : ℕ) (s : Float) (X : Sampled (whole d)) (row : ArchiveRow) (r at : ℕ) (rows : List (List ℕ)) (out : List ℕ) (done : Done) (a : NodeStore) (points : List (List Float)) (marks : List ℕ) (weights : List Float) (held : List ℕ) (rows' : List (List ℕ)) (out' : List ℕ) : Type 0 where
  pub wrote : Wrote out at (answered d s X row r) done.end out'
  pub on : done.goes_on ≡ in_form row
  pub rows_are : rows' ≡ rows_left d X row rows
  pub state : SampledState d s (row_leaves d X row) done.tree a points marks weights held

-- A line, whichever sampled tree's the lent state is: header, arrays, table, sample, lent rows and buffer before it, then after it.
abbrev pub LineCarries : ArchiveRow → ℕ → ℕ → SamplerPlusTree → NodeStore → List (List Float) → List ℕ → List Float → List ℕ → List (List ℕ) → List ℕ → Done → NodeStore → List (List Float) → List ℕ → List Float → List ℕ → List (List ℕ) → List ℕ → Type 0
LineCarries row r at h a points marks weights held rows out done a' points' marks' weights' held' rows' out' =
    (d : ℕ) (s : Float) (X : Sampled (whole d)) → SampledState d s X h a points marks weights held → LineDone d s X row r at rows out done a' points' marks' weights' held' rows' out'

-- ---- by what was read of it
abbrev pub asks_read : Result Line Refusal → Asks
asks_read (Ok (Puts i k)) = Asked.Nothing
asks_read (Ok (Arrives i k)) = Asked.Arrival
asks_read (Ok (Reports k)) = Asked.Report
asks_read (Err r) = Asked.Nothing

abbrev pub is_read : Result Line Refusal → Bool
is_read (Err OutOfForm) = false
is_read _ = true

-- the first four numbers of a reply: no answer of a row has more
abbrev pub four_of : List ℕ → List ℕ
four_of n = get_or n 0 0 ∷ get_or n 1 0 ∷ get_or n 2 0 ∷ get_or n 3 0 ∷ []
