-- A row of an archive as a call on a sampled tree: what it answers, as numbers, and what it leaves. Definitions.
use Rattle.std.specs.Prelude.{◌≡◌, List, [], ◌∷◌, ℕ, Float}
use Rattle.limits.specs.Limits.{capacity_limit}
use Rattle.cuttree.specs.Run as Bare
use Rattle.cuttree.specs.Run.{World}
use Rattle.wholetree.specs.Whole.{whole}
use Rattle.sampledtree.specs.Sampled.{Sampled, SampledCall, put, arrive, call, sampled_after}
use Rattle.treestore.specs.Arrays.{NodeStore}
use Rattle.pointstore.specs.Puts.{put_says}
use Rattle.randomcuttree.specs.declared.RCFTree.{RCFTree}
use Rattle.randomcuttree.specs.State.{State}
use Rattle.samplerplustree.specs.declared.SamplerPlusTree.{SamplerPlusTree}
use Rattle.samplerplustree.specs.State.{SampledState, head_of}
use Rattle.samplerplustree.specs.Updates.{update_says}
use Rattle.answers.specs.Said.{filled, put_numbers, count_numbers, reply_width}
use Rattle.nodeview.specs.Report.{Report, report_of}
use Rattle.nodeview.specs.Told.{ReportRead, report_says, rows_after}
use Rattle.arrivals.specs.Arrived.{arrival_numbers}
use Rattle.archiverow.specs.Rows.{ArchiveRow, puts, arrives, reports, beyond, out_of_form}

-- Document 01, 'Printed tree': 'a bad text prints only `refused 17 R`'
abbrev pub out_number : ℕ
out_number = 17

-- Document 02, A.6: '22: a start at 2^35 or above, or a stretch running past word 2^35 − 1'
abbrev pub beyond_number : ℕ
beyond_number = 22

-- a sampled tree of d channels
module _ (d : ℕ) where
  -- The sampled calls of a row: one of a put and of an arrival. 'Queries and reports change none of these', and a row that names words beyond the stream's
  -- end is no call, nor is one out of form.
  abbrev pub calls_of : ArchiveRow → List (SampledCall (whole d))
  calls_of (puts i xs) = put i xs ∷ []
  calls_of (arrives i w x ws) = arrive i w x ws ∷ []
  calls_of (reports xs) = []
  calls_of beyond = []
  calls_of out_of_form = []

  -- so the sampled tree that a row leaves
  abbrev pub row_leaves : Sampled (whole d) → ArchiveRow → Sampled (whole d)
  row_leaves X row = sampled_after (whole d) X (calls_of row)

  -- the report of a query, with as many rows lent as any walk has nodes
  abbrev pub report_to : Sampled (whole d) → List Float → Report
  report_to X xs = report_of d X.capacity X.world capacity_limit xs

  -- the lent rows after a row: a report's own are written from the front, and the others stay
  abbrev pub rows_left : Sampled (whole d) → ArchiveRow → List (List ℕ) → List (List ℕ)
  rows_left X (puts i xs) rows = rows
  rows_left X (arrives i w x ws) rows = rows
  rows_left X (reports xs) rows = rows_after (report_to X xs) rows
  rows_left X beyond rows = rows
  rows_left X out_of_form rows = rows

  -- what a row answers, of a tree of the cached share s: 'refusal'; of an arrival what became of it, its leaf and the evicted index; of a report how many rows
  abbrev pub row_numbers : Float → Sampled (whole d) → ArchiveRow → List ℕ
  row_numbers s X (puts i xs) = put_numbers (put_says d (Bare.call (whole d) X.capacity X.world (Bare.put i xs)).0)
  row_numbers s X (arrives i w x ws) = arrival_numbers (update_says d (head_of d s (call (whole d) X (arrive i w x ws)).1) (call (whole d) X (arrive i w x ws)).0)
  row_numbers s X (reports xs) = count_numbers (report_says (report_to X xs))
  row_numbers s X beyond = beyond_number ∷ []
  row_numbers s X out_of_form = out_number ∷ []

-- what a row answers and leaves of the sampled tree X: header, arrays, table, sample, lent rows and reply after it
pub record Carried (d : ℕ) (s : Float) (X : Sampled (whole d)) (row : ArchiveRow) (rows : List (List ℕ)) (h : SamplerPlusTree) (a : NodeStore) (points : List (List Float)) (marks : List ℕ) (weights : List Float) (held : List ℕ) (rows' : List (List ℕ)) (reply : List ℕ) : Type 0 where
  pub reply_is : reply ≡ filled reply_width (row_numbers d s X row)
  pub rows_are : rows' ≡ rows_left d X row rows
  pub state : SampledState d s (row_leaves d X row) h a points marks weights held

-- A row, whichever sampled tree's the lent state is: header, arrays, table, sample and lent rows before it, then after it, and the reply.
abbrev pub Carries : ArchiveRow → SamplerPlusTree → NodeStore → List (List Float) → List ℕ → List Float → List ℕ → List (List ℕ) → SamplerPlusTree → NodeStore → List (List Float) → List ℕ → List Float → List ℕ → List (List ℕ) → List ℕ → Type 0
Carries row h a points marks weights held rows h' a' points' marks' weights' held' rows' reply =
    (d : ℕ) (s : Float) (X : Sampled (whole d)) → SampledState d s X h a points marks weights held → Carried d s X row rows h' a' points' marks' weights' held' rows' reply

-- the numbers and the lent rows of the report x
pub record ReportGiven (x : Report) (rows rows' : List (List ℕ)) (reply : List ℕ) : Type 0 where
  pub reply_is : reply ≡ filled reply_width (count_numbers (report_says x))
  pub rows_are : rows' ≡ rows_after x rows

-- a report of the coordinates xs, that of each world whose header and arrays these are
abbrev pub ReportDone : RCFTree → List (List ℕ) → List Float → List ℕ → List (List Float) → List (List (List Float)) → List Float → (rows rows' : List (List ℕ)) → List ℕ → Type 0
ReportDone tree nodes cuts copies points boxes xs rows rows' reply =
    (d c : ℕ) (s : Float) (W : World (whole d)) (a : NodeStore) (marks : List ℕ) → State d c s W tree a points marks
    → ReportRead a nodes cuts copies boxes → ReportGiven (report_of d c W capacity_limit xs) rows rows' reply
