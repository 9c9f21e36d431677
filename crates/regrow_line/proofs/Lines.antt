-- The lines by a row's numbers are those of its answer. Assumes nothing.
use mathlib.Core.Path.{◌≡◌, refl, ap, ◌∙◌}
use mathlib.Core.Bool.{Bool, false}
use mathlib.Core.Option.{none, some}
use mathlib.Core.List.{List, map}
use Prim.Native.Nat.{ℕ}
use lib.Dec.{eqb}
use lib.ListN.{length, drop, length-map}
use lib.Seq.{take_at}
use lib.Ieee.{Float}
use Rattle.cuttree.specs.Run as Bare
use Rattle.cuttree.specs.Run.{Refusal, index_above, coordinate_count, bad_coordinate, index_is_leaf, never_written, full, few_words, tree_empty, not_held, bad_weight, no_such_node, Answer, refused, written, added, deleted, copies_are, branch_is, box_is}
use Rattle.wholetree.specs.Whole.{whole}
use Rattle.sampledtree.specs.Sampled.{Sampled, SampledAnswer, plain, not_accepted, accepted, arrive, call}
use Rattle.treestore.specs.Arrays.{NodeStore}
use Rattle.refusals.specs.Refusals.{number}
use Rattle.pointstore.specs.Refusals.{refusal_of}
use Rattle.pointstore.specs.Puts.{put_says}
use Rattle.samplerplustree.specs.declared.SamplerPlusTree.{SamplerPlusTree}
use Rattle.samplerplustree.specs.State.{head_of}
use Rattle.samplerplustree.specs.Updates.{update_says}
use Rattle.answers.specs.Said.{filled, put_numbers, count_numbers, reply_width}
use Rattle.nodeview.specs.Report as Reports
use Rattle.nodeview.specs.Told.{refusal_told, numbers_of, report_says, rows_after}
use Rattle.arrivals.specs.Arrived.{arrival_numbers}
use Rattle.lines.specs.Lines.{refused_line, Wrote}
use Rattle.form.specs.Rows.{rest_at}
use Rattle.std.specs.Prelude.{Result}
use Rattle.refusals.specs.declared.Refusal.{Refusal as RowRefusal}
use Rattle.archiverow.specs.declared.Line.{Line}
use Rattle.archiverow.specs.Rows.{ArchiveRow, puts, arrives, reports, beyond, out_of_form, row_of}
use Rattle.archiverow.specs.Read.{answer_at, read_line}
use Rattle.archivecalls.specs.Carried.{report_to, rows_left, row_numbers, Carries}
use Rattle.archivelines.specs.declared.Asks.TheVariants.{Nothing, Arrival, Report}
use Rattle.archivelines.specs.Answers.{report_lines, arrival_line, answer_lines}
use Rattle.regrow_line.specs.Answered.{put_lines, arrival_lines, lines_of_report, answered, in_form, LineCarries, asks_read, is_read, four_of}

-- ---- no refusal has the number 0
refusal : (x : Refusal) → eqb (number (refusal_of x)) 0 ≡ false
refusal index_above = refl
refusal coordinate_count = refl
refusal bad_coordinate = refl
refusal index_is_leaf = refl
refusal never_written = refl
refusal full = refl
refusal few_words = refl
refusal tree_empty = refl
refusal not_held = refl
refusal bad_weight = refl
refusal no_such_node = refl

report_refusal : (x : Reports.ReportRefusal) → eqb (number (refusal_told x)) 0 ≡ false
report_refusal Reports.coordinate_count = refl
report_refusal Reports.bad_coordinate = refl
report_refusal Reports.tree_empty = refl
report_refusal Reports.few_rows = refl

report_line : (x : Reports.ReportRefusal) (r : ℕ) → refused_line (number (refusal_told x)) r ≡ refused_line (Reports.report_number x) r
report_line Reports.coordinate_count r = refl
report_line Reports.bad_coordinate r = refl
report_line Reports.tree_empty r = refl
report_line Reports.few_rows r = refl

-- ---- the lines of each answer
by_put : (d : ℕ) (x : Answer (whole d)) (lent : List (List ℕ)) (r : ℕ) → answer_lines Nothing (four_of (filled reply_width (put_numbers (put_says d x)))) lent r ≡ put_lines (put_says d x) r
unfolding answer_lines filled
by_put d (refused x) lent r = rw (refusal x)
by_put d written lent r = refl
by_put d (added j n) lent r = refl
by_put d (deleted j) lent r = refl
by_put d (copies_are n) lent r = refl
by_put d (branch_is b) lent r = refl
by_put d (box_is b) lent r = refl

by_arrival : (d : ℕ) (h : SamplerPlusTree) (x : SampledAnswer (whole d)) (lent : List (List ℕ)) (r : ℕ) → answer_lines Arrival (four_of (filled reply_width (arrival_numbers (update_says d h x)))) lent r ≡ arrival_lines (update_says d h x) r
unfolding answer_lines arrival_line filled
by_arrival d h (plain (refused x)) lent r = rw (refusal x)
by_arrival d h not_accepted lent r = refl
by_arrival d h (accepted j none) lent r = refl
by_arrival d h (accepted j (some e)) lent r = refl
by_arrival d h (plain written) lent r = refl
by_arrival d h (plain (added j n)) lent r = refl
by_arrival d h (plain (deleted j)) lent r = refl
by_arrival d h (plain (copies_are n)) lent r = refl
by_arrival d h (plain (branch_is b)) lent r = refl
by_arrival d h (plain (box_is b)) lent r = refl

by_report : (x : Reports.Report) (lent : List (List ℕ)) (r : ℕ) → answer_lines Report (four_of (filled reply_width (count_numbers (report_says x)))) (rows_after x lent) r ≡ lines_of_report x r
unfolding answer_lines filled
by_report (Reports.refused x) lent r = rw (report_refusal x) (report_line x r)
by_report (Reports.rows xs) lent r = ap report_lines (take_at (map numbers_of xs) (drop (length xs) lent) (length xs) (length-map xs numbers_of))

-- ---- of a row
by_row : (d : ℕ) (s : Float) (X : Sampled (whole d)) (row : ArchiveRow) (k : ℕ) (lent : List (List ℕ)) (r : ℕ)
    → answer_lines (asks_read (answer_at k row)) (four_of (filled reply_width (row_numbers d s X row))) (rows_left d X row lent) r ≡ answered d s X row r
unfolding answer_lines filled
by_row d s X (puts i xs) k lent r = by_put d (Bare.call (whole d) X.capacity X.world (Bare.put i xs)).0 lent r
by_row d s X (arrives i w x ws) k lent r = by_arrival d (head_of d s (call (whole d) X (arrive i w x ws)).1) (call (whole d) X (arrive i w x ws)).0 lent r
by_row d s X (reports xs) k lent r = by_report (report_to d X xs) lent r
by_row d s X beyond k lent r = refl
by_row d s X out_of_form k lent r = refl

read_row_lem : (row : ArchiveRow) (k : ℕ) → is_read (answer_at k row) ≡ in_form row
read_row_lem (puts i xs) k = refl
read_row_lem (arrives i w x ws) k = refl
read_row_lem (reports xs) k = refl
read_row_lem beyond k = refl
read_row_lem out_of_form k = refl

-- ---- of a line: what was read of it, what was carried out, and what was written
pub line_done : (line : List ℕ) (read : Result Line RowRefusal) (number at : ℕ) (h : SamplerPlusTree) (a : NodeStore) (points : List (List Float)) (marks : List ℕ) (weights : List Float) (held : List ℕ) (rows : List (List ℕ)) (out : List ℕ)
    (h' : SamplerPlusTree) (a' : NodeStore) (points' : List (List Float)) (marks' : List ℕ) (weights' : List Float) (held' : List ℕ) (rows' : List (List ℕ)) (reply : List ℕ) (end : ℕ) (on : Bool) (out' : List ℕ)
    → read ≡ read_line line → Carries (row_of line) h a points marks weights held rows h' a' points' marks' weights' held' rows' reply
    → Wrote out at (answer_lines (asks_read read) (four_of reply) rows' number) end out' → on ≡ is_read read
    → LineCarries (row_of line) number at h a points marks weights held rows out (record { tree = h'; end = end; goes_on = on }) a' points' marks' weights' held' rows' out'
unfolding read_line
line_done line read number at h a points marks weights held rows out h' a' points' marks' weights' held' rows' reply end on out' e C w g d s X S =
    let D = C d s X S in
    record {
      wrote = rw (e, D.reply_is, D.rows_are, by_row d s X (row_of line) (rest_at line) rows number) at w;
      on = g ∙ ap is_read e ∙ read_row_lem (row_of line) (rest_at line);
      rows_are = D.rows_are;
      state = D.state;
    }
