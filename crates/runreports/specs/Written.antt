-- The bytes that a report's answer is written to: of whatever is answered and lent, and of the report at a place of a run. Definitions.
use Rattle.std.specs.Prelude.{◌≡◌, List, [], ◌∷◌, ◌++◌, ℕ, ◌+◌, ◌*◌, get_or, take, Float, Result, Ok, Err}
use Rattle.std.specs.Result.{result_unwrap_or}
use Rattle.std.proofs.lemmas.List.Edits.{sets}
use Rattle.little.specs.Little.{bytes_of}
use Rattle.cuttree.specs.Run.{World}
use Rattle.refusals.specs.declared.Refusal.{Refusal}
use Rattle.refusals.specs.Refusals.{number as refusal_number}
use Rattle.wholetree.specs.Whole.{whole}
use Rattle.treestore.specs.Arrays.{NodeStore}
use Rattle.randomcuttree.specs.declared.RCFTree.{RCFTree}
use Rattle.randomcuttree.specs.State.{State}
use Rattle.answers.specs.Said.{filled}
use Rattle.nodeview.specs.Report.{Report, report_of}
use Rattle.nodeview.specs.Told.{ReportRead, rows_after}
use Rattle.runlayout.specs.Layout.{number, coordinates_at}
use Rattle.runreports.specs.Numbers.{low_half, high_half, report_numbers}

-- ---- of whatever is answered and lent
-- the five numbers of a lent row, and those of rows one after another
abbrev pub five_of : List ℕ → List ℕ
five_of row = get_or row 0 0 ∷ get_or row 1 0 ∷ get_or row 2 0 ∷ low_half (get_or row 3 0) ∷ high_half (get_or row 3 0) ∷ []

abbrev pub lent_numbers : List (List ℕ) → List ℕ
lent_numbers [] = []
lent_numbers (r ∷ rs) = five_of r ++ lent_numbers rs

-- a row that is not written
abbrev pub no_row : List ℕ
no_row = 0 ∷ 0 ∷ 0 ∷ 0 ∷ []

-- the refusal's number, 0 where there is none; how many rows are written
abbrev pub refusal_in : Result ℕ Refusal → ℕ
refusal_in (Ok n) = 0
refusal_in (Err r) = refusal_number r

abbrev pub rows_in : Result ℕ Refusal → ℕ
rows_in r = result_unwrap_or r 0

-- the answer's numbers, with n rows lent
abbrev pub answer_numbers : ℕ → Result ℕ Refusal → List (List ℕ) → List ℕ
answer_numbers n r lent = refusal_in r ∷ rows_in r ∷ filled (5 * n) (lent_numbers (take (rows_in r) lent))

-- ---- of a report
-- What the report x, with n rows lent, leaves: its numbers from the answer number `out` on, and its rows from the front of the working rows. Every other
-- byte and row stays.
pub record ReportWritten (x : Report) (n out : ℕ) (answers : List ℕ) (work : List (List ℕ)) (answers' : List ℕ) (work' : List (List ℕ)) : Type 0 where
  pub numbers : answers' ≡ sets answers (4 * out) (bytes_of (report_numbers n x))
  pub rows : work' ≡ rows_after x work

-- THE REPORT AT THE PLACE p of a run: that of each world whose header and arrays these are.
abbrev pub ReportAt : RCFTree → List (List ℕ) → List Float → List ℕ → List (List Float) → List (List (List Float)) → (run : List ℕ) (p out : ℕ) → List ℕ → List (List ℕ) → List ℕ → List (List ℕ) → Type 0
ReportAt tree nodes cuts copies points boxes run p out answers work answers' work' =
    (d c : ℕ) (s : Float) (W : World (whole d)) (a : NodeStore) (marks : List ℕ) → State d c s W tree a points marks
    → ReportRead a nodes cuts copies boxes → ReportWritten (report_of d c W (number run (p + 1)) (coordinates_at run p)) (number run (p + 1)) out answers work answers' work'
