-- What a report answers, refusals by name, and the lent rows after it; and what it asks of its caller. Definitions.
use Rattle.std.specs.Prelude.{◌≡◌, refl, List, [], ◌∷◌, ◌++◌, map, ℕ, length, drop, Float, Result, Ok, Err}
use Rattle.std.specs.Float.{binary64}
use Rattle.std.specs.Float.Ieee.{to_bits}
use Rattle.cuttree.specs.Run.{World}
use Rattle.wholetree.specs.Whole.{whole}
use Rattle.treestore.specs.Arrays.{NodeStore}
use Rattle.randomcuttree.specs.declared.RCFTree.{RCFTree}
use Rattle.randomcuttree.specs.State.{State, SomeState}
use Rattle.refusals.specs.declared.Refusal.{Refusal}
use Rattle.refusals.specs.Refusals.{number}
use Rattle.refusals.specs.declared.Refusal.TheVariants.{CoordinateCount, BadCoordinate, TreeEmpty, FewRows}
use Rattle.nodeview.specs.Report.{ReportRow, ReportRefusal, report_number, coordinate_count, bad_coordinate, tree_empty, few_rows, Report, refused, rows, report_of}

-- a row as the four numbers of a lent row: the probability by its bits
abbrev pub numbers_of : ReportRow → List ℕ
numbers_of r = r.id ∷ r.depth ∷ r.mass ∷ to_bits binary64 r.probability ∷ []

-- the refusals of a report as the code names them
abbrev pub refusal_told : ReportRefusal → Refusal
refusal_told coordinate_count = CoordinateCount
refusal_told bad_coordinate = BadCoordinate
refusal_told tree_empty = TreeEmpty
refusal_told few_rows = FewRows

-- each has the number of its own
pub same_report_number : (r : ReportRefusal) → number (refusal_told r) ≡ report_number r
same_report_number coordinate_count = refl
same_report_number bad_coordinate = refl
same_report_number tree_empty = refl
same_report_number few_rows = refl

-- how many rows there are, or the refusal
abbrev pub report_says : Report → Result ℕ Refusal
report_says (refused r) = Err (refusal_told r)
report_says (rows rs) = Ok (length rs)

-- the lent rows after it: the report's rows, and the rest as it was; a refused report writes nothing
abbrev pub rows_after : Report → List (List ℕ) → List (List ℕ)
rows_after (refused r) lent = lent
rows_after (rows rs) lent = map numbers_of rs ++ drop (length rs) lent

-- the arrays that a report is read from
pub record ReportRead (a : NodeStore) (nodes : List (List ℕ)) (cuts : List Float) (copies : List ℕ) (boxes : List (List (List Float))) : Type 0 where
  pub nodes_are : a.nodes ≡ nodes
  pub cuts_are : a.cuts ≡ cuts
  pub copies_are : a.copies ≡ copies
  pub boxes_are : a.boxes ≡ boxes

-- what a report answers and leaves of the lent rows
pub record Reported (x : Report) (lent : List (List ℕ)) (r : Result ℕ Refusal) (lent' : List (List ℕ)) : Type 0 where
  pub answer : r ≡ report_says x
  pub after : lent' ≡ rows_after x lent

-- A report of the coordinates xs: that of each world whose header and arrays these are.
abbrev pub ReportTold : RCFTree → List (List ℕ) → List Float → List ℕ → List (List Float) → List (List (List Float)) → List Float → List (List ℕ) → Result ℕ Refusal → List (List ℕ) → Type 0
ReportTold tree nodes cuts copies points boxes xs lent r lent' =
    (d c : ℕ) (s : Float) (W : World (whole d)) (a : NodeStore) (marks : List ℕ) → State d c s W tree a points marks
    → ReportRead a nodes cuts copies boxes → Reported (report_of d c W (length lent) xs) lent r lent'

-- What a report asks of its caller: that the header and these arrays are part of a state that a making and its calls leave.
pub record SomeReportRead (tree : RCFTree) (nodes : List (List ℕ)) (cuts : List Float) (copies : List ℕ) (points : List (List Float)) (boxes : List (List (List Float))) : Type 0 where
  pub lent : NodeStore
  pub marks : List ℕ
  pub read : ReportRead lent nodes cuts copies boxes
  pub state : SomeState tree lent points marks
