-- The walk report of a query: a row for each node of its walk, or document 01's refusal. Definitions.
use Rattle.std.specs.Prelude.{Bool, cond, not, List, ℕ, ◌-◌, ltb, Float}
use Rattle.std.proofs.Math.Option.{Option, none, some}
use Rattle.limits.specs.Limits.{width}
use Rattle.readings.specs.Number.{nought}
use Rattle.cut.specs.Sums.{one}
use Rattle.probability.specs.Probability.{probability}
use Rattle.cuttree.specs.Tree.{Tree, leaf, branch, id, height, walk, mass}
use Rattle.cuttree.specs.Walk.{sub}
use Rattle.cuttree.specs.Run.{World}
use Rattle.wholetree.specs.Reading.{Reading}
use Rattle.wholetree.specs.Whole.{whole, tab}
use Rattle.layout.specs.Slots.{low_of, high_of}

-- 'id, depth, mass, probability (f64)'
pub record ReportRow : Type 0 where
  pub id : ℕ
  pub depth : ℕ
  pub mass : ℕ
  pub probability : Float

-- 'report: 6; 7; 12; 15 fewer rows lent than the walk has'
pub data ReportRefusal : Type 0 where
  coordinate_count : ReportRefusal
  bad_coordinate : ReportRefusal
  tree_empty : ReportRefusal
  few_rows : ReportRefusal

abbrev pub report_number : ReportRefusal → ℕ
report_number coordinate_count = 6
report_number bad_coordinate = 7
report_number tree_empty = 12
report_number few_rows = 15

pub data Report : Type 0 where
  refused : ReportRefusal → Report
  rows : List ReportRow → Report

-- refused if the condition holds
abbrev pub refuse : ReportRefusal → Bool → Report → Report
refuse r b x = cond b (refused r) x

-- a tree of d channels and capacity c
module _ (d c : ℕ) where
  -- 'At the leaf 0 if equal, else 1. Above: 0 if the query is inside; otherwise', by request A.7, 'the single rounded division of the computed sum by the f64 sum of it and the
  -- box's sides'. Above, by the Rust's operations on the node's box; that they come to this, and up to 8 channels to document 01's S / (W + S), is `ChancesDivided` (Laws.antt).
  abbrev pub chance : Tree (whole d) → Reading → Float
  chance (leaf i q n) p = cond ((whole d).same q p) nought one
  chance (branch b k l r) p = probability (low_of d c (branch b k l r)) (high_of d c (branch b k l r)) p.row width

  -- the row of the walk's node of height m. The root's depth is 0, and each node's is one more than that of the node above it.
  abbrev pub row_at : Tree (whole d) → Reading → ℕ → ReportRow
  row_at t p m = record {
    id = id (whole d) c (sub (whole d) t m p);
    depth = height (whole d) t p - m;
    mass = mass (whole d) (sub (whole d) t m p);
    probability = chance (sub (whole d) t m p) p;
  }

  -- 'rows from leaf to root as `traverse` shows them'
  abbrev pub rows_of : Tree (whole d) → Reading → List ReportRow
  rows_of t p = tab (walk (whole d) t p) (row_at t p)

  -- THE REPORT, with n rows lent, of the coordinates xs: each refusal from left to right
  abbrev pub report_in : Option (Tree (whole d)) → ℕ → Reading → Report
  report_in none n p = refused tree_empty
  report_in (some t) n p = refuse few_rows (ltb n (walk (whole d) t p)) (rows (rows_of t p))

  abbrev pub report_of : World (whole d) → ℕ → List Float → Report
  report_of W n xs =
      refuse coordinate_count (not ((whole d).counted xs))
      (refuse bad_coordinate (not ((whole d).good xs))
      (report_in W.tree n ((whole d).point xs)))
