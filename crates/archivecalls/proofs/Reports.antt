-- A report of the first coordinates of a long query is that of all. Assumes nothing.
use Rattle.std.specs.Prelude.{Result}
use Rattle.refusals.specs.declared.Refusal.{Refusal}
use mathlib.Core.Path.{◌≡◌, sym, ap, ◌∙◌}
use mathlib.Core.Bool.{not}
use mathlib.Core.List.{List}
use Prim.Native.Nat.{ℕ, ◌≤◌, ◌+◌}
use native.Mathlib.Omega.{arith}
use lib.Dec.{leb}
use lib.ListN.{length, take, length-take}
use lib.Seq.{take_all}
use lib.Ieee.{Float}
use borrow.Author.Tests.{leb-true, leb-false, ne_eqb}
use Rattle.limits.specs.Limits.{width, capacity_limit}
use Rattle.cuttree.specs.Run.{World}
use Rattle.cuttree.proofs.Tests.{by-test, cond_true}
use Rattle.wholetree.specs.Whole.{whole}
use Rattle.randomcuttree.specs.declared.RCFTree.{RCFTree}
use Rattle.answers.specs.Said.{count_numbers, filled, reply_width}
use Rattle.nodeview.specs.Report.{Report, refused, coordinate_count, report_of}
use Rattle.nodeview.specs.Told.{report_says, rows_after, ReportTold}
use Rattle.archivecalls.specs.Carried.{ReportDone}

module _ (d c : ℕ) (W : World (whole d)) (n : ℕ) where
  -- a list of another length is refused whatever is in it
  uncounted : (xs : List Float) → (length xs ≡ d → ⊥) → report_of d c W n xs ≡ refused coordinate_count
  uncounted xs h = cond_true _ _ _ (ap not (ne_eqb (length xs) d h))

  -- so long a list is longer than any tree's
  report_alike : d ≤ width → (xs : List Float) → report_of d c W n (take (width + 1) xs) ≡ report_of d c W n xs
  report_alike h xs = by-test (leb (length xs) (width + 1))
      (λ t. ap (λ (y : List Float). report_of d c W n y) (take_all (width + 1) xs (leb-true (length xs) (width + 1) t)))
      (λ t. let long = leb-false (length xs) (width + 1) t in uncounted (take (width + 1) xs) (λ x. omega (arith, x, length-take (width + 1) xs, h, long)) ∙ sym (uncounted xs (λ x. omega (arith, x, h, long))))

pub report_does : (tree : RCFTree) (nodes : List (List ℕ)) (cuts : List Float) (copies : List ℕ) (points : List (List Float)) (boxes : List (List (List Float))) (first xs : List Float) (rows rows' : List (List ℕ)) (r : Result ℕ Refusal) (reply : List ℕ)
    → length rows ≡ capacity_limit → first ≡ take (width + 1) xs → ReportTold tree nodes cuts copies points boxes first rows r rows' → reply ≡ filled reply_width (count_numbers r)
    → ReportDone tree nodes cuts copies points boxes xs rows rows' reply
report_does tree nodes cuts copies points boxes first xs rows rows' r reply l e told f d c s W a marks S R =
    let D = told d c s W a marks S R in
    let same : report_of d c W (length rows) first ≡ report_of d c W capacity_limit xs =
    ap (λ (m : ℕ). report_of d c W m first) l ∙ ap (report_of d c W capacity_limit) e ∙ report_alike d c W capacity_limit S.limits.1 xs in
    record {
      reply_is = f ∙ ap (λ y. filled reply_width (count_numbers y)) (D.answer ∙ ap report_says same);
      rows_are = D.after ∙ ap (λ (y : Report). rows_after y rows) same;
    }
