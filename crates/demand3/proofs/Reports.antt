-- A report that is not refused has a row for each node of the walk that the queries give. Assumes nothing.
use mathlib.Core.Path.{◌≡◌, refl, sym, ap, ◌∙◌, subst}
use mathlib.Core.Bool.{not}
use mathlib.Core.Option.{Option, none, some}
use mathlib.Core.List.{List}
use Prim.Native.Nat.{ℕ}
use lib.Dec.{ltb}
use lib.ListN.{length}
use lib.Ieee.{Float}
use Rattle.std.specs.Prelude.{Ok}
use Rattle.cuttree.specs.Tree.{Tree, id, walk}
use Rattle.cuttree.specs.Run.{World}
use Rattle.cuttree.specs.Counts.{Counts}
use Rattle.cuttree.specs.Demand3.{view_of}
use Rattle.cuttree.proofs.Tests.{by_cond, nonsense}
use Rattle.cuttree.proofs.Nodes.{here}
use Rattle.cuttree.proofs.Keeps.{Inv}
use Rattle.cuttree.proofs.Views.{walk_asked}
use Rattle.cuttree.proofs.Roots.{is_root}
use Rattle.wholetree.specs.Reading.{Reading, reading}
use Rattle.wholetree.specs.Whole.{whole}
use Rattle.wholetree.proofs.Readings.{tab_length}
use Rattle.wholetree.proofs.Laws.{whole_laws}
use Rattle.nodeview.specs.Report.{ReportRow, Report, refused, rows, rows_of, row_at, report_in, report_of}
use Rattle.nodeview.specs.Told.{report_says}
use Rattle.demand3.specs.Answered.{ReportClaim}

module _ (d c : ℕ) (K : Counts (whole d)) (n : ℕ) (xs : List Float) where
  -- whatever else is said of a report that is not refused
  abbrev Told : World (whole d) → Report → Type 0
  Told W x = (rs : List ReportRow) → x ≡ rows rs → ReportClaim d c (view_of (whole d) c W K) xs (length rs)

  in_tree : (f : ℕ → Option Reading) (o : Option (Tree (whole d))) (u : List (ℕ × ℕ)) → Inv (whole d) c (record { table = f; tree = o; free = u }) K
      → Told (record { table = f; tree = o; free = u }) (report_in d c o n (reading xs))
  in_tree f none u I = λ rs e. nonsense (cc)
  in_tree f (some t) u I =
      let p = reading xs in
      by_cond (Told (record { table = f; tree = some t; free = u })) (ltb n (walk (whole d) t p)) _ _ (λ _ rs e. nonsense (cc))
      (λ _ rs e.
      let same : rows_of d c t p ≡ rs = cc in
      let long : walk (whole d) t p ≡ length rs = sym (tab_length (walk (whole d) t p) (row_at d c t p)) ∙ ap length same in
      (id (whole d) c t, is_root (whole d) c (whole_laws d) f t u K I, rw (← long) (walk_asked (whole d) c (whole_laws d) f t u K I p t here)))

  pub report_rows : (W : World (whole d)) → Inv (whole d) c W K → Told W (report_of d c W n xs)
  report_rows W I =
      by_cond (Told W) (not ((whole d).counted xs)) _ _ (λ _ rs e. nonsense (cc))
      (λ _. by_cond (Told W) (not ((whole d).good xs)) _ _ (λ _ rs e. nonsense (cc))
      (λ _. in_tree W.table W.tree W.free I))

  says_rows : (W : World (whole d)) (x : Report) → Told W x → (m : ℕ) → report_says x ≡ Ok m → ReportClaim d c (view_of (whole d) c W K) xs m
  says_rows W (refused r) T m e = nonsense (cc)
  says_rows W (rows rs) T m e = let same : length rs ≡ m = cc in subst (ReportClaim d c (view_of (whole d) c W K) xs) same (T rs refl)

  -- the same of the answer that says it
  pub answer_rows : (W : World (whole d)) → Inv (whole d) c W K → (m : ℕ) → report_says (report_of d c W n xs) ≡ Ok m → ReportClaim d c (view_of (whole d) c W K) xs m
  answer_rows W I = says_rows W (report_of d c W n xs) (report_rows W I)
