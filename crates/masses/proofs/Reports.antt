-- The rows of a report have the masses of their nodes. Assumes nothing.
use mathlib.Core.Path.{◌≡◌, refl, sym, ap, ◌∙◌, subst}
use mathlib.Core.Bool.{not}
use mathlib.Core.Option.{Option, none, some}
use mathlib.Core.List.{List, [], ◌++◌}
use Prim.Native.Nat.{ℕ, ◌-◌, ◌<◌}
use native.Mathlib.Omega.{arith}
use lib.Dec.{ltb}
use lib.ListN.{length, get_or, drop, get_or-append}
use lib.Ieee.{Float}
use Rattle.std.specs.Prelude.{Ok}
use Rattle.cuttree.specs.Tree.{Tree, mass, height, walk}
use Rattle.cuttree.specs.Walk.{sub}
use Rattle.cuttree.specs.Run.{World}
use Rattle.cuttree.proofs.Tests.{by_cond, nonsense}
use Rattle.cuttree.proofs.Heights.{sub_top}
use Rattle.wholetree.specs.Reading.{Reading, reading}
use Rattle.wholetree.specs.Whole.{whole, tab}
use Rattle.wholetree.proofs.Readings.{tab_length, tab_at}
use Rattle.layout.specs.Slots.{field}
use Rattle.layout.proofs.Replaced.{in_sub}
use Rattle.treestore.specs.Arrays.{NodeStore}
use Rattle.randomcuttree.specs.declared.RCFTree.{RCFTree}
use Rattle.randomcuttree.specs.State.{State}
use Rattle.randomcuttree.proofs.Parts.{total_is}
use Rattle.nodeview.specs.Report.{Report, rows, rows_of, row_at, report_in, report_of}
use Rattle.nodeview.specs.Told.{numbers_of, report_says, rows_after, ReportTold}
use Rattle.nodeview.proofs.Fronts.{map_tab}
use Rattle.masses.specs.Masses.{Weighs}
use Rattle.masses.proofs.Nodes.{node_weighs}

module _ {d c : ℕ} {s : Float} {W : World (whole d)} {tree : RCFTree} {a : NodeStore} {points : List (List Float)} {marks : List ℕ} (S : State d c s W tree a points marks) (lent : List (List ℕ)) where
  abbrev Rowed : ℕ → List (List ℕ) → Type 0
  Rowed n after = ((i : ℕ) → i < n → Weighs tree a (field after i 0) (field after i 2)) × (field after (n - 1) 2 ≡ tree.total)

  -- whatever report x is, if it is not refused
  abbrev Told : Report → Type 0
  Told x = (n : ℕ) (after : List (List ℕ)) → Ok n ≡ report_says x → after ≡ rows_after x lent → Rowed n after

  module _ {t : Tree (whole d)} (T : W.tree ≡ some t) (p : Reading) where
    row_at_lem : (i : ℕ) → i < walk (whole d) t p → get_or (rows_after (rows (rows_of d c t p)) lent) i [] ≡ numbers_of (row_at d c t p i)
    row_at_lem i l =
        let n = walk (whole d) t p in
        let row : ℕ → List ℕ = λ j. numbers_of (row_at d c t p j) in
        let rest = drop (length (rows_of d c t p)) lent in
        ap (λ (y : List (List ℕ)). get_or (y ++ rest) i []) (map_tab numbers_of n (row_at d c t p))
        ∙ get_or-append (tab n row) rest [] i (subst (λ (m : ℕ). i < m) (sym (tab_length n row)) l) ∙ tab_at n row i [] l

    rows_weigh : Told (rows (rows_of d c t p))
    rows_weigh n after e f =
        let long : n ≡ walk (whole d) t p = cc (tab_length (walk (whole d) t p) (row_at d c t p)) in
        let root : n - 1 ≡ height (whole d) t p = omega arith in
        rw f (
          λ i l. rw (row_at_lem i (omega arith)) (node_weighs S T (sub (whole d) t i p) (in_sub d c i p t (omega arith))),
          ap (λ (y : List ℕ). get_or y 2 0) (row_at_lem (n - 1) (omega arith)) ∙ ap (λ (m : ℕ). mass (whole d) (sub (whole d) t m p)) root
              ∙ ap (mass (whole d)) (sub_top (whole d) t p) ∙ sym (rw T at (total_is S)),
        )

  in_tree : (o : Option (Tree (whole d))) → W.tree ≡ o → (p : Reading) → Told (report_in d c o (length lent) p)
  in_tree none T p = λ n after e f. nonsense (cc)
  in_tree (some t) T p = by_cond Told (ltb (length lent) (walk (whole d) t p)) _ _ (λ _ n after e f. nonsense (cc)) (λ _. rows_weigh T p)

  told : (xs : List Float) → Told (report_of d c W (length lent) xs)
  told xs = by_cond Told (not ((whole d).counted xs)) _ _ (λ _ n after e f. nonsense (cc))
      (λ _. by_cond Told (not ((whole d).good xs)) _ _ (λ _ n after e f. nonsense (cc)) (λ _. in_tree W.tree refl (reading xs)))

  pub reports_weigh : (xs : List Float) (after : List (List ℕ)) (n : ℕ) → ReportTold tree a.nodes a.cuts a.copies points a.boxes xs lent (Ok n) after → Rowed n after
  reports_weigh xs after n R =
      let x = R d c s W a marks S (record { nodes_are = refl; cuts_are = refl; copies_are = refl; boxes_are = refl }) in
      told xs n after x.answer x.after
