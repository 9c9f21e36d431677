-- What looking for a reading promises of the arrays, said of the world's tree, and of the path that it leaves. Assumes nothing.
use mathlib.Core.Path.{◌≡◌, sym, ap, ◌∙◌, subst}
use mathlib.Core.Option.{Option, none, some}
use mathlib.Core.List.{List, ◌++◌}
use Prim.Native.Nat.{ℕ}
use native.Mathlib.Omega.{arith}
use lib.Dec.{eqb}
use lib.ListN.{length, drop, take-append-drop}
use lib.Seq.{length-take-le}
use lib.Ieee.{Float}
use borrow.Author.Tests.{eqb-true, eqb-false}
use Rattle.cuttree.specs.Tree.{Tree}
use Rattle.cuttree.specs.Run.{World}
use Rattle.cuttree.proofs.Tests.{by-test}
use Rattle.wholetree.specs.Reading.{Reading}
use Rattle.wholetree.specs.Whole.{whole}
use Rattle.layout.specs.Stands.{trail}
use Rattle.treestore.specs.declared.Found.{Found}
use Rattle.treestore.specs.Arrays.{NodeStore}
use Rattle.treestore.specs.Finds.{FoundIn}
use Rattle.randomcuttree.specs.declared.RCFTree.{RCFTree}
use Rattle.randomcuttree.specs.State.{State}
use Rattle.randomcuttree.specs.Finds.{nowhere, Sees}
use Rattle.randomcuttree.proofs.Calls.{no_tree, a_tree, found_in}
use Rattle.samplerplustree.specs.Paths.{rows_in, path_to}

-- of a walk that is found: it has as many rows as it says
path_found : {d c : ℕ} {t : Tree (whole d)} {p : Reading} {before path : List (List ℕ)} {f : Found} → FoundIn d c t p before f path → path ≡ trail d c t p ++ drop (length (trail d c t p)) before
path_found {d} {c} {t} {p} {before} {path} {f} F =
    let n = f.walk in
    let w = F.walked in
    let m : n ≡ length (trail d c t p) = sym (length-take-le n path (omega (arith, w.long, w.most))) ∙ ap length w.is_trail in
    sym (take-append-drop n path) ∙ ap (λ (l : List (List ℕ)). l ++ drop n path) w.is_trail
    ∙ ap (λ (l : List (List ℕ)). trail d c t p ++ l) (F.rest ∙ ap (λ (k : ℕ). drop k before) m)

module _ {d c : ℕ} {s : Float} {W : World (whole d)} {tree : RCFTree} {a : NodeStore} {points : List (List Float)} {marks : List ℕ} (H : State d c s W tree a points marks) {i : ℕ} {p : Reading} (P : W.table i ≡ some p)
    {before path : List (List ℕ)} {f : Found} (F : Sees tree a.nodes a.cuts points i before f path) where
  -- what holds of a tree that there is and of none, holds of the world's
  pub by_seen : (Q : Option (Tree (whole d)) → Option Reading → Type 0) → ((f ≡ nowhere) × (path ≡ before) → Q none (W.table i)) → ((t : Tree (whole d)) → FoundIn d c t p before f path → Q (some t) (some p)) → Q W.tree (W.table i)
  by_seen Q empty walked = by-test (eqb tree.total 0)
      (λ e. let z = eqb-true tree.total 0 e in subst (λ (o : Option (Tree (whole d))). Q o (W.table i)) (sym (no_tree H z)) (empty (F.empty z)))
      (λ e.
      let z = eqb-false tree.total 0 e in
      let (t, T) = a_tree H z in
      subst (λ (o : Option (Tree (whole d))). Q o (W.table i)) (sym T) (subst (Q (some t)) (sym P) (walked t (found_in H T (H.reachable.sound.inside i p P) P (F.walked z)))))

  pub path_seen : path ≡ path_to d c W i before
  path_seen = by_seen (λ o q. path ≡ rows_in d c o q ++ drop (length (rows_in d c o q)) before) (λ e. e.1) (λ t G. path_found G)
