-- A printed tree's lines have the masses of their nodes. Assumes nothing.
use mathlib.Core.Path.{◌≡◌, refl, sym, subst}
use mathlib.Core.Logic.{◌⊎◌, inl, inr}
use mathlib.Core.Option.{Option, none, some}
use mathlib.Core.List.{List, [], ◌++◌, append-nil}
use Prim.Native.Nat.{ℕ}
use lib.Ieee.{Float, binary32, to_bits}
use Rattle.lines.specs.Lines.{branch_line, names_line, Wrote}
use Rattle.cuttree.specs.Tree.{Tree, leaf, branch, id, mass}
use Rattle.cuttree.specs.Run.{World}
use Rattle.cuttree.proofs.Masses.{mass_laws}
use Rattle.wholetree.specs.Whole.{whole}
use Rattle.treestore.specs.Arrays.{NodeStore}
use Rattle.randomcuttree.specs.declared.RCFTree.{RCFTree}
use Rattle.randomcuttree.specs.State.{State}
use Rattle.randomcuttree.proofs.Parts.{root_is, total_is}
use Rattle.printed.specs.Printed.{lines_of, printed_tree}
use Rattle.listing.specs.Printed.{PrintsTree}
use Rattle.masses.specs.Masses.{LinesWeigh, leaf_lines, branch_lines}

pub lines_weigh : (d c : ℕ) (t : Tree (whole d)) → LinesWeigh (id (whole d) c t) (mass (whole d) t) (lines_of d c t)
lines_weigh d c (leaf i q n) = leaf_lines
lines_weigh d c (branch b k l r) =
    let e = (mass_laws (whole d)).branch_mass b k l r in
    let cut = to_bits binary32 k.value.value in
    subst (λ (m : ℕ). LinesWeigh b m (branch_line b k.channel cut (id (whole d) c l) (id (whole d) c r) m ++ lines_of d c l ++ lines_of d c r)) (sym e) (branch_lines k.channel cut (lines_weigh d c l) (lines_weigh d c r))

module _ {d c : ℕ} {s : Float} {W : World (whole d)} {tree : RCFTree} {a : NodeStore} {points : List (List Float)} {marks : List ℕ} (S : State d c s W tree a points marks) where
  abbrev Lined : List ℕ → Type 0
  Lined lines = ((tree.total ≡ 0) × (lines ≡ [])) ⊎ LinesWeigh tree.root tree.total lines

  printed_as : (o : Option (Tree (whole d))) → W.tree ≡ o → (lines : List ℕ) × (printed_tree d c o ≡ names_line ++ lines) × Lined lines
  printed_as none T = ([], sym (append-nil names_line), inl (rw T at (total_is S), refl))
  printed_as (some t) T = (
    lines_of d c t,
    refl,
    inr (subst (λ (y : ℕ). LinesWeigh y tree.total (lines_of d c t)) (sym (rw T at (root_is S)))
        (subst (λ (y : ℕ). LinesWeigh (id (whole d) c t) y (lines_of d c t)) (sym (rw T at (total_is S))) (lines_weigh d c t))),
  )

  pub prints_weigh : (at : ℕ) (before : List ℕ) (place : ℕ) (after : List ℕ) → PrintsTree tree a.nodes a.cuts a.copies at before place after
      → (lines : List ℕ) × Wrote before at (names_line ++ lines) place after × Lined lines
  prints_weigh at before place after P =
      let (lines, e, h) = printed_as W.tree refl in
      (lines, subst (λ (y : List ℕ). Wrote before at y place after) e (P d c s W a points marks S (record { nodes_are = refl; cuts_are = refl; copies_are = refl })), h)
