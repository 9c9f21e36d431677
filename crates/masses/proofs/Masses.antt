-- Masses count lanterns, in every state that a making and its calls leave. Assumes nothing.
use mathlib.Core.Path.{◌≡◌, refl, sym, subst}
use mathlib.Core.Option.{Option, none, some}
use mathlib.Core.List.{List}
use Prim.Native.Nat.{ℕ, ◌+◌, ◌<◌}
use native.Mathlib.Omega.{arith}
use lib.Ieee.{Float}
use Rattle.std.specs.Prelude.{Ok}
use Rattle.cuttree.specs.Tree.{Tree, id}
use Rattle.cuttree.specs.Run.{World}
use Rattle.cuttree.proofs.Tests.{nonsense}
use Rattle.cuttree.proofs.Nodes.{here}
use Rattle.wholetree.specs.Whole.{whole}
use Rattle.treestore.specs.Arrays.{NodeStore}
use Rattle.randomcuttree.specs.declared.RCFTree.{RCFTree}
use Rattle.randomcuttree.specs.declared.BranchRow.{BranchRow}
use Rattle.randomcuttree.specs.State.{State}
use Rattle.randomcuttree.specs.Queries.{branch_read}
use Rattle.randomcuttree.proofs.Parts.{root_is, total_is}
use Rattle.masses.specs.Masses.{Weighs, MassesCount, MassesOfCode}
use Rattle.masses.proofs.Nodes.{branch_found_lem, one_mass, node_weighs, sides_weigh}
use Rattle.masses.proofs.Reports.{reports_weigh}
use Rattle.masses.proofs.Printed.{prints_weigh}

module _ {d c : ℕ} {s : Float} {W : World (whole d)} {tree : RCFTree} {a : NodeStore} {points : List (List Float)} {marks : List ℕ} (S : State d c s W tree a points marks) where
  sides : (o : Option (Tree (whole d))) → W.tree ≡ o → (x : ℕ) (r : BranchRow) → branch_read a.nodes a.cuts x ≡ Ok r
      → (m : ℕ) × (n : ℕ) × Weighs tree a r.left m × Weighs tree a r.right n × (r.mass ≡ m + n)
  sides none T x r e = let F = branch_found_lem S T x r e in nonsense (cc F.found)
  sides (some t) T x r e = sides_weigh S T x r e

  root : (o : Option (Tree (whole d))) → W.tree ≡ o → 0 < tree.total → Weighs tree a tree.root tree.total
  root none T h = absurd (omega (arith, rw T at (total_is S)))
  root (some t) T h = subst (λ (y : ℕ). Weighs tree a y tree.total) (sym (rw T at (root_is S)))
      (subst (λ (y : ℕ). Weighs tree a (id (whole d) c t) y) (sym (rw T at (total_is S))) (node_weighs S T t here))

  counts : MassesCount tree a points
  counts = record {
    one = one_mass S refl;
    sides = sides W.tree refl;
    root = root W.tree refl;
    reported = λ xs lent rows n. reports_weigh S lent xs rows n;
    printed = prints_weigh S;
  }

pub masses_of_code : MassesOfCode
masses_of_code tree a points marks w = counts w.state
