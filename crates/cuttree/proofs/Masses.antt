-- Masses: request A.2's laws; a tree's mass is at least 1, and none below it has more.
use mathlib.Core.Path.{refl}
use Prim.Native.Nat.{◌≤◌, ◌<◌}
use native.Mathlib.Omega.{arith}
use Rattle.cuttree.specs.Setting.{Setting}
use Rattle.cuttree.specs.Tree.{Tree, mass}
use Rattle.cuttree.specs.Masses.{MassLaws}
use Rattle.cuttree.proofs.Sums.{sum_above}
use Rattle.cuttree.proofs.Leaves.{leaves_branches, leaves_mass}
use Rattle.cuttree.proofs.Copies.{Filled}
use Rattle.cuttree.proofs.Nodes.{In, here, left, right}

module _ (S : Setting) where
  pub mass_laws : MassLaws S
  mass_laws = record {
    leaf_mass = λ i q n. refl;
    branch_mass = λ b k l r. omega arith;
    new_branch_mass = λ b k i p t. omega (arith, sum_above S (λ i q n. n) (λ b. 0) b k i p t);
    root_mass = λ t. refl;
  }

  pub mass_pos : (t : Tree S) → Filled S t → 0 < mass S t
  mass_pos t h = omega (arith, leaves_mass S t h, leaves_branches S t)

  pub mass_in : {u t : Tree S} → In S u t → mass S u ≤ mass S t
  mass_in here = omega arith
  mass_in (left i) = omega (arith, mass_in i)
  mass_in (right i) = omega (arith, mass_in i)
