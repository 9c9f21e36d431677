-- What holds of a tree holds of each node in it: its depth, its branch numbers, its links and its boxes. Assumes nothing.
use mathlib.Core.List.{List}
use Prim.Native.Nat.{ℕ, ◌≤◌}
use native.Mathlib.Omega.{arith}
use lib.Ieee.{Float}
use Rattle.cuttree.specs.Tree.{Tree}
use Rattle.cuttree.proofs.Nodes.{In, here, left, right}
use Rattle.wholetree.specs.Whole.{whole}
use Rattle.layout.specs.Stands.{Once}
use Rattle.boxstore.specs.Boxed.{Linked, Boxed}
use Rattle.boxstore.proofs.Depths.{depth}
use Rattle.boxstore.proofs.Parts.{left_boxed, right_boxed}

module _ (d c : ℕ) where
  pub depth_in : {u t : Tree (whole d)} → In (whole d) u t → depth d c u ≤ depth d c t
  depth_in here = omega arith
  depth_in (left i) = omega (arith, depth_in i)
  depth_in (right i) = omega (arith, depth_in i)

  pub once_in : {u t : Tree (whole d)} → In (whole d) u t → Once d c t → Once d c u
  once_in here o = o
  once_in (left i) o = once_in i (λ j. omega (arith, o j))
  once_in (right i) o = once_in i (λ j. omega (arith, o j))

  pub links_in : {u t : Tree (whole d)} (nodes : List (List ℕ)) → In (whole d) u t → Linked d c nodes t → Linked d c nodes u
  links_in nodes here h = h
  links_in nodes (left i) h = links_in nodes i h.2
  links_in nodes (right i) h = links_in nodes i h.3

  pub boxed_in : {u t : Tree (whole d)} {k : ℕ} {nodes : List (List ℕ)} {points : List (List Float)} {boxes : List (List (List Float))} → In (whole d) u t → Boxed d c k nodes points boxes t → Boxed d c k nodes points boxes u
  boxed_in here h = h
  boxed_in (left i) h = boxed_in i (left_boxed d c _ _ _ _ h)
  boxed_in (right i) h = boxed_in i (right_boxed d c _ _ _ _ h)
