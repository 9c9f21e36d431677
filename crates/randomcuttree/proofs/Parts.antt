-- A state's header and arrays, part by part. Assumes nothing.
use mathlib.Core.Path.{◌≡◌, ap}
use mathlib.Core.List.{List}
use Prim.Native.Nat.{ℕ, ◌-◌, ◌≤◌}
use native.Mathlib.Omega.{arith}
use lib.Ieee.{Float}
use Rattle.limits.specs.Limits.{branch_limit, point_limit}
use Rattle.readings.specs.Number.{nought}
use Rattle.cuttree.specs.Run.{World, total_of}
use Rattle.wholetree.specs.Whole.{whole, tab}
use Rattle.layout.specs.Slots.{row_of, cut_of}
use Rattle.layout.specs.Layout.{no_row, root_of, slot_in, count_in, box_in}
use Rattle.treestore.specs.Arrays.{NodeStore}
use Rattle.randomcuttree.specs.declared.RCFTree.{RCFTree}
use Rattle.randomcuttree.specs.State.{cached_by, State}

-- no more branches are cached than there are
pub cached_few : (s : Float) (c : ℕ) → cached_by s c ≤ c - 1
cached_few s c = omega arith

module _ {d c : ℕ} {s : Float} {W : World (whole d)} {tree : RCFTree} {a : NodeStore} {points : List (List Float)} {marks : List ℕ} (S : State d c s W tree a points marks) where
  pub dimensions_are : tree.dimensions ≡ d
  dimensions_are = ap (λ (x : RCFTree). x.dimensions) S.header_is

  pub capacity_is : tree.capacity ≡ c
  capacity_is = ap (λ (x : RCFTree). x.capacity) S.header_is

  pub cached_is : tree.cached ≡ cached_by s c
  cached_is = ap (λ (x : RCFTree). x.cached) S.header_is

  pub root_is : tree.root ≡ root_of d c (cached_by s c) W.tree
  root_is = ap (λ (x : RCFTree). x.root) S.header_is

  pub total_is : tree.total ≡ total_of (whole d) W.tree
  total_is = ap (λ (x : RCFTree). x.total) S.header_is

  pub nodes_are : a.nodes ≡ tab branch_limit (slot_in d c (cached_by s c) (row_of d c) no_row W.tree)
  nodes_are = ap (λ (x : NodeStore). x.nodes) S.arrays_are

  pub cuts_are : a.cuts ≡ tab branch_limit (slot_in d c (cached_by s c) (cut_of d c) nought W.tree)
  cuts_are = ap (λ (x : NodeStore). x.cuts) S.arrays_are

  pub copies_are : a.copies ≡ tab point_limit (count_in d c (cached_by s c) W.tree)
  copies_are = ap (λ (x : NodeStore). x.copies) S.arrays_are

  pub boxes_are : a.boxes ≡ tab branch_limit (box_in d c (cached_by s c) W.tree)
  boxes_are = ap (λ (x : NodeStore). x.boxes) S.arrays_are
