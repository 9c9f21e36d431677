-- A state whose tree is not empty: what the functions on rows and on boxes are told of it. Assumes nothing.
use mathlib.Core.Path.{◌≡◌, refl, sym, ap, ◌∙◌, subst}
use mathlib.Core.Option.{Option, none, some}
use mathlib.Core.List.{List, []}
use Prim.Native.Nat.{ℕ, ◌+◌, ◌≤◌}
use native.Mathlib.Omega.{arith}
use lib.ListN.{get_or}
use lib.Ieee.{Float, nan}
use Rattle.limits.specs.Limits.{width, branch_limit, point_limit}
use Rattle.boundingbox.specs.Padding.{Padded}
use Rattle.readings.specs.Number.{nought}
use Rattle.cuttree.specs.Tree.{Tree, leaf, branch, is, sum, All, OfTree, leaves}
use Rattle.cuttree.specs.Run.{World}
use Rattle.cuttree.specs.Sound.{Sound}
use Rattle.cuttree.proofs.Nodes.{In, here, left, right, in_trans, nodes_one}
use Rattle.cuttree.proofs.Leaves.{leaves_branches, all_map}
use Rattle.cuttree.proofs.Room.{uses_in, number_below, index_below}
use Rattle.wholetree.specs.Reading.{Reading}
use Rattle.wholetree.specs.Whole.{whole, tab}
use Rattle.wholetree.proofs.Readings.{row_length}
use Rattle.wholetree.proofs.Laws.{whole_laws}
use Rattle.layout.specs.Slots.{slot, row_of, cut_of}
use Rattle.layout.specs.Layout.{no_row, root_of, slot_in, count_in, box_in, point_row, table_of, Table}
use Rattle.layout.specs.Stands.{Laid, Once, InRange}
use Rattle.layout.proofs.Tabs.{entry_of}
use Rattle.layout.proofs.Slots.{tab_laid, tab_boxes}
use Rattle.walk.specs.Walks.{Walks}
use Rattle.nodestore.specs.Stored.{Stored}
use Rattle.boxstore.specs.Boxed.{Boxed}
use Rattle.rowboxes.specs.Rows.{PaddedRow, PaddedTable, PaddedBoxes}
use Rattle.rowboxes.proofs.Rows.{no_ends_lem}
use Rattle.treestore.specs.Arrays.{NodeStore}
use Rattle.treestore.proofs.Links.{linked}
use Rattle.treestore.proofs.Padding.{boxes_padded as kept_padded}
use Rattle.randomcuttree.specs.declared.RCFTree.{RCFTree}
use Rattle.randomcuttree.specs.State.{cached_by, OnChannels, Reachable, State}
use Rattle.randomcuttree.proofs.Lookups as Lookups
use Rattle.randomcuttree.proofs.Parts.{root_is, nodes_are, cuts_are, copies_are, boxes_are}

module _ {d c : ℕ} {W : World (whole d)} (R : Reachable d c W) {t : Tree (whole d)} (T : W.tree ≡ some t) where
  pub sound : Sound (whole d) c (record { table = W.table; tree = some t; free = W.free })
  sound = subst (λ (o : Option (Tree (whole d))). Sound (whole d) c (record { table = W.table; tree = o; free = W.free })) T R.sound

  range_in : d ≤ width → (u : Tree (whole d)) → In (whole d) u t → OnChannels d u → InRange d c u
  range_in m (leaf i q n) h o = index_below (whole d) c (whole_laws d) W.table t W.free sound h
  range_in m (branch b x l r) h o = (
    omega (arith, number_below (whole d) c (whole_laws d) W.table t W.free sound b (uses_in (whole d) h)),
    omega (arith, o.0),
    range_in m l (in_trans (whole d) (left here) h) o.1,
    range_in m r (in_trans (whole d) (right here) h) o.2,
  )

  pub in_range : d ≤ width → InRange d c t
  in_range m = range_in m t here (subst (OfTree (whole d) (OnChannels d)) T R.on_channels)

  pub apart : (x : ℕ) → sum (whole d) (λ i q n. is (i + c) x) (λ b. is b x) t ≤ 1
  apart = nodes_one (whole d) c (whole_laws d) W.table t W.free sound

  pub once : Once d c t
  once = Lookups.once d c W.table t W.free sound

  few : 2 ≤ c → leaves (whole d) t ≤ c
  few h = omega (arith, leaves_branches (whole d) t, sound.fits)

  pub narrow : All (whole d) (λ i q n. Padded q.row d width) t
  narrow = all_map (whole d) _ _ t (λ i q n e. R.narrow i q e) sound.agree

  -- the points of the table
  module _ {points : List (List Float)} {marks : List ℕ} (E : record { points = points; written = marks } ≡ table_of W.table) where
    pub point_at : (i : ℕ) (q : Reading) → W.table i ≡ some q → get_or points i [] ≡ q.row
    point_at i q e = entry_of point_limit (λ (j : ℕ). point_row (W.table j)) points (ap (λ (x : Table). x.points) E) [] i (R.sound.inside i q e) ∙ ap point_row e

    pub leaves_stand : All (whole d) (λ i q n. get_or points i [] ≡ q.row) t
    leaves_stand = all_map (whole d) _ _ t (λ i q n e. point_at i q e) sound.agree

-- every row of the table is a reading's of the tree's width, or of zeros
pub table_padded : {d c : ℕ} {s : Float} {W : World (whole d)} {tree : RCFTree} {a : NodeStore} {points : List (List Float)} {marks : List ℕ} → State d c s W tree a points marks → PaddedTable d points
table_padded {d} {W = W} {points = points} H i l = subst (PaddedRow d) (sym (entry_of point_limit (λ (j : ℕ). point_row (W.table j)) points (ap (λ (x : Table). x.points) H.table_is) [] i l)) (go (W.table i) refl)
  where
    go : (o : Option Reading) → W.table i ≡ o → PaddedRow d (point_row o)
    go none e = (no_ends_lem d).low
    go (some p) e = record { whole_row = row_length p; rest = H.reachable.narrow i p e }

module _ {d c : ℕ} {s : Float} {W : World (whole d)} {tree : RCFTree} {a : NodeStore} {points : List (List Float)} {marks : List ℕ} (H : State d c s W tree a points marks) {t : Tree (whole d)} (T : W.tree ≡ some t) where
  abbrev k : ℕ
  k = cached_by s c

  abbrev R : Reachable d c W
  R = H.reachable

  within : InRange d c t
  within = in_range R T H.limits.1

  rows_are : a.nodes ≡ tab branch_limit (slot d c (row_of d c) no_row t)
  rows_are = nodes_are H ∙ ap (λ (o : Option (Tree (whole d))). tab branch_limit (slot_in d c k (row_of d c) no_row o)) T

  values_are : a.cuts ≡ tab branch_limit (slot d c (cut_of d c) nought t)
  values_are = cuts_are H ∙ ap (λ (o : Option (Tree (whole d))). tab branch_limit (slot_in d c k (cut_of d c) nought o)) T

  boxes_of_lem : a.boxes ≡ tab branch_limit (box_in d c k (some t))
  boxes_of_lem = boxes_are H ∙ ap (λ (o : Option (Tree (whole d))). tab branch_limit (box_in d c k o)) T

  pub rows_laid : Laid d c (row_of d c) (λ (j : ℕ). get_or a.nodes j []) t
  rows_laid = tab_laid d c (row_of d c) no_row [] a.nodes t H.limits.3 rows_are (once R T) within

  pub values_laid : Laid d c (cut_of d c) (λ (j : ℕ). get_or a.cuts j nan) t
  values_laid = tab_laid d c (cut_of d c) nought nan a.cuts t H.limits.3 values_are (once R T) within

  pub stored : Stored d c a.nodes a.cuts a.copies t
  stored = record {
    small = H.limits.3;
    arrays = record { rows = rows_are; values = values_are; counts = copies_are H ∙ ap (λ (o : Option (Tree (whole d))). tab point_limit (count_in d c k o)) T };
    apart = apart R T;
    in_range = within;
    filled = (sound R T).filled;
    light = (sound R T).light;
  }

  -- the walk of any reading, and of the one that an index has
  pub walks_of : (p : Reading) (point : List Float) → point ≡ p.row → Walks d c a.nodes a.cuts point tree.root t p
  walks_of p point e = record {
    rows = rows_laid;
    values = values_laid;
    in_range = within;
    few = few R T H.limits.2;
    root_is = root_is H ∙ ap (root_of d c k) T;
    point_is = e;
  }

  pub walks : (i : ℕ) (p : Reading) → W.table i ≡ some p → Walks d c a.nodes a.cuts (get_or points i []) tree.root t p
  walks i p P = walks_of p (get_or points i []) (point_at R T H.table_is i p P)

  pub boxes_padded : PaddedBoxes d a.boxes
  boxes_padded = subst (PaddedBoxes d) (sym boxes_of_lem) (kept_padded d c H.limits.1 k t (narrow R T))

  pub boxed : Boxed d c k a.nodes points a.boxes t
  boxed = record {
    links = linked d c a.nodes t rows_laid;
    leaves = leaves_stand R T H.table_is;
    in_range = within;
    cached = tab_boxes d c k a.boxes t H.limits.3 boxes_of_lem (once R T) within;
  }
