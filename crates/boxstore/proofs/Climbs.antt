-- Growing the boxes above a new branch row by row, as a loop over the path does it. Assumes nothing.
use mathlib.Core.Path.{◌≡◌, sym, ap, subst}
use mathlib.Core.Bool.{true}
use mathlib.Core.List.{List, []}
use Prim.Native.Nat.{ℕ, suc, ◌-◌, ◌≤◌, ◌<◌}
use native.Mathlib.Omega.{arith}
use lib.Dec.{T}
use lib.ListN.{get_or}
use lib.Ieee.{Float}
use Rattle.limits.specs.Limits.{width, branch_limit}
use Rattle.readings.proofs.Tests.{yes}
use Rattle.readings.proofs.Keys.{key, lt_key, le_key}
use Rattle.boundingbox.specs.Ends.{least as least_float, greatest as greatest_float}
use Rattle.boundingbox.specs.Contained.{contains}
use Rattle.boundingbox.proofs.Order.{Places}
use Rattle.boundingbox.proofs.Held.{contains_unchanged}
use Rattle.cuttree.specs.Setting.{Cut}
use Rattle.cuttree.specs.Tree.{Tree, height, lo}
use Rattle.cuttree.specs.Walk.{graft}
use Rattle.readings.specs.Number.{is_number, Number}
use Rattle.wholetree.specs.Reading.{Reading, coordinate}
use Rattle.wholetree.specs.Whole.{whole}
use Rattle.readings.proofs.Ordered.{number_num, same_key}
use Rattle.wholetree.proofs.Readings.{tab_length, tab_at, coordinate_is}
use Rattle.layout.specs.Slots.{low_of, high_of}
use Rattle.layout.proofs.Trails.{path_node}
use Rattle.boxstore.specs.Written.{low_in, high_in, box_with, written}
use Rattle.boxstore.specs.Edited.{Walked, Grafted}
use Rattle.boxstore.proofs.Ends.{least_end, most_end, least_ends, most_ends}
use Rattle.boxstore.proofs.Partly.{at, Partly}
use Rattle.boxstore.proofs.Changes.{Still, still_is}
use Rattle.boxstore.proofs.Grafts.{graft_start, graft_turn}

-- ---- a box that holds a point is not changed by it
by_number : Places (λ x. T (is_number x)) key
by_number = record { by_lt = λ x y p q. lt_key x y (number_num x p) (number_num y q); by_le = λ x y p q. le_key x y (number_num x p) (number_num y q) }

one_number : (x y : Float) → T (is_number x) → T (is_number y) → key x ≡ key y → x ≡ y
one_number x y p q e = ap (λ (a : Number). a.value) (same_key (record { value = x; value_is_number = p }) (record { value = y; value_is_number = q }) e)

module _ (d c : ℕ) (p : Reading) (u : Tree (whole d)) where
  pub held_still : contains (low_of d c u) (high_of d c u) p.row p.row width ≡ true → Still d c p (least_end d) u × Still d c p (most_end d) u
  held_still e =
      let w = contains_unchanged (λ x. T (is_number x)) key by_number one_number (low_of d c u) (high_of d c u) p.row p.row width (tab_length width _) (tab_length width _)
      (λ i h. subst (λ x. T (is_number x)) (sym (tab_at width _ i _ h)) (lo (whole d) u i).value_is_number)
      (λ i h. subst (λ x. T (is_number x)) (coordinate_is p i h) (coordinate p i).value_is_number) (yes e) in
      (still_is d c p (least_end d) least_float (least_ends d) u w.0, still_is d c p (most_end d) greatest_float (most_ends d) u w.1)

-- ---- the number in a row of the path is that of the walk's node
pub index_is : (path : List (List ℕ)) (point : List Float) (r : ℕ) (d c : ℕ) (t : Tree (whole d)) (p : Reading) → Walked d c path point t p → r ≤ height (whole d) t p → get_or (get_or path r []) 0 0 ≡ at d c t p (height (whole d) t p - r)
index_is path point r d c t p W h = path_node d c p path t W.rows r (height (whole d) t p - r) (omega arith)

-- ---- the loop
module _ (k n : ℕ) (path : List (List ℕ)) (point : List Float) (boxes : List (List (List Float))) where
  -- the boxes of the rows from r on are done
  abbrev pub Climbed : List (List (List Float)) → ℕ → Type 0
  Climbed B r = (d c : ℕ) (t : Tree (whole d)) (p : Reading) (b i h : ℕ) (cut : Cut (whole d)) → Walked d c path point t p → Grafted d c k n boxes t p b i h cut
      → Partly d c k t (graft (whole d) b i p (h, cut) t) p B (height (whole d) t p - r)

  pub climb_start : k ≤ branch_limit → Climbed boxes n
  climb_start few d c t p b i h cut W G =
      let z : height (whole d) t p - n ≡ h = omega (arith, G.above_it) in
      rw (z, G.boxes_are) (graft_start d c t p W.once b i h cut (omega (arith, G.above_it)) G.fresh k few)

  module _ (few : k ≤ branch_limit) (r : ℕ) (some : 0 < r) (below : r ≤ n) (B B' : List (List (List Float))) (index : ℕ) (is : index ≡ get_or (get_or path (r - 1) []) 0 0)
      (grown : B' ≡ written k index (box_with (low_in B index) (high_in B index) point) B) (C : Climbed B r) where
    pub climb_turn : Climbed B' (r - 1)
    climb_turn d c t p b i h cut W G =
        let z : height (whole d) t p - (r - 1) ≡ suc (height (whole d) t p - r) = omega (arith, G.above_it) in
        rw (grown, is, index_is path point (r - 1) d c t p W (omega (arith, G.above_it)), z, W.row)
        (graft_turn d c t p W.once b i h cut (omega (arith, G.above_it)) G.fresh k few B (height (whole d) t p - r) (omega (arith, G.above_it)) (omega (arith, G.above_it)) (C d c t p b i h cut W G))
