-- The last copy of the walk's leaf gone, in the arrays: the sibling stands in the place of the branch next above, whose row and cut are cleared.
use mathlib.Core.Path.{◌≡◌, sym, ap, ◌∙◌}
use mathlib.Core.Bool.{cond}
use mathlib.Core.Option.{some}
use mathlib.Core.List.{List}
use Prim.Native.Nat.{ℕ, ◌+◌, ◌-◌, ◌<◌}
use native.Mathlib.Omega.{arith}
use lib.Dec.{eqb}
use lib.ListN.{take, set}
use lib.Ieee.{Float}
use Rattle.limits.specs.Limits.{branch_limit, point_limit, total_limit}
use Rattle.readings.specs.Number.{nought}
use Rattle.cuttree.specs.Setting.{Setting}
use Rattle.cuttree.specs.Tree.{Tree, is, id, ending, height, walk}
use Rattle.cuttree.specs.Walk.{sub, sibling, replace}
use Rattle.cuttree.proofs.Intervals.{is_same, is_other}
use Rattle.cuttree.proofs.Heights.{sum_replace}
use Rattle.cuttree.proofs.Nodes.{here}
use Rattle.wholetree.specs.Reading.{Reading}
use Rattle.wholetree.specs.Whole.{whole, tab}
use Rattle.layout.specs.Slots.{uses, slot, row_of, cut_of, count_at, field}
use Rattle.layout.specs.Layout.{no_row}
use Rattle.layout.specs.Stands.{Once, trail}
use Rattle.layout.proofs.Slots.{branch_of_lem, range_in, slot_none}
use Rattle.layout.proofs.Replaced.{upper_uses}
use Rattle.layout.proofs.Rows.{apart_once}
use Rattle.layout.proofs.Forks.{sum_fork, in_sibling}
use Rattle.layout.proofs.Ranges.{range_ending}
use Rattle.layout.proofs.Counts.{count_ending, count_set}
use Rattle.nodestore.specs.Rows.{mass_over, relink, lighter, Climb}
use Rattle.nodestore.specs.Stored.{Arrays, Stored}
use Rattle.nodestore.proofs.Facts.{no_either, uses_replace}
use Rattle.nodestore.proofs.Climbs.{Linked, climbs, weighed}
use Rattle.nodestore.proofs.Links.{Spot, linked_turned, parent_small, placed, cuts_placed}

module _ (d c : ℕ) (t : Tree (whole d)) (p : Reading) (N : List (List ℕ)) (C : List Float) (K : List ℕ) (w : Stored d c N C K t) (deep : 0 < height (whole d) t p) (one : (ending (whole d) t p).copies ≡ 1) where
  abbrev S : Setting
  S = whole d

  -- the sibling, and the branch that goes
  abbrev pub other : Tree S
  other = sibling S t 0 p

  abbrev pub gone : ℕ
  gone = id S c (sub S t 1 p)

  once : Once d c t
  once = apart_once d c t w.apart

  fork_uses : (j : ℕ) → uses d c (sub S t 1 p) j ≡ is gone j + uses d c other j
  fork_uses j = omega (arith, sum_fork d (λ i q n. 0) (λ b. is b j) c p t deep)

  pub gone_small : gone < branch_limit
  gone_small = let u = branch_of_lem d c t gone (omega (arith, fork_uses gone, is_same gone, upper_uses d c 1 p gone t deep)) in omega (arith, range_in d c w.in_range u.inside, w.small)

  once_new : Once d c (replace S t 1 p other)
  once_new j = omega (arith, once j, fork_uses j, uses_replace d c t other p 1 j deep)

  spot : Spot d c t other other p 1 gone
  spot = record {
    within = deep;
    small = gone_small;
    off_walk = omega (arith, once gone, fork_uses gone, is_same gone, upper_uses d c 1 p gone t deep);
    in_old = in_sibling d 0 p t deep;
    in_new = here;
    no_other = λ j n e. (omega (arith, fork_uses j, is_other gone j (λ x. n (sym x))), e);
    once = once;
    once_new = once_new;
  }

  -- its slot is empty
  empty : {A : Type 0} (f : Tree S → A) (z : A) → slot d c f z (replace S t 1 p other) gone ≡ z
  empty f z = slot_none d c f z (replace S t 1 p other) gone (omega (arith, once gone, fork_uses gone, is_same gone, uses_replace d c t other p 1 gone deep))

  gone_counts : set K (ending S t p).index 0 ≡ tab point_limit (count_at d c (replace S t 1 p other))
  gone_counts = count_set d c K t (replace S t 1 p other) (ending S t p).index (ending S t p).copies 0 w.arrays.counts (range_ending d c p t w.in_range) (count_ending d c p t w.apart)
      (λ x. omega (arith, no_either (eqb (ending S t p).index x), sum_replace S (λ i q n. cond (eqb i x) n 0) (λ b. 0) 1 p other t deep, sum_fork d (λ i q n. cond (eqb i x) n 0) (λ b. 0) c p t deep))

  module _ (k : ℕ) (path : List (List ℕ)) (k_is : k + 1 ≡ height S t p) (walked : take (walk S t p) path ≡ trail d c t p) where
    linked : Linked d c t other p 1 k path k_is (relink (set N gone no_row) path k gone (id S c other))
    linked = linked_turned d c t other p 1 k path k_is w.apart w.small w.in_range walked (set N gone no_row)
        (placed d c t other other p 1 gone spot k path k_is N no_row w.small w.in_range w.arrays.rows (sym (empty (row_of d c) no_row)))

    pub parent_low : 0 < k → field path (k - 1) 0 < branch_limit
    parent_low = parent_small d c t other p 1 k path k_is w.apart w.small w.in_range walked

    pub gone_climb : Climb 1 total_limit (relink (set N gone no_row) path k gone (id S c other)) (take k path)
    gone_climb = climbs d c t other p 1 k path k_is _ linked w.small once w.in_range w.filled walked total_limit w.light

    pub gone_arrays : Arrays d c (mass_over lighter (take k path) (relink (set N gone no_row) path k gone (id S c other))) (set C gone nought) (set K (ending S t p).index 0) (some (replace S t 1 p other))
    gone_arrays = record {
      rows = weighed d c t other p 1 k path k_is _ linked w.small once w.in_range w.filled walked lighter once_new
          (λ x m. omega (arith, sum_fork d (λ i q n. n) (λ b. 0) c p t deep));
      values = ap (set C gone) (sym (empty (cut_of d c) nought)) ∙ cuts_placed d c t other other p 1 gone spot C w.arrays.values;
      counts = gone_counts;
    }
