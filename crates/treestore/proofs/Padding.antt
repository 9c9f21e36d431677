-- The boxes that a tree of d channels keeps have +0.0 in the channels beyond these, as its readings have. Assumes nothing.
use mathlib.Core.Path.{sym, subst}
use mathlib.Core.Option.{some}
use mathlib.Core.Path.{refl}
use mathlib.Core.List.{[]}
use Prim.Native.Nat.{ℕ, ◌≤◌}
use lib.Dec.{eqb, ltb}
use Rattle.limits.specs.Limits.{width, branch_limit}
use Rattle.boundingbox.specs.Padding.{Padded}
use Rattle.cuttree.specs.Tree.{Tree, leaf, branch, ending, All}
use Rattle.cuttree.proofs.Tests.{by_cond}
use Rattle.cuttree.proofs.Leaves.{all_ending}
use Rattle.wholetree.specs.Reading.{origin}
use Rattle.wholetree.specs.Whole.{whole}
use Rattle.wholetree.proofs.Paper.{tree_channels}
use Rattle.wholetree.proofs.Readings.{tab_length, tab_at}
use Rattle.layout.specs.Slots.{uses, slot, box_ends}
use Rattle.layout.specs.Layout.{no_box_ends, box_in}
use Rattle.boxstore.specs.Edited.{boxes_of}
use Rattle.rowboxes.specs.Rows.{PaddedEnds, PaddedBoxes}
use Rattle.rowboxes.proofs.Rows.{no_ends_lem}

module _ (d c : ℕ) (few : d ≤ width) where
  box_padded : (t : Tree (whole d)) → All (whole d) (λ i q n. Padded q.row d width) t → PaddedEnds d (box_ends d c t)
  box_padded t h =
      let C = tree_channels d t (ending (whole d) t origin).value few h (all_ending (whole d) (λ i q n. Padded q.row d width) origin t h) in
      record { two = refl; low = record { whole_row = tab_length width _; rest = C.lower }; high = record { whole_row = tab_length width _; rest = C.upper } }

  slot_padded : (t : Tree (whole d)) (j : ℕ) → All (whole d) (λ i q n. Padded q.row d width) t → PaddedEnds d (slot d c (box_ends d c) no_box_ends t j)
  unfolding slot
  slot_padded (leaf i q n) j h = no_ends_lem d
  slot_padded (branch b k l r) j h = by_cond (PaddedEnds d) (eqb b j) _ _ (λ _. box_padded (branch b k l r) h)
      (λ _. by_cond (PaddedEnds d) (ltb 0 (uses d c l j)) _ _ (λ _. slot_padded l j h.0) (λ _. slot_padded r j h.1))

  pub boxes_padded : (k : ℕ) (t : Tree (whole d)) → All (whole d) (λ i q n. Padded q.row d width) t → PaddedBoxes d (boxes_of d c k t)
  boxes_padded k t h = record {
    all = tab_length branch_limit _;
    slots = λ j m. subst (PaddedEnds d) (sym (tab_at branch_limit (box_in d c k (some t)) j [] m)) (by_cond (PaddedEnds d) (ltb j k) _ _ (λ _. slot_padded t j h) (λ _. no_ends_lem d));
  }
