-- A copy more or a copy less of a point leaves every box as it is. Assumes nothing.
use mathlib.Core.Path.{◌≡◌, refl, sym, ap, ◌∙◌, subst}
use mathlib.Core.Bool.{Bool, true, cond}
use mathlib.Core.Option.{some}
use mathlib.Core.List.{[]}
use Prim.Native.Nat.{ℕ, ◌-◌, ◌≤◌, ◌<◌}
use native.Mathlib.Omega.{arith}
use lib.Dec.{ltb}
use Rattle.limits.specs.Limits.{width, branch_limit}
use Rattle.cuttree.specs.Tree.{Tree, is, ending, height, end, add_copy, forget}
use Rattle.cuttree.specs.Walk.{sub, replace}
use Rattle.cuttree.proofs.Orders.{End}
use Rattle.cuttree.proofs.Heights.{sub_sub, sub_leaf, sum_replace}
use Rattle.cuttree.proofs.Edits.{leaf_with, copy_replace, less_replace}
use Rattle.readings.specs.Number.{Number}
use Rattle.wholetree.specs.Reading.{Reading}
use Rattle.wholetree.specs.Whole.{whole}
use Rattle.wholetree.proofs.Readings.{tab_length, tab_at}
use Rattle.layout.specs.Slots.{uses, box_ends}
use Rattle.layout.specs.Layout.{box_in, no_box_ends}
use Rattle.layout.specs.Stands.{Once}
use Rattle.layout.proofs.Replaced.{none_above, slot_other}
use Rattle.boxstore.specs.Edited.{boxes_of}
use Rattle.boxstore.proofs.Ends.{box_by, least_end, most_end}
use Rattle.boxstore.proofs.Partly.{at, Partly}
use Rattle.boxstore.proofs.Changes.{replace_same, partly_stop, end_replaced}

module _ (d c k : ℕ) (t : Tree (whole d)) (p : Reading) (o : Once d c t) where
  -- the walk's leaf with n copies
  module _ (n : ℕ) where
    abbrev copied : Tree (whole d)
    copied = leaf_with (whole d) t p n

    leaf_uses : (j : ℕ) → uses d c (sub (whole d) t 0 p) j ≡ 0
    leaf_uses j = ap (λ x. uses d c x j) (sub_leaf (whole d) p t)

    copied_once : Once d c (replace (whole d) t 0 p copied)
    copied_once j = omega (arith, sum_replace (whole d) (λ i q n. 0) (λ b. is b j) 0 p copied t (omega arith), leaf_uses j, o j)

    same : {m : Number → Number → Number} {to : Number → Number → Bool} → End (whole d) m to → (g : ℕ) → g ≤ height (whole d) t p → (i : ℕ) → i < width → end (whole d) m (sub (whole d) t g p) i ≡ end (whole d) m (replace (whole d) (sub (whole d) t g p) 0 p copied) i
    same {m} E g l i _ =
        let u = sub (whole d) t g p in
        let back : replace (whole d) u 0 p (sub (whole d) t 0 p) ≡ u = ap (replace (whole d) u 0 p) (sym (sub_sub (whole d) 0 g p (omega arith) t l)) ∙ replace_same d c p 0 u (omega arith) in
        sym (end_replaced d c p E 0 i (λ x. x) (λ x y. refl) copied (sub (whole d) t 0 p) (sym (ap (λ x. end (whole d) m x i) (sub_leaf (whole d) p t))) u (omega arith) ∙ ap (λ x. end (whole d) m x i) back)

    start : Partly d c k t (replace (whole d) t 0 p copied) p (boxes_of d c k t) 0
    start = record {
      size = tab_length branch_limit (box_in d c k (some t));
      todo = λ g a l s. tab_at branch_limit (box_in d c k (some t)) (at d c t p g) [] s;
      done = λ j s none. tab_at branch_limit (box_in d c k (some t)) j [] s
          ∙ ap (λ x. cond (ltb j k) x no_box_ends) (sym (slot_other d c (box_ends d c) no_box_ends 0 p copied j refl t (omega arith) (none_above d c 0 p j t (omega arith) none) (leaf_uses j)));
    }

    copied_boxes : boxes_of d c k (replace (whole d) t 0 p copied) ≡ boxes_of d c k t
    copied_boxes =
        sym (partly_stop d c p k t o 0 copied copied_once (boxes_of d c k t) 0 (omega arith) (omega arith) start
        (λ g a l _. box_by d c (sub (whole d) t g p) (replace (whole d) (sub (whole d) t g p) 0 p copied) (same (least_end d) g l) (same (most_end d) g l)))

  pub copy_boxes : boxes_of d c k (add_copy (whole d) p t) ≡ boxes_of d c k t
  copy_boxes = rw (copy_replace (whole d) p t) (copied_boxes _)

  pub less_boxes : ltb 1 (ending (whole d) t p).copies ≡ true → (s : Tree (whole d)) → forget (whole d) p t ≡ some s → boxes_of d c k s ≡ boxes_of d c k t
  less_boxes h s e =
      let z : replace (whole d) t 0 p (leaf_with (whole d) t p ((ending (whole d) t p).copies - 1)) ≡ s = cc (less_replace (whole d) p t h).0 in
      subst (λ x. boxes_of d c k x ≡ boxes_of d c k t) z (copied_boxes _)
