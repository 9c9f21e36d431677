-- The cached boxes through a delete of a last copy: the parent's row is cleared, and each box above, worked out again, is that of the tree after. Assumes nothing.
use mathlib.Core.Path.{◌≡◌, refl, sym, ap, ◌∙◌}
use mathlib.Core.Bool.{Bool, true, false}
use mathlib.Core.Option.{some}
use mathlib.Core.List.{List}
use Prim.Native.Nat.{ℕ, suc, ◌+◌, ◌≤◌, ◌<◌}
use native.Mathlib.Omega.{arith}
use lib.Ieee.{Float}
use borrow.Author.Tests.{ne_eqb}
use Rattle.limits.specs.Limits.{width, branch_limit}
use Rattle.cuttree.specs.Tree.{Tree, is, height, ending, found, end}
use Rattle.cuttree.specs.Walk.{sub, sibling, replace}
use Rattle.cuttree.proofs.Intervals.{is_same}
use Rattle.cuttree.proofs.Orders.{End, end_comm, end_swap, end_before_it}
use Rattle.cuttree.proofs.Nodes.{here}
use Rattle.cuttree.proofs.Heights.{height_sub, sub_sub, sub_leaf, sum_replace, end_up}
use Rattle.readings.specs.Number.{Number}
use Rattle.wholetree.specs.Reading.{Reading, coordinate}
use Rattle.wholetree.specs.Whole.{whole, tab}
use Rattle.wholetree.proofs.Readings.{same_is}
use Rattle.layout.specs.Slots.{uses, box_ends}
use Rattle.layout.specs.Layout.{box_in, no_box_ends}
use Rattle.layout.specs.Stands.{Once}
use Rattle.layout.proofs.Slots.{slot_none}
use Rattle.layout.proofs.Replaced.{none_above, slot_kept}
use Rattle.layout.proofs.Forks.{sum_fork, in_sibling}
use Rattle.boxstore.specs.Written.{written}
use Rattle.boxstore.proofs.Ends.{box_by, least_end, most_end}
use Rattle.boxstore.proofs.Partly.{at, at_apart, Partly}
use Rattle.boxstore.proofs.Changes.{replace_same, replace_replace, partly_start, partly_stop, end_replaced}

-- the tree before, and p's walk in it, which ends below a branch
module _ (d c : ℕ) (t : Tree (whole d)) (p : Reading) (o : Once d c t) (e : 1 ≤ height (whole d) t p) where
  abbrev rest : Tree (whole d)
  rest = sibling (whole d) t 0 p

  abbrev after : Tree (whole d)
  after = replace (whole d) t 1 p rest

  -- ---- the parent is a branch above the leaf and its sibling
  parent_uses : (j : ℕ) → uses d c (sub (whole d) t 1 p) j ≡ is (at d c t p 1) j + uses d c rest j
  parent_uses j = omega (arith, sum_fork d (λ i q n. 0) (λ b. is b j) c p t e)

  after_uses : (j : ℕ) → uses d c after j + is (at d c t p 1) j ≡ uses d c t j
  after_uses j = omega (arith, sum_replace (whole d) (λ i q n. 0) (λ b. is b j) 1 p rest t e, parent_uses j)

  pub forget_once : Once d c after
  forget_once j = omega (arith, after_uses j, o j)

  -- before the first turn: the tree's boxes, without the parent's
  pub forget_start : (k : ℕ) → k ≤ branch_limit → Partly d c k t after p (written k (at d c t p 1) no_box_ends (tab branch_limit (box_in d c k (some t)))) 1
  forget_start k few =
      partly_start d c p k t o few after 1 (at d c t p 1) no_box_ends (λ n a l. at_apart d c 1 n t p (omega arith) a l o) (slot_none d c (box_ends d c) no_box_ends after (at d c t p 1) (omega (arith, after_uses (at d c t p 1), o (at d c t p 1), is_same (at d c t p 1))))
      (λ j n none. slot_kept d c (box_ends d c) no_box_ends 1 p rest t rest j o forget_once e (in_sibling d 0 p t e) here (none_above d c 1 p j t e none) (λ z. (sym (other j n) ∙ z, z)))
    where
      other : (j : ℕ) → (at d c t p 1 ≡ j → ⊥) → uses d c rest j ≡ uses d c (sub (whole d) t 1 p) j
      other j n = let z : is (at d c t p 1) j ≡ 0 = rw (ne_eqb (at d c t p 1) j n) in omega (arith, parent_uses j)

  -- a box above and the same without the point
  abbrev without : ℕ → Tree (whole d)
  without n = replace (whole d) (sub (whole d) t n p) 1 p rest

  module _ {m : Number → Number → Number} {to : Number → Number → Bool} (E : End (whole d) m to) where
    -- the old end is the new one with the point's coordinate
    with_point_lem : found (whole d) t p ≡ true → (n i : ℕ) → 1 ≤ n → n ≤ height (whole d) t p → end (whole d) m (sub (whole d) t n p) i ≡ m (end (whole d) m (without n) i) (coordinate p i)
    with_point_lem y n i a l =
        let u = sub (whole d) t n p in
        let g : 1 ≤ height (whole d) u p = omega (arith, height_sub (whole d) n p t l) in
        let same : replace (whole d) u 1 p (sub (whole d) t 1 p) ≡ u = ap (replace (whole d) u 1 p) (sym (sub_sub (whole d) 1 n p a t l)) ∙ replace_same d c p 1 u g in
        let v : (ending (whole d) t p).value ≡ p = same_is (ending (whole d) t p).value p y in
        let leaf-end : end (whole d) m (sub (whole d) t 0 p) i ≡ coordinate p i = ap (λ x. end (whole d) m x i) (sub_leaf (whole d) p t) ∙ ap (λ (q : Reading). coordinate q i) v in
        let base : end (whole d) m (sub (whole d) t 1 p) i ≡ m (end (whole d) m rest i) (coordinate p i) =
        end_up (whole d) E i 0 p t e ∙ ap (λ x. m x (end (whole d) m rest i)) leaf-end ∙ end_comm (whole d) E (coordinate p i) (end (whole d) m rest i) in
        sym (ap (λ x. end (whole d) m x i) same) ∙ end_replaced d c p E 1 i (λ x. m x (coordinate p i)) (λ x y. end_swap (whole d) E x (coordinate p i) y) (sub (whole d) t 1 p) rest base u g

    -- an end that the point does not reach is the same without it
    pub end_stays : found (whole d) t p ≡ true → (n i : ℕ) → 1 ≤ n → n ≤ height (whole d) t p → to (coordinate p i) (end (whole d) m (sub (whole d) t n p) i) ≡ false → end (whole d) m (without n) i ≡ end (whole d) m (sub (whole d) t n p) i
    end_stays y n i a l h =
        let z = with_point_lem y n i a l in
        sym (end_before_it (whole d) E (end (whole d) m (without n) i) (coordinate p i) (rw z at h)) ∙ sym z

    abbrev pub Same : ℕ → Type 0
    Same n = (i : ℕ) → i < width → end (whole d) m (without n) i ≡ end (whole d) m (sub (whole d) t n p) i

    -- so are those above
    same_up : (n g : ℕ) → 1 ≤ n → n ≤ g → g ≤ height (whole d) t p → Same n → Same g
    same_up n g a b l S i q =
        let u = sub (whole d) t g p in
        let hu : n ≤ height (whole d) u p = omega (arith, height_sub (whole d) g p t l) in
        let v : sub (whole d) u n p ≡ sub (whole d) t n p = sub_sub (whole d) n g p b t l in
        let low : replace (whole d) u n p (without n) ≡ without g = ap (λ x. replace (whole d) u n p (replace (whole d) x 1 p rest)) (sym v) ∙ replace_replace d c p 1 n rest a u hu in
        let same : replace (whole d) u n p (sub (whole d) t n p) ≡ u = ap (replace (whole d) u n p) (sym v) ∙ replace_same d c p n u hu in
        sym (ap (λ x. end (whole d) m x i) low) ∙ end_replaced d c p E n i (λ x. x) (λ x y. refl) (without n) (sub (whole d) t n p) (S i q) u hu ∙ ap (λ x. end (whole d) m x i) same

  -- the end: where a box is the same without the point, so are those above it
  pub forget_stop : (k : ℕ) (boxes : List (List (List Float))) (n : ℕ) → 1 ≤ n → suc n ≤ height (whole d) t p → Partly d c k t after p boxes n → Same (least_end d) (suc n) × Same (most_end d) (suc n) → boxes ≡ tab branch_limit (box_in d c k (some after))
  forget_stop k boxes n a l P S =
      partly_stop d c p k t o 1 rest forget_once boxes n a (omega arith) P
      (λ g b q _. box_by d c (sub (whole d) t g p) (without g) (λ i r. sym (same_up (least_end d) (suc n) g (omega arith) b q S.0 i r)) (λ i r. sym (same_up (most_end d) (suc n) g (omega arith) b q S.1 i r)))
