-- The cached boxes through an add: the new branch's box, and each box above it grown by the point, are those of the tree after. Assumes nothing.
use mathlib.Core.Path.{◌≡◌, refl, sym, ap, ◌∙◌, subst}
use mathlib.Core.Bool.{Bool, true}
use mathlib.Core.Option.{some}
use mathlib.Core.List.{List, []}
use Prim.Native.Nat.{ℕ, suc, ◌+◌, ◌≤◌, ◌<◌}
use native.Mathlib.Omega.{arith}
use lib.Dec.{eqb, ltb}
use lib.ListN.{get_or}
use lib.Ieee.{Float}
use borrow.Author.Tests.{eqb-true, ne_eqb}
use Rattle.limits.specs.Limits.{branch_limit}
use Rattle.cuttree.specs.Setting.{Cut, below}
use Rattle.cuttree.specs.Tree.{Tree, id, is, height, end, above}
use Rattle.cuttree.specs.Walk.{sub, replace}
use Rattle.cuttree.proofs.Tests.{by_cond, by-test}
use Rattle.cuttree.proofs.Intervals.{is_same}
use Rattle.cuttree.proofs.Sums.{sum_above}
use Rattle.cuttree.proofs.Orders.{End, end_swap}
use Rattle.cuttree.proofs.Boxes.{end_above}
use Rattle.cuttree.proofs.Heights.{height_sub, sub_sub, sum_replace}
use Rattle.cuttree.proofs.Nodes.{In, here, left, right}
use Rattle.readings.specs.Number.{Number}
use Rattle.wholetree.specs.Reading.{Reading, coordinate}
use Rattle.wholetree.specs.Whole.{whole, tab}
use Rattle.layout.specs.Slots.{uses, slot, box_ends}
use Rattle.layout.specs.Layout.{box_in, no_box_ends}
use Rattle.layout.specs.Stands.{Once}
use Rattle.layout.proofs.Slots.{slot_node}
use Rattle.layout.proofs.Replaced.{upper_uses, upper_at, none_above, in_sub, in_new, slot_kept}
use Rattle.boxstore.specs.Written.{low_in, high_in, box_with, written}
use Rattle.boxstore.proofs.Ends.{box_by, least_end, most_end}
use Rattle.boxstore.proofs.Partly.{at, Partly}
use Rattle.boxstore.proofs.Changes.{replace_same, old_box, partly_start, partly_turn, partly_stop, end_replaced, Still, grown_box}

-- ---- the new branch's box: that of the node below it, with the point in it
-- ---- the tree before, p's walk in it, and the new branch above the walk's node of height h
module _ (d c : ℕ) (t : Tree (whole d)) (p : Reading) (o : Once d c t) (b i h : ℕ) (cut : Cut (whole d)) (e : h ≤ height (whole d) t p) (fresh : uses d c t b ≡ 0) where
  abbrev new : Tree (whole d)
  new = above (whole d) b cut i p (sub (whole d) t h p)

  abbrev after : Tree (whole d)
  after = replace (whole d) t h p new

  uses_above : (j : ℕ) → uses d c new j ≡ is b j + uses d c (sub (whole d) t h p) j
  uses_above j = omega (arith, sum_above (whole d) (λ i q n. 0) (λ b. is b j) b cut i p (sub (whole d) t h p))

  graft_once : Once d c after
  graft_once j =
      let w = sum_replace (whole d) (λ i q n. 0) (λ b. is b j) h p new t e in
      let v = uses_above j in
      by-test (eqb b j)
      (λ x. let z : is b j ≡ 1 = rw x in let y : uses d c t j ≡ 0 = subst (λ n. uses d c t n ≡ 0) (eqb-true b j x) fresh in omega arith)
      (λ x. let z : is b j ≡ 0 = rw x in omega (arith, o j))

  new_slot : {A : Type 0} (f : Tree (whole d) → A) (z : A) → slot d c f z after b ≡ f new
  new_slot f z = subst (λ j. slot d c f z after j ≡ f new) is_new (slot_node d c f z new graft_once (in_new d c h p new t e) (rw is_new (omega (arith, uses_above b, is_same b))))
    where
      is_new : id (whole d) c new ≡ b
      is_new = by_cond (λ x. id (whole d) c x ≡ b) (below (whole d) cut p) _ _ (λ _. refl) (λ _. refl)

  -- what the new branch stands above stays
  inside : In (whole d) (sub (whole d) t h p) new
  inside = by_cond (λ x. In (whole d) (sub (whole d) t h p) x) (below (whole d) cut p) _ _ (λ _. right here) (λ _. left here)

  apart : (n : ℕ) → 0 < n → n ≤ height (whole d) t p → b ≡ at d c t p n → ⊥
  apart n a l z = omega (arith, fresh, ap (uses d c t) z, upper_at d c 0 n p a t l, upper_uses d c 0 p (at d c t p n) t (omega arith))

  module _ (k : ℕ) (few : k ≤ branch_limit) where
    -- before the first turn: the tree's boxes, and the new branch's
    pub graft_start : Partly d c k t after p (written k b (box_ends d c new) (tab branch_limit (box_in d c k (some t)))) h
    graft_start =
        partly_start d c p k t o few after h b (box_ends d c new) (λ n a l. apart n (omega arith) l) (new_slot (box_ends d c) no_box_ends)
        (λ j n none. slot_kept d c (box_ends d c) no_box_ends h p new t (sub (whole d) t h p) j o graft_once e (in_sub d c h p t e) inside (none_above d c h p j t e none) (λ z. (z, other j n ∙ z)))
      where
        other : (j : ℕ) → (b ≡ j → ⊥) → uses d c new j ≡ uses d c (sub (whole d) t h p) j
        other j n = let z : is b j ≡ 0 = rw (ne_eqb b j n) in omega (arith, uses_above j)

    -- a box above, with the point in it
    abbrev with_it : ℕ → Tree (whole d)
    with_it n = replace (whole d) (sub (whole d) t n p) h p new

    with_point_lem : {m : Number → Number → Number} {to : Number → Number → Bool} (E : End (whole d) m to) (n : ℕ) → h ≤ n → n ≤ height (whole d) t p → (ch : ℕ) → end (whole d) m (with_it n) ch ≡ m (end (whole d) m (sub (whole d) t n p) ch) (coordinate p ch)
    with_point_lem {m} E n a l ch =
        let u = sub (whole d) t n p in
        let g : h ≤ height (whole d) u p = omega (arith, height_sub (whole d) n p t l) in
        let same : replace (whole d) u h p (sub (whole d) t h p) ≡ u = ap (replace (whole d) u h p) (sym (sub_sub (whole d) h n p a t l)) ∙ replace_same d c p h u g in
        end_replaced d c p E h ch (λ x. m x (coordinate p ch)) (λ x y. end_swap (whole d) E x (coordinate p ch) y) new (sub (whole d) t h p) (end_above (whole d) E b cut i p (sub (whole d) t h p) ch) u g ∙ ap (λ x. m (end (whole d) m x ch) (coordinate p ch)) same

    -- a turn: one box more is grown
    pub graft_turn : (boxes : List (List (List Float))) (n : ℕ) → h ≤ n → suc n ≤ height (whole d) t p → Partly d c k t after p boxes n
        → Partly d c k t after p (written k (at d c t p (suc n)) (box_with (low_in boxes (at d c t p (suc n))) (high_in boxes (at d c t p (suc n))) p.row) boxes) (suc n)
    graft_turn boxes n a l P =
        partly_turn d c p k t o h new graft_once few boxes _ n a l P
        (λ x. ap (λ y. box_with (get_or y 0 []) (get_or y 1 []) p.row) (old_box d c p k t o few boxes n P (suc n) (omega arith) l x)
        ∙ grown_box d c p (sub (whole d) t (suc n) p) (with_it (suc n)) (with_point_lem (least_end d) (suc n) (omega arith) l) (with_point_lem (most_end d) (suc n) (omega arith) l))

    -- the end: the cached boxes above held the point
    pub graft_held : (boxes : List (List (List Float))) (n : ℕ) → h ≤ n → n ≤ height (whole d) t p → Partly d c k t after p boxes n
        → ((g : ℕ) → n < g → g ≤ height (whole d) t p → ltb (at d c t p g) k ≡ true → Still d c p (least_end d) (sub (whole d) t g p) × Still d c p (most_end d) (sub (whole d) t g p)) → boxes ≡ tab branch_limit (box_in d c k (some after))
    graft_held boxes n a l P S =
        partly_stop d c p k t o h new graft_once boxes n a l P
        (λ g b q x. let s = S g b q x in box_by d c (sub (whole d) t g p) (with_it g) (λ ch r. sym (s.0 ch r) ∙ sym (with_point_lem (least_end d) g (omega arith) q ch)) (λ ch r. sym (s.1 ch r) ∙ sym (with_point_lem (most_end d) g (omega arith) q ch)))
