-- The branch next above a walk's leaf: the leaf on one side, the leaf's sibling on the other. Siblings are nodes of the tree.
use mathlib.Core.Path.{◌≡◌, sym, ap, ◌∙◌}
use Prim.Native.Nat.{ℕ, suc, ◌+◌, ◌<◌}
use native.Mathlib.Omega.{arith}
use lib.Dec.{eqb}
use borrow.Author.Tests.{eqb-true, eqb-false}
use Rattle.cuttree.specs.Setting.{Cut, below}
use Rattle.cuttree.specs.Tree.{Tree, leaf, branch, id, ending, height, sum}
use Rattle.cuttree.specs.Walk.{sub, sibling}
use Rattle.cuttree.proofs.Tests.{by_cond, by-test}
use Rattle.cuttree.proofs.Steps.{toward, aside, along, ending_step, height_step}
use Rattle.cuttree.proofs.Heights.{by_height, sub_top, sub_down, sibling_top, sibling_down, sub_leaf}
use Rattle.cuttree.proofs.Nodes.{In, here, left, right}
use Rattle.wholetree.specs.Reading.{Reading}
use Rattle.wholetree.specs.Whole.{whole}

module _ (d : ℕ) where
  -- a walk of one node below a branch, or of more
  by_one : {P : Type 0} (b : ℕ) (k : Cut (whole d)) (l r : Tree (whole d)) (p : Reading) →
      (height (whole d) (toward (whole d) k p l r) p ≡ 0 → height (whole d) (branch b k l r) p ≡ 1 → P) → (0 < height (whole d) (toward (whole d) k p l r) p → P) → P
  by_one b k l r p f e = let h = height (whole d) (toward (whole d) k p l r) p in by-test (eqb h 0)
      (λ x. let z : h ≡ 0 = eqb-true h 0 x in f z (height_step (whole d) b k l r p ∙ ap suc z))
      (λ x. let n = eqb-false h 0 x in e (omega arith))

  -- a sum over it
  pub sum_fork : (f : ℕ → Reading → ℕ → ℕ) (g : ℕ → ℕ) (c : ℕ) (p : Reading) (t : Tree (whole d)) → 0 < height (whole d) t p →
      sum (whole d) f g (sub (whole d) t 1 p) ≡ g (id (whole d) c (sub (whole d) t 1 p)) + (f (ending (whole d) t p).index (ending (whole d) t p).value (ending (whole d) t p).copies + sum (whole d) f g (sibling (whole d) t 0 p))
  sum_fork f g c p = along (whole d) (λ t. 0 < height (whole d) t p →
      sum (whole d) f g (sub (whole d) t 1 p) ≡ g (id (whole d) c (sub (whole d) t 1 p)) + (f (ending (whole d) t p).index (ending (whole d) t p).value (ending (whole d) t p).copies + sum (whole d) f g (sibling (whole d) t 0 p))) p
      (λ i q n m. absurd (omega arith))
      (λ b k l r ih m. let t = branch b k l r in let v = toward (whole d) k p l r in by_one b k l r p
      (λ z o. let own : sub (whole d) t 1 p ≡ t = ap (λ y. sub (whole d) t y p) (sym o) ∙ sub_top (whole d) t p in
      let other : sibling (whole d) t 0 p ≡ aside (whole d) k p l r = ap (λ y. sibling (whole d) t y p) (sym z) ∙ sibling_top (whole d) b k l r p in
      let end : v ≡ leaf (ending (whole d) v p).index (ending (whole d) v p).value (ending (whole d) v p).copies = sym (ap (λ y. sub (whole d) v y p) (sym z) ∙ sub_top (whole d) v p) ∙ sub_leaf (whole d) p v in
      rw (own, other, ending_step (whole d) b k l r p) (sides b k l r (ap (sum (whole d) f g) end)))
      (λ n. rw (sub_down (whole d) b k l r p 1 n, sibling_down (whole d) b k l r p 0 n, ending_step (whole d) b k l r p) (ih n)))
    where
      sides : (b : ℕ) (k : Cut (whole d)) (l r : Tree (whole d)) {e : ℕ} → sum (whole d) f g (toward (whole d) k p l r) ≡ e → sum (whole d) f g (branch b k l r) ≡ g b + (e + sum (whole d) f g (aside (whole d) k p l r))
      sides b k l r {e} h = by-test (below (whole d) k p)
          (λ y. let w : sum (whole d) f g l ≡ e = rw y at h in rw (y, w))
          (λ y. let w : sum (whole d) f g r ≡ e = rw y at h in rw (y, w) (omega arith))

  -- the sibling of a walk's node is a node of the tree
  pub in_sibling : (m : ℕ) (p : Reading) (t : Tree (whole d)) → m < height (whole d) t p → In (whole d) (sibling (whole d) t m p) t
  in_sibling m p = along (whole d) (λ t. m < height (whole d) t p → In (whole d) (sibling (whole d) t m p) t) p (λ i q n h. absurd (omega arith))
      (λ b k l r ih h. let t = branch b k l r in by_height (whole d) b k l r p (suc m) h
      (λ e. let z : m ≡ height (whole d) (toward (whole d) k p l r) p = omega (arith, height_step (whole d) b k l r p) in
      let other : sibling (whole d) t m p ≡ aside (whole d) k p l r = ap (λ y. sibling (whole d) t y p) z ∙ sibling_top (whole d) b k l r p in
      rw other (by_cond (λ y. In (whole d) y t) (below (whole d) k p) r l (λ _. right here) (λ _. left here)))
      (λ n. rw (sibling_down (whole d) b k l r p m n) (by_cond (λ y. In (whole d) (sibling (whole d) y m p) y → In (whole d) (sibling (whole d) y m p) t) (below (whole d) k p) l r (λ _ i. left i) (λ _ i. right i) (ih n))))
