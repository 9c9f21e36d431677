-- The nodes of a walk by their heights: the node at the top, the nodes further down, and what is put in a node's place.
use mathlib.Core.Path.{◌≡◌, refl, sym, ap, ◌∙◌}
use mathlib.Core.Logic.{◌≢◌}
use mathlib.Core.Bool.{Bool, false}
use Prim.Native.Nat.{ℕ, suc, ◌+◌, ◌≤◌}
use native.Mathlib.Omega.{arith}
use lib.Dec.{eqb}
use borrow.Author.Tests.{eqb-true, eqb-false, eq-eqb, ne_eqb}
use Rattle.cuttree.specs.Setting.{Setting, Cut, below}
use Rattle.cuttree.specs.Tree.{Tree, leaf, branch, Leaf, ending, height, end, sum}
use Rattle.cuttree.specs.Walk.{sub, sibling, replace}
use Rattle.cuttree.proofs.Tests.{by-test, cond_true, cond_false}
use Rattle.cuttree.proofs.Steps.{toward, aside, rejoin, along, rejoined, ending_step, height_step}
use Rattle.cuttree.proofs.Sums.{sum_rejoin}
use Rattle.cuttree.proofs.Orders.{End}
use Rattle.cuttree.proofs.Boxes.{end_sides}

module _ (S : Setting) where
  open S use {Coord, Chan, Point}

  -- AT THE TOP
  pub sub_top : (t : Tree S) (p : Point) → sub S t (height S t p) p ≡ t
  sub_top (leaf i q n) p = refl
  sub_top (branch b k l r) p = let H = height S (branch b k l r) p in rw (eq-eqb H H refl)

  pub replace_top : (t : Tree S) (p : Point) (s : Tree S) → replace S t (height S t p) p s ≡ s
  replace_top (leaf i q n) p s = refl
  replace_top (branch b k l r) p s = let H = height S (branch b k l r) p in rw (eq-eqb H H refl)

  -- FURTHER DOWN
  module _ (b : ℕ) (k : Cut S) (l r : Tree S) (p : Point) where
    lower : (h : ℕ) → h ≤ height S (toward S k p l r) p → eqb (height S (branch b k l r) p) h ≡ false
    lower h m = ne_eqb (height S (branch b k l r) p) h (λ e. omega (arith, height_step S b k l r p))

    pub sub_down : (h : ℕ) → h ≤ height S (toward S k p l r) p → sub S (branch b k l r) h p ≡ sub S (toward S k p l r) h p
    sub_down h m = cond_false _ _ _ (lower h m) ∙ by-test (below S k p) (λ e. rw e) (λ e. rw e)

    pub replace_down : (h : ℕ) (s : Tree S) → h ≤ height S (toward S k p l r) p → replace S (branch b k l r) h p s ≡ rejoin S b k l r p (replace S (toward S k p l r) h p s)
    replace_down h s m = cond_false _ _ _ (lower h m) ∙ rejoined S b k l r p (λ x. replace S x h p s)

    pub sibling_top : sibling S (branch b k l r) (height S (toward S k p l r) p) p ≡ aside S k p l r
    sibling_top = cond_true _ _ _ (eq-eqb (height S (branch b k l r) p) (suc (height S (toward S k p l r) p)) (height_step S b k l r p))

    pub sibling_down : (h : ℕ) → suc h ≤ height S (toward S k p l r) p → sibling S (branch b k l r) h p ≡ sibling S (toward S k p l r) h p
    sibling_down h m = cond_false _ _ _ (lower (suc h) m) ∙ by-test (below S k p) (λ e. rw e) (λ e. rw e)

  -- a height of a branch's walk: its own or one further down
  pub by_height : {P : Type 0} (b : ℕ) (k : Cut S) (l r : Tree S) (p : Point) (h : ℕ) → h ≤ height S (branch b k l r) p →
      (h ≡ height S (branch b k l r) p → P) → (h ≤ height S (toward S k p l r) p → P) → P
  by_height b k l r p h m f e = by-test (eqb h (height S (branch b k l r) p)) (λ x. f (eqb-true h (height S (branch b k l r) p) x))
      (λ x. let n : h ≢ height S (branch b k l r) p = eqb-false h (height S (branch b k l r) p) x in e (omega (arith, height_step S b k l r p)))

  pub height_sub : (h : ℕ) (p : Point) (t : Tree S) → h ≤ height S t p → height S (sub S t h p) p ≡ h
  height_sub h p = along S (λ t. h ≤ height S t p → height S (sub S t h p) p ≡ h) p (λ i q n m. omega arith)
      (λ b k l r ih m. by_height b k l r p h m
      (λ e. ap (λ x. height S (sub S (branch b k l r) x p) p) e ∙ ap (λ x. height S x p) (sub_top (branch b k l r) p) ∙ sym e)
      (λ n. ap (λ x. height S x p) (sub_down b k l r p h n) ∙ ih n))

  pub sub_sub : (h n : ℕ) (p : Point) → h ≤ n → (t : Tree S) → n ≤ height S t p → sub S (sub S t n p) h p ≡ sub S t h p
  sub_sub h n p c = along S (λ t. n ≤ height S t p → sub S (sub S t n p) h p ≡ sub S t h p) p (λ i q n m. refl)
      (λ b k l r ih m. by_height b k l r p n m
      (λ e. ap (λ x. sub S x h p) (ap (λ x. sub S (branch b k l r) x p) e ∙ sub_top (branch b k l r) p))
      (λ d. ap (λ x. sub S x h p) (sub_down b k l r p n d) ∙ ih d ∙ sym (sub_down b k l r p h (omega arith))))

  -- at the bottom: the leaf
  pub sub_leaf : (p : Point) (t : Tree S) → sub S t 0 p ≡ leaf (ending S t p).index (ending S t p).value (ending S t p).copies
  sub_leaf p = along S (λ t. sub S t 0 p ≡ leaf (ending S t p).index (ending S t p).value (ending S t p).copies) p (λ i q n. refl)
      (λ b k l r ih. sub_down b k l r p 0 (omega arith) ∙ ih ∙ ap (λ (x : Leaf S). leaf x.index x.value x.copies) (sym (ending_step S b k l r p)))

  -- what a sum gains and loses
  pub sum_replace : (f : ℕ → Point → ℕ → ℕ) (g : ℕ → ℕ) (h : ℕ) (p : Point) (s : Tree S) (t : Tree S) → h ≤ height S t p → sum S f g (replace S t h p s) + sum S f g (sub S t h p) ≡ sum S f g t + sum S f g s
  sum_replace f g h p s = along S (λ t. h ≤ height S t p → sum S f g (replace S t h p s) + sum S f g (sub S t h p) ≡ sum S f g t + sum S f g s) p
      (λ i q n m. omega arith)
      (λ b k l r ih m. by_height b k l r p h m
      (λ e. let x = ap (λ y. sum S f g (replace S (branch b k l r) y p s)) e ∙ ap (λ y. sum S f g y) (replace_top (branch b k l r) p s) in
      let y = ap (λ y. sum S f g (sub S (branch b k l r) y p)) e ∙ ap (λ y. sum S f g y) (sub_top (branch b k l r) p) in omega (arith, x, y))
      (λ c. let x = ap (λ y. sum S f g y) (replace_down b k l r p h s c) in let y = ap (λ y. sum S f g y) (sub_down b k l r p h c) in
      omega (arith, x, y, ih c, sum_rejoin S f g b k l r p (replace S (toward S k p l r) h p s))))

  -- a node's box is that of the node below it and of that one's sibling
  pub end_up : {m : Coord → Coord → Coord} {to : Coord → Coord → Bool} → End S m to → (d : Chan) (h : ℕ) (p : Point) (t : Tree S) → suc h ≤ height S t p →
      end S m (sub S t (suc h) p) d ≡ m (end S m (sub S t h p) d) (end S m (sibling S t h p) d)
  end_up {m} E d h p = along S (λ t. suc h ≤ height S t p → end S m (sub S t (suc h) p) d ≡ m (end S m (sub S t h p) d) (end S m (sibling S t h p) d)) p
      (λ i q n c. absurd (omega arith))
      (λ b k l r ih c. by_height b k l r p (suc h) c
      (λ e. let z : h ≡ height S (toward S k p l r) p = omega (arith, height_step S b k l r p) in
      ap (λ x. end S m x d) (ap (λ x. sub S (branch b k l r) x p) e ∙ sub_top (branch b k l r) p) ∙ end_sides S E b k l r p d
      ∙ sym (ap (λ x. m (end S m x d) (end S m (sibling S (branch b k l r) h p) d)) (sub_down b k l r p h (omega arith) ∙ ap (λ x. sub S (toward S k p l r) x p) z ∙ sub_top (toward S k p l r) p)
      ∙ ap (λ x. m (end S m (toward S k p l r) d) (end S m x d)) (ap (λ x. sibling S (branch b k l r) x p) z ∙ sibling_top b k l r p)))
      (λ n. ap (λ x. end S m x d) (sub_down b k l r p (suc h) n) ∙ ih n
      ∙ sym (ap (λ x. m (end S m x d) (end S m (sibling S (branch b k l r) h p) d)) (sub_down b k l r p h (omega arith))
      ∙ ap (λ x. m (end S m (sub S (toward S k p l r) h p) d) (end S m x d)) (sibling_down b k l r p h n))))
