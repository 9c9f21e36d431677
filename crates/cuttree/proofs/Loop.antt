-- The loop from leaf to root, keeping the highest cut that parts, gives the insertion from the root down; and once a box holds the
-- point no box above it parts, so that the words there are counted and do nothing.
use mathlib.Core.Path.{◌≡◌, refl, sym, ap, ◌∙◌, subst}
use mathlib.Core.Bool.{true, false, cond}
use Prim.Native.Nat.{ℕ, zero, suc, ◌≤◌}
use native.Mathlib.Omega.{arith}
use lib.Dec.{leb}
use borrow.Author.Tests.{leb-true, leb-false}
use Rattle.cuttree.specs.Setting.{Setting, Laws, Cut, below, parts}
use Rattle.cuttree.specs.Tree.{Tree, leaf, branch, height, walk, found, lo, hi, drawn, parted, above, insert}
use Rattle.cuttree.specs.Walk.{sub, replace, kept, graft}
use Rattle.cuttree.proofs.Tests.{by_cond, by-test, clash, by_parts, cond_true, cond_false}
use Rattle.cuttree.proofs.Steps.{toward, rejoin, along, rejoined, ending_step, height_step}
use Rattle.cuttree.proofs.Orders.{least_end, most_end}
use Rattle.cuttree.proofs.Heights.{sub_top, replace_top, sub_down, replace_down, by_height, height_sub, sub_sub, sub_leaf}

module _ (S : Setting) where
  open S use {Chan, Point, Word, le, at}

  kept_down : (b : ℕ) (k : Cut S) (l r : Tree S) (p : Point) (w : ℕ → Word) (s : ℕ × Cut S) (m : ℕ) → m ≤ walk S (toward S k p l r) p → kept S (branch b k l r) p w s m ≡ kept S (toward S k p l r) p w s m
  kept_down b k l r p w s zero h = refl
  kept_down b k l r p w s (suc m) h =
      ap (λ x. cond (parted S x p (w m)) (m, drawn S x p (w m)) (kept S (branch b k l r) p w s m)) (sub_down S b k l r p m (omega arith))
      ∙ ap (λ x. cond (parted S (sub S (toward S k p l r) m p) p (w m)) (m, drawn S (sub S (toward S k p l r) m p) p (w m)) x) (kept_down b k l r p w s m (omega arith))

  graft_down : (b i : ℕ) (a : ℕ) (k : Cut S) (l r : Tree S) (p : Point) (x : ℕ × Cut S) → x.0 ≤ height S (toward S k p l r) p → graft S b i p x (branch a k l r) ≡ rejoin S a k l r p (graft S b i p x (toward S k p l r))
  graft_down b i a k l r p x h = replace_down S a k l r p x.0 _ h ∙ ap (λ y. rejoin S a k l r p (replace S (toward S k p l r) x.0 p (above S b x.1 i p y))) (sub_down S a k l r p x.0 h)

  -- the loop at its last node: the new branch stands above the whole tree, or where it stands in the side that the point goes to
  kept_last : (p : Point) (w : ℕ → Word) (s : ℕ × Cut S) (t : Tree S) → kept S t p w s (walk S t p) ≡ cond (parted S t p (w (height S t p))) (height S t p, drawn S t p (w (height S t p))) (kept S t p w s (height S t p))
  kept_last p w s t = ap (λ x. cond (parted S x p (w (height S t p))) (height S t p, drawn S x p (w (height S t p))) (kept S t p w s (height S t p))) (sub_top S t p)

  graft_top : (b i : ℕ) (p : Point) (k : Cut S) (t : Tree S) → graft S b i p (height S t p, k) t ≡ above S b k i p t
  graft_top b i p k t = replace_top S t p _ ∙ ap (λ x. above S b k i p x) (sub_top S t p)

  kept_here : (b i : ℕ) (p : Point) (w : ℕ → Word) (s : ℕ × Cut S) (t : Tree S) → parted S t p (w (height S t p)) ≡ true → graft S b i p (kept S t p w s (walk S t p)) t ≡ above S b (drawn S t p (w (height S t p))) i p t
  kept_here b i p w s t e = ap (λ x. graft S b i p x t) (kept_last p w s t ∙ cond_true _ _ _ e) ∙ graft_top b i p _ t

  kept_lower : (b i a : ℕ) (k : Cut S) (l r : Tree S) (p : Point) (w : ℕ → Word) (s : ℕ × Cut S) → parted S (branch a k l r) p (w (height S (branch a k l r) p)) ≡ false →
      (kept S (toward S k p l r) p w s (walk S (toward S k p l r) p)).0 ≤ height S (toward S k p l r) p →
      graft S b i p (kept S (branch a k l r) p w s (walk S (branch a k l r) p)) (branch a k l r) ≡ rejoin S a k l r p (graft S b i p (kept S (toward S k p l r) p w s (walk S (toward S k p l r) p)) (toward S k p l r))
  kept_lower b i a k l r p w s e h =
      ap (λ x. graft S b i p x (branch a k l r))
      (kept_last p w s (branch a k l r) ∙ cond_false _ _ _ e ∙ ap (λ m. kept S (branch a k l r) p w s m) (height_step S a k l r p) ∙ kept_down a k l r p w s (walk S (toward S k p l r) p) (omega arith))
      ∙ graft_down b i a k l r p (kept S (toward S k p l r) p w s (walk S (toward S k p l r) p)) h

  module _ (L : Laws S) where
    -- the cut drawn at the leaf of another value parts
    pub leaf_parted : (p : Point) (t : Tree S) (x : Word) → found S t p ≡ false → parted S (sub S t 0 p) p x ≡ true
    leaf_parted p t x h = ap (λ y. parted S y p x) (sub_leaf S p t) ∙ L.parts_leaf p _ x h

    pub kept_height : (p : Point) (t : Tree S) (w : ℕ → Word) (s : ℕ × Cut S) (m : ℕ) → found S t p ≡ false → (kept S t p w s (suc m)).0 ≤ m
    kept_height p t w s zero h = rw (leaf_parted p t (w 0) h) (omega arith)
    kept_height p t w s (suc m) h = by_cond (λ (x : ℕ × Cut S). x.0 ≤ suc m) (parted S (sub S t (suc m) p) p (w (suc m))) _ _ (λ _. omega arith) (λ _. omega (arith, kept_height p t w s m h))

    pub insert_loop : (b i : ℕ) (p : Point) (w : ℕ → Word) (s : ℕ × Cut S) (t : Tree S) → found S t p ≡ false → insert S b i p w t ≡ graft S b i p (kept S t p w s (walk S t p)) t
    insert_loop b i p w s = along S (λ t. found S t p ≡ false → insert S b i p w t ≡ graft S b i p (kept S t p w s (walk S t p)) t) p
        (λ j q n h. ap (λ (x : ℕ × Cut S). above S b x.1 i p (leaf j q n)) (sym (cond_true _ _ s (L.parts_leaf p q (w 0) h))))
        (λ a k l r ih h.
        let f : found S (toward S k p l r) p ≡ false = rw (ending_step S a k l r p, found) at h in
        by_cond (λ x. x ≡ graft S b i p (kept S (branch a k l r) p w s (walk S (branch a k l r) p)) (branch a k l r)) (parted S (branch a k l r) p (w (height S (branch a k l r) p))) _ _
        (λ e. sym (kept_here b i p w s (branch a k l r) e))
        (λ e. rejoined S a k l r p (insert S b i p w) ∙ ap (λ x. rejoin S a k l r p x) (ih f) ∙ sym (kept_lower b i a k l r p w s e (kept_height p (toward S k p l r) w s (height S (toward S k p l r) p) f))))

    -- A BOX THAT HOLDS THE POINT
    abbrev pub Inside : Tree S → Point → Type 0
    Inside t p = (d : Chan) → (le (lo S t d) (at p d) ≡ true) × (le (at p d) (hi S t d) ≡ true)

    pub inside_parts : (k : Cut S) (t : Tree S) (p : Point) → Inside t p → parts S k (lo S t) (hi S t) p ≡ false
    inside_parts k t p h = by-test (parts S k (lo S t) (hi S t) p)
        (λ e. by_parts (below S k p) (le (lo S t k.channel) k.value) (le (hi S t k.channel) k.value) e
        (λ x y. clash (le (lo S t k.channel) k.value) (L.le_trans _ _ _ (h k.channel).0 x) y)
        (λ x y. clash (below S k p) (L.le_trans _ _ _ (h k.channel).1 y) x))
        (λ e. e)

    inside_step : (b : ℕ) (k : Cut S) (l r : Tree S) (p : Point) → Inside (toward S k p l r) p → Inside (branch b k l r) p
    inside_step b k l r p = by_cond (λ x. Inside x p → Inside (branch b k l r) p) (below S k p) l r
        (λ _ h d. (L.le_trans _ _ _ ((least_end S L).first (lo S l d) (lo S r d)) (h d).0, L.le_trans _ _ _ (h d).1 ((most_end S L).first (hi S l d) (hi S r d))))
        (λ _ h d. (L.le_trans _ _ _ ((least_end S L).second (lo S l d) (lo S r d)) (h d).0, L.le_trans _ _ _ (h d).1 ((most_end S L).second (hi S l d) (hi S r d))))

    inside_whole : (m : ℕ) (p : Point) (t : Tree S) → m ≤ height S t p → Inside (sub S t m p) p → Inside t p
    inside_whole m p = along S (λ t. m ≤ height S t p → Inside (sub S t m p) p → Inside t p) p (λ i q n _ h. h)
        (λ b k l r ih c h. by_height S b k l r p m c
        (λ e. subst (λ x. Inside x p) (ap (λ x. sub S (branch b k l r) x p) e ∙ sub_top S (branch b k l r) p) h)
        (λ n. inside_step b k l r p (ih n (subst (λ x. Inside x p) (sub_down S b k l r p m n) h))))

    pub inside_up : (m n : ℕ) (p : Point) (t : Tree S) → m ≤ n → n ≤ height S t p → Inside (sub S t m p) p → Inside (sub S t n p) p
    inside_up m n p t a c h = inside_whole m p (sub S t n p) (omega (arith, height_sub S n p t c)) (subst (λ x. Inside x p) (sym (sub_sub S m n p a t c)) h)

    pub kept_inside : (m n : ℕ) (p : Point) (t : Tree S) (w : ℕ → Word) (s : ℕ × Cut S) → m ≤ n → n ≤ walk S t p → Inside (sub S t m p) p → kept S t p w s n ≡ kept S t p w s m
    kept_inside m zero p t w s a c h = let z : m ≡ 0 = omega arith in rw z
    kept_inside m (suc n) p t w s a c h = by-test (leb m n)
        (λ e. let z : m ≤ n = leb-true m n e in cond_false _ _ _ (inside_parts _ (sub S t n p) p (inside_up m n p t z (omega arith) h)) ∙ kept_inside m n p t w s z (omega arith) h)
        (λ e. let z : m ≡ suc n = omega (arith, leb-false m n e) in rw z)
