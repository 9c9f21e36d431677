-- The cut clause is kept by every edit, and by it a value's walk ends in its own leaf.
use mathlib.Core.Path.{◌≡◌, refl, sym, ap, ◌∙◌}
use mathlib.Core.Bool.{Bool, true, false, cond, not}
use mathlib.Core.Option.{Option, none, some}
use Prim.Native.Nat.{ℕ, ◌<◌}
use native.Mathlib.Omega.{arith}
use lib.Dec.{ltb}
use borrow.Author.Tests.{lt-ltb}
use Rattle.cuttree.specs.Setting.{Setting, Laws, Cut, below, parts}
use Rattle.cuttree.specs.Tree.{Tree, leaf, branch, lo, hi, ending, found, sum, copies, parted, above, insert, add_copy, forget, All, Side, CutClause, OfTree}
use Rattle.cuttree.proofs.Tests.{by_cond, by-test, clash, by_parts}
use Rattle.cuttree.proofs.Steps.{toward, aside, rejoin, along, rejoined, ending_step, forget_step}
use Rattle.cuttree.proofs.Leaves.{lifted, all_map, all_both, all_insert, all_copy, all_forget, all_ending}
use Rattle.cuttree.proofs.Orders.{least_end, most_end, not_le}
use Rattle.cuttree.proofs.Boxes.{end_before}

module _ (S : Setting) where
  open S use {Point, Word, le, at, same}

  side_toward : (b : ℕ) (k : Cut S) (l r : Tree S) (p : Point) → CutClause S (branch b k l r) → Side S k (below S k p) (toward S k p l r)
  side_toward b k l r p c = by-test (below S k p) (λ e. rw e c.0) (λ e. rw e c.1)

  pub side_aside : (b : ℕ) (k : Cut S) (l r : Tree S) (p : Point) → CutClause S (branch b k l r) → Side S k (not (below S k p)) (aside S k p l r)
  side_aside b k l r p c = by-test (below S k p) (λ e. rw e c.1) (λ e. rw e c.0)

  pub cut_toward : (b : ℕ) (k : Cut S) (l r : Tree S) (p : Point) → CutClause S (branch b k l r) → CutClause S (toward S k p l r)
  cut_toward b k l r p c = by_cond (CutClause S) (below S k p) l r (λ _. c.2) (λ _. c.3)

  cut_aside : (b : ℕ) (k : Cut S) (l r : Tree S) (p : Point) → CutClause S (branch b k l r) → CutClause S (aside S k p l r)
  cut_aside b k l r p c = by_cond (CutClause S) (below S k p) r l (λ _. c.3) (λ _. c.2)

  cut_rejoin : (b : ℕ) (k : Cut S) (l r : Tree S) (p : Point) (x : Tree S) → CutClause S (branch b k l r) → Side S k (below S k p) x → CutClause S x → CutClause S (rejoin S b k l r p x)
  cut_rejoin b k l r p x c s h = by-test (below S k p)
      (λ e. rw e (rw e at s, c.1, h, c.3))
      (λ e. rw e (c.0, rw e at s, c.2, h))

  pub cut_copy : (p : Point) (t : Tree S) → CutClause S t → CutClause S (add_copy S p t)
  cut_copy p = along S (λ t. CutClause S t → CutClause S (add_copy S p t)) p (λ i q n c. tt)
      (λ b k l r ih c. rw (rejoined S b k l r p (add_copy S p))
      (cut_rejoin b k l r p _ c (all_copy S _ p (λ i q n h. h) (toward S k p l r) (side_toward b k l r p c)) (ih (cut_toward b k l r p c))))

  -- both facts of what is left
  both_left : (F G : Tree S → Type 0) (o : Option (Tree S)) → OfTree S F o → OfTree S G o → OfTree S (λ t. F t × G t) o
  both_left F G none x y = tt
  both_left F G (some t) x y = (x, y)

  pub cut_forget : (p : Point) (t : Tree S) → CutClause S t → OfTree S (CutClause S) (forget S p t)
  cut_forget p = along S (λ t. CutClause S t → OfTree S (CutClause S) (forget S p t)) p
      (λ i q n c. by_cond (OfTree S (CutClause S)) (ltb 1 n) _ _ (λ _. tt) (λ _. tt))
      (λ b k l r ih c. rw (forget_step S b k l r p)
      (lifted S (CutClause S) (λ t. Side S k (below S k p) t × CutClause S t) (forget S p (toward S k p l r)) (λ x. rejoin S b k l r p x) (aside S k p l r)
      (both_left (Side S k (below S k p)) (CutClause S) (forget S p (toward S k p l r)) (all_forget S _ p (λ i q n _ h. h) (toward S k p l r) (side_toward b k l r p c)) (ih (cut_toward b k l r p c)))
      (cut_aside b k l r p c) (λ t h. cut_rejoin b k l r p t c h.0 h.1)))

  module _ (L : Laws S) where
    open L use {le_trans, same_refl, same_cong, same_at, parts_leaf}

    cut_above : (b : ℕ) (k : Cut S) (i : ℕ) (p : Point) (t : Tree S) → parts S k (lo S t) (hi S t) p ≡ true → CutClause S t → CutClause S (above S b k i p t)
    cut_above b k i p t h c =
        by_parts (below S k p) (le (lo S t k.channel) k.value) (le (hi S t k.channel) k.value) h
        (λ f g. rw f (f, all_map S _ _ t (λ i q n x. not_le S L _ _ _ x g) (end_before S (least_end S L) k.channel t), tt, c))
        (λ f g. rw f (all_map S _ _ t (λ i q n x. le_trans _ _ _ x g) (end_before S (most_end S L) k.channel t), f, c, tt))

    pub cut_insert : (b i : ℕ) (p : Point) (w : ℕ → Word) (t : Tree S) → found S t p ≡ false → CutClause S t → CutClause S (insert S b i p w t)
    cut_insert b i p w = along S (λ t. found S t p ≡ false → CutClause S t → CutClause S (insert S b i p w t)) p
        (λ j q n h c. cut_above b _ i p (leaf j q n) (parts_leaf p q _ h) c)
        (λ a k l r ih h c. by_cond (CutClause S) (parted S (branch a k l r) p _) _ _ (λ e. cut_above b _ i p (branch a k l r) e c)
        (λ _. rw (rejoined S a k l r p (insert S b i p w))
        (cut_rejoin a k l r p _ c (all_insert S (λ i q n. below S k q ≡ below S k p) b i p w refl (toward S k p l r) (side_toward a k l r p c))
        (ih (rw (ending_step S a k l r p, found) at h) (cut_toward a k l r p c)))))

    -- ONE LEAF OF A VALUE AT MOST: the one that its walk ends in
    pub same_below : (k : Cut S) (q v : Point) → same q v ≡ true → below S k v ≡ below S k q
    same_below k q v s = ap (λ x. le x k.value) (sym (same_at q v s k.channel))

    not_self : (x : Bool) → x ≡ not x → ⊥
    not_self true e = clash true refl e
    not_self false e = clash false e refl

    differ : (k : Cut S) (q v : Point) → below S k q ≡ not (below S k v) → same q v ≡ false
    differ k q v h = by-test (same q v) (λ s. absurd (not_self (below S k v) (same_below k q v s ∙ h))) (λ s. s)

    sum_none : (f : ℕ → Point → ℕ → ℕ) (t : Tree S) → All S (λ i q n. f i q n ≡ 0) t → sum S f (λ b. 0) t ≡ 0
    sum_none f (leaf i q n) h = h
    sum_none f (branch b k l r) h = omega (arith, sum_none f l h.0, sum_none f r h.1)

    -- a sum over the leaves of a value is that of its walk's leaf
    pub sum_found : (f : ℕ → ℕ) (v : Point) (t : Tree S) → CutClause S t →
        sum S (λ i q n. cond (same q v) (f n) 0) (λ b. 0) t ≡ cond (found S t v) (f (ending S t v).copies) 0
    sum_found f v = along S (λ t. CutClause S t → sum S (λ i q n. cond (same q v) (f n) 0) (λ b. 0) t ≡ cond (found S t v) (f (ending S t v).copies) 0) v
        (λ i q n c. refl)
        (λ b k l r ih c. rw (ending_step S b k l r v, found)
        (sides b k l r (sum_none (λ i q n. cond (same q v) (f n) 0) (aside S k v l r) (all_map S _ _ (aside S k v l r) (λ i q n h. rw (differ k q v h)) (side_aside b k l r v c)))
        ∙ ih (cut_toward b k l r v c)))
      where
        sides : (b : ℕ) (k : Cut S) (l r : Tree S) → sum S (λ i q n. cond (same q v) (f n) 0) (λ b. 0) (aside S k v l r) ≡ 0 →
            sum S (λ i q n. cond (same q v) (f n) 0) (λ b. 0) (branch b k l r) ≡ sum S (λ i q n. cond (same q v) (f n) 0) (λ b. 0) (toward S k v l r)
        sides b k l r z = by-test (below S k v) (λ e. let y : sum S (λ i q n. cond (same q v) (f n) 0) (λ b. 0) r ≡ 0 = rw e at z in rw e (omega arith))
            (λ e. let y : sum S (λ i q n. cond (same q v) (f n) 0) (λ b. 0) l ≡ 0 = rw e at z in rw e (omega arith))

    -- each leaf's value walks to that leaf
    pub leaf_ending : (t : Tree S) → CutClause S t → All S (λ i q n. ending S t q ≡ record { index = i; value = q; copies = n }) t
    leaf_ending (leaf i q n) c = refl
    leaf_ending (branch b k l r) c = (
      all_map S _ _ l (λ i q n h. rw h.0 h.1) (all_both S (λ i q n. below S k q ≡ true) _ l c.0 (leaf_ending l c.2)),
      all_map S _ _ r (λ i q n h. rw h.0 h.1) (all_both S (λ i q n. below S k q ≡ false) _ r c.1 (leaf_ending r c.3)),
    )

    -- equal values have one walk
    pub same_ending : (q v : Point) → same q v ≡ true → (t : Tree S) → ending S t q ≡ ending S t v
    same_ending q v s (leaf i p n) = refl
    same_ending q v s (branch b k l r) = rw (same_below k q v s) (by_cond (λ x. cond (below S k q) (ending S l q) (ending S r q) ≡ x) (below S k q) _ _
        (λ e. rw e (same_ending q v s l)) (λ e. rw e (same_ending q v s r)))

    -- a value is held exactly when its walk ends in its leaf
    pub held_found : (t : Tree S) (v : Point) → CutClause S t → All S (λ i q n. 0 < n) t → ltb 0 (copies S t v) ≡ found S t v
    held_found t v c h = rw (sum_found (λ n. n) v t c) (by-test (found S t v) (λ e. rw e (lt-ltb 0 _ (all_ending S (λ i q n. 0 < n) v t h))) (λ e. rw e))
