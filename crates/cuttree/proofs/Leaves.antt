-- What holds of every leaf, after an add and after a delete; and the leaf that a walk ends in.
use mathlib.Core.Path.{◌≡◌, refl}
use mathlib.Core.Option.{Option, none, some}
use Prim.Native.Nat.{ℕ, suc, ◌-◌, ◌≤◌, ◌<◌}
use native.Mathlib.Omega.{arith}
use lib.Dec.{ltb}
use borrow.Author.Tests.{ltb-true}
use Rattle.cuttree.specs.Setting.{Setting, Cut, below}
use Rattle.cuttree.specs.Tree.{Tree, leaf, branch, ending, walk, leaves, mass, sum, parted, above, insert, add_copy, forget, or_lifted, All, OfTree}
use Rattle.cuttree.proofs.Tests.{by_cond}
use Rattle.cuttree.proofs.Steps.{toward, aside, rejoin, along, rejoined, ending_step, forget_step}

module _ (S : Setting) where
  open S use {Point, Word}

  -- a fact of what forgetting leaves, from the side that the point goes to
  pub lifted : (F G : Tree S → Type 0) (o : Option (Tree S)) (f : Tree S → Tree S) (s : Tree S) → OfTree S G o → F s → ((t : Tree S) → G t → F (f t)) → F (or_lifted S o f s)
  lifted F G none f s h hs hf = hs
  lifted F G (some t) f s h hs hf = hf t h

  pub all_map : (P Q : ℕ → Point → ℕ → Type 0) (t : Tree S) → ((i : ℕ) (q : Point) (n : ℕ) → P i q n → Q i q n) → All S P t → All S Q t
  all_map P Q (leaf i q n) f h = f i q n h
  all_map P Q (branch b k l r) f h = (all_map P Q l f h.0, all_map P Q r f h.1)

  pub all_both : (P Q : ℕ → Point → ℕ → Type 0) (t : Tree S) → All S P t → All S Q t → All S (λ i q n. P i q n × Q i q n) t
  all_both P Q (leaf i q n) x y = (x, y)
  all_both P Q (branch b k l r) x y = (all_both P Q l x.0 y.0, all_both P Q r x.1 y.1)

  module _ (P : ℕ → Point → ℕ → Type 0) where
    pub all_toward : (k : Cut S) (p : Point) (l r : Tree S) → All S P l × All S P r → All S P (toward S k p l r)
    all_toward k p l r h = by_cond (All S P) (below S k p) l r (λ _. h.0) (λ _. h.1)

    all_aside : (k : Cut S) (p : Point) (l r : Tree S) → All S P l × All S P r → All S P (aside S k p l r)
    all_aside k p l r h = by_cond (All S P) (below S k p) r l (λ _. h.1) (λ _. h.0)

    all_rejoin : (b : ℕ) (k : Cut S) (l r : Tree S) (p : Point) (x : Tree S) → All S P l × All S P r → All S P x → All S P (rejoin S b k l r p x)
    all_rejoin b k l r p x h e = by_cond (All S P) (below S k p) _ _ (λ _. (e, h.1)) (λ _. (h.0, e))

    all_above : (b : ℕ) (k : Cut S) (i : ℕ) (p : Point) (t : Tree S) → P i p 1 → All S P t → All S P (above S b k i p t)
    all_above b k i p t e h = by_cond (All S P) (below S k p) _ _ (λ _. (e, h)) (λ _. (h, e))

    pub all_insert : (b i : ℕ) (p : Point) (w : ℕ → Word) → P i p 1 → (t : Tree S) → All S P t → All S P (insert S b i p w t)
    all_insert b i p w e = along S (λ t. All S P t → All S P (insert S b i p w t)) p
        (λ j q n h. all_above b _ i p (leaf j q n) e h)
        (λ a k l r ih h. by_cond (All S P) (parted S (branch a k l r) p _) _ _ (λ _. all_above b _ i p (branch a k l r) e h)
        (λ _. rw (rejoined S a k l r p (insert S b i p w)) (all_rejoin a k l r p _ h (ih (all_toward k p l r h)))))

    pub all_copy : (p : Point) → ((i : ℕ) (q : Point) (n : ℕ) → P i q n → P i q (suc n)) → (t : Tree S) → All S P t → All S P (add_copy S p t)
    all_copy p more = along S (λ t. All S P t → All S P (add_copy S p t)) p (λ i q n h. more i q n h)
        (λ b k l r ih h. rw (rejoined S b k l r p (add_copy S p)) (all_rejoin b k l r p _ h (ih (all_toward k p l r h))))

    pub all_forget : (p : Point) → ((i : ℕ) (q : Point) (n : ℕ) → 1 < n → P i q n → P i q (n - 1)) → (t : Tree S) → All S P t → OfTree S (All S P) (forget S p t)
    all_forget p less = along S (λ t. All S P t → OfTree S (All S P) (forget S p t)) p
        (λ i q n h. by_cond (OfTree S (All S P)) (ltb 1 n) _ _ (λ e. less i q n (ltb-true 1 n e) h) (λ _. tt))
        (λ b k l r ih h. rw (forget_step S b k l r p)
        (lifted (All S P) (All S P) (forget S p (toward S k p l r)) (λ x. rejoin S b k l r p x) (aside S k p l r) (ih (all_toward k p l r h)) (all_aside k p l r h) (λ t y. all_rejoin b k l r p t h y)))

    pub all_ending : (p : Point) (t : Tree S) → All S P t → P (ending S t p).index (ending S t p).value (ending S t p).copies
    all_ending p = along S (λ t. All S P t → P (ending S t p).index (ending S t p).value (ending S t p).copies) p (λ i q n h. h)
        (λ b k l r ih h. rw (ending_step S b k l r p) (ih (all_toward k p l r h)))

  -- how many leaves: one more than branches, at least one, no fewer than a walk's nodes, no more than the copies
  pub leaves_branches : (t : Tree S) → leaves S t ≡ suc (sum S (λ i q n. 0) (λ b. 1) t)
  leaves_branches (leaf i q n) = refl
  leaves_branches (branch b k l r) = omega (arith, leaves_branches l, leaves_branches r)

  pub walk_leaves : (t : Tree S) (p : Point) → walk S t p ≤ leaves S t
  walk_leaves (leaf i q n) p = omega arith
  walk_leaves (branch b k l r) p = by_cond (λ x. suc (suc x) ≤ leaves S (branch b k l r)) (below S k p) _ _
      (λ _. omega (arith, walk_leaves l p, leaves_branches r)) (λ _. omega (arith, walk_leaves r p, leaves_branches l))

  pub leaves_mass : (t : Tree S) → All S (λ i q n. 0 < n) t → leaves S t ≤ mass S t
  leaves_mass (leaf i q n) h = omega arith
  leaves_mass (branch b k l r) h = omega (arith, leaves_mass l h.0, leaves_mass r h.1)
