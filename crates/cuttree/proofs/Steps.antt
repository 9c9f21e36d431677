-- One step of a walk: the side of a branch that a point goes to, and the branch with that side exchanged. Induction along a walk
-- treats left and right at once.
use mathlib.Core.Path.{◌≡◌}
use mathlib.Core.Bool.{cond}
use Prim.Native.Nat.{ℕ, suc}
use Rattle.cuttree.specs.Setting.{Setting, Cut, below}
use Rattle.cuttree.specs.Tree.{Tree, leaf, branch, height, ending, forget, freed, or_lifted, or_parent}
use Rattle.cuttree.proofs.Tests.{by_cond, by-test}

module _ (S : Setting) where
  open S use {Point}

  abbrev pub toward : Cut S → Point → Tree S → Tree S → Tree S
  toward k p l r = cond (below S k p) l r

  abbrev pub aside : Cut S → Point → Tree S → Tree S → Tree S
  aside k p l r = cond (below S k p) r l

  abbrev pub rejoin : ℕ → Cut S → Tree S → Tree S → Point → Tree S → Tree S
  rejoin b k l r p x = cond (below S k p) (branch b k x r) (branch b k l x)

  pub along : (P : Tree S → Type 0) (p : Point) → ((i : ℕ) (q : Point) (n : ℕ) → P (leaf i q n))
      → ((b : ℕ) (k : Cut S) (l r : Tree S) → P (toward k p l r) → P (branch b k l r)) → (t : Tree S) → P t
  along P p f h (leaf i q n) = f i q n
  along P p f h (branch b k l r) = h b k l r (by_cond P (below S k p) l r (λ _. along P p f h l) (λ _. along P p f h r))

  -- each definition at a branch, by the side that the point goes to
  module _ (b : ℕ) (k : Cut S) (l r : Tree S) (p : Point) where
    pub rejoined : (h : Tree S → Tree S) → cond (below S k p) (branch b k (h l) r) (branch b k l (h r)) ≡ rejoin b k l r p (h (toward k p l r))
    rejoined h = by-test (below S k p) (λ e. rw e) (λ e. rw e)

    pub ending_step : ending S (branch b k l r) p ≡ ending S (toward k p l r) p
    ending_step = by-test (below S k p) (λ e. rw e) (λ e. rw e)

    pub height_step : height S (branch b k l r) p ≡ suc (height S (toward k p l r) p)
    height_step = by-test (below S k p) (λ e. rw e) (λ e. rw e)

    pub forget_step : cond (below S k p) (or_lifted S (forget S p l) (λ t. branch b k t r) r) (or_lifted S (forget S p r) (λ t. branch b k l t) l)
        ≡ or_lifted S (forget S p (toward k p l r)) (λ x. rejoin b k l r p x) (aside k p l r)
    forget_step = by-test (below S k p) (λ e. rw e) (λ e. rw e)

    pub freed_step : freed S p (branch b k l r) ≡ or_parent S (forget S p (toward k p l r)) b (freed S p (toward k p l r))
    freed_step = by-test (below S k p) (λ e. rw e) (λ e. rw e)
