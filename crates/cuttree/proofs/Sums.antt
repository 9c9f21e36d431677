-- What an add and a delete do to a sum over the tree: every count of copies, leaves, branches and numbers is one.
use mathlib.Core.Path.{◌≡◌, refl}
use mathlib.Core.Bool.{cond}
use mathlib.Core.Option.{Option, none, some}
use Prim.Native.Nat.{ℕ, suc, ◌+◌, ◌-◌}
use native.Mathlib.Omega.{arith}
use lib.Dec.{ltb}
use Rattle.cuttree.specs.Setting.{Setting, Cut, below}
use Rattle.cuttree.specs.Tree.{Tree, leaf, branch, Leaf, ending, sum, sum_of, parted, above, insert, add_copy, forget, freed, or_lifted, or_parent}
use Rattle.cuttree.proofs.Tests.{by_cond, by-test}
use Rattle.cuttree.proofs.Steps.{toward, aside, rejoin, along, rejoined, ending_step, forget_step, freed_step}

abbrev pub number_in : (ℕ → ℕ) → Option ℕ → ℕ
number_in g none = 0
number_in g (some b) = g b

module _ (S : Setting) where
  open S use {Point, Word}

  pub freed_none : (p : Point) (t : Tree S) → forget S p t ≡ none → freed S p t ≡ none
  freed_none p (leaf i q n) e = refl
  freed_none p (branch b k l r) e = cc

  module _ (f : ℕ → Point → ℕ → ℕ) (g : ℕ → ℕ) where
    pub sum_rejoin : (b : ℕ) (k : Cut S) (l r : Tree S) (p : Point) (x : Tree S) →
        sum S f g (rejoin S b k l r p x) + sum S f g (toward S k p l r) ≡ sum S f g (branch b k l r) + sum S f g x
    sum_rejoin b k l r p x = by-test (below S k p) (λ e. rw e (omega arith)) (λ e. rw e (omega arith))

    pub sum_sides : (b : ℕ) (k : Cut S) (l r : Tree S) (p : Point) → sum S f g (branch b k l r) ≡ g b + (sum S f g (toward S k p l r) + sum S f g (aside S k p l r))
    sum_sides b k l r p = by-test (below S k p) (λ e. rw e) (λ e. rw e (omega arith))

    pub sum_above : (b : ℕ) (k : Cut S) (i : ℕ) (p : Point) (t : Tree S) → sum S f g (above S b k i p t) ≡ sum S f g t + (g b + f i p 1)
    sum_above b k i p t = by_cond (λ x. sum S f g x ≡ sum S f g t + (g b + f i p 1)) (below S k p) _ _ (λ _. omega arith) (λ _. omega arith)

    pub sum_insert : (b i : ℕ) (p : Point) (w : ℕ → Word) (t : Tree S) → sum S f g (insert S b i p w t) ≡ sum S f g t + (g b + f i p 1)
    sum_insert b i p w = along S (λ t. sum S f g (insert S b i p w t) ≡ sum S f g t + (g b + f i p 1)) p
        (λ j q n. sum_above b _ i p (leaf j q n))
        (λ a k l r h. by_cond (λ x. sum S f g x ≡ sum S f g (branch a k l r) + (g b + f i p 1)) (parted S (branch a k l r) p _) _ _
        (λ _. sum_above b _ i p (branch a k l r))
        (λ _. rw (rejoined S a k l r p (insert S b i p w)) (omega (arith, sum_rejoin a k l r p (insert S b i p w (toward S k p l r)), h))))

    -- one copy more at the walk's leaf
    pub sum_copy : (p : Point) (t : Tree S) → sum S f g (add_copy S p t) + f (ending S t p).index (ending S t p).value (ending S t p).copies
        ≡ sum S f g t + f (ending S t p).index (ending S t p).value (suc (ending S t p).copies)
    sum_copy p = along S (λ t. sum S f g (add_copy S p t) + f (ending S t p).index (ending S t p).value (ending S t p).copies
        ≡ sum S f g t + f (ending S t p).index (ending S t p).value (suc (ending S t p).copies)) p
        (λ i q n. omega arith)
        (λ b k l r h. rw (rejoined S b k l r p (add_copy S p), ending_step S b k l r p) (omega (arith, sum_rejoin b k l r p (add_copy S p (toward S k p l r)), h)))

    -- one copy less, or the leaf and the branch above it gone
    abbrev pub lessened : Leaf S → ℕ
    lessened e = cond (ltb 1 e.copies) (f e.index e.value (e.copies - 1)) 0

    abbrev Forgotten : Point → Tree S → Option (Tree S) → Option ℕ → Type 0
    Forgotten p t o z = sum_of S f g o + number_in g z + f (ending S t p).index (ending S t p).value (ending S t p).copies ≡ sum S f g t + lessened (ending S t p)

    pub sum_forget : (p : Point) (t : Tree S) → Forgotten p t (forget S p t) (freed S p t)
    sum_forget p = along S (λ t. Forgotten p t (forget S p t) (freed S p t)) p
        (λ i q n. by-test (ltb 1 n) (λ e. rw e (omega arith)) (λ e. rw e (omega arith)))
        (λ b k l r h. rw (forget_step S b k l r p, freed_step S b k l r p, ending_step S b k l r p)
        (step b k l r p (forget S p (toward S k p l r)) (freed S p (toward S k p l r)) (freed_none p (toward S k p l r)) h))
      where
        step : (b : ℕ) (k : Cut S) (l r : Tree S) (p : Point) (o : Option (Tree S)) (z : Option ℕ) → (o ≡ none → z ≡ none) → Forgotten p (toward S k p l r) o z →
            sum S f g (or_lifted S o (λ x. rejoin S b k l r p x) (aside S k p l r)) + number_in g (or_parent S o b z)
            + f (ending S (toward S k p l r) p).index (ending S (toward S k p l r) p).value (ending S (toward S k p l r) p).copies
            ≡ sum S f g (branch b k l r) + lessened (ending S (toward S k p l r) p)
        step b k l r p none z c h = let y : number_in g z ≡ 0 = rw (c refl) in omega (arith, sum_sides b k l r p)
        step b k l r p (some t) z c h = omega (arith, sum_rejoin b k l r p t)
