-- The box of a tree: smallest around its leaves; of a branch by its sides, and of a new branch.
use mathlib.Core.Path.{◌≡◌, refl}
use mathlib.Core.Logic.{◌⊎◌, inl, inr}
use mathlib.Core.Bool.{Bool, true}
use Prim.Native.Nat.{ℕ}
use Rattle.cuttree.specs.Setting.{Setting, Cut, below}
use Rattle.cuttree.specs.Tree.{Tree, leaf, branch, end, above, All, Some}
use Rattle.cuttree.proofs.Tests.{by_cond, by-test}
use Rattle.cuttree.proofs.Steps.{toward, aside, rejoin}
use Rattle.cuttree.proofs.Leaves.{all_map}
use Rattle.cuttree.proofs.Orders.{End, to_refl, end_comm}

module _ (S : Setting) where
  open S use {Coord, Chan, Point, at}

  module _ {m : Coord → Coord → Coord} {to : Coord → Coord → Bool} (E : End S m to) where
    -- SMALLEST: the end stands before every leaf's coordinate and is one of them
    pub end_before : (d : Chan) (t : Tree S) → All S (λ i q n. to (end S m t d) (at q d) ≡ true) t
    end_before d (leaf i q n) = to_refl S E (at q d)
    end_before d (branch b k l r) = (
      all_map S _ _ l (λ i q n h. E.trans _ _ _ (E.first (end S m l d) (end S m r d)) h) (end_before d l),
      all_map S _ _ r (λ i q n h. E.trans _ _ _ (E.second (end S m l d) (end S m r d)) h) (end_before d r),
    )

    some_at : (d : Chan) (c e : Coord) (t : Tree S) → c ≡ e → Some S (λ i q n. e ≡ at q d) t → Some S (λ i q n. c ≡ at q d) t
    some_at d c e t h s = rw h s

    pub end_met : (d : Chan) (t : Tree S) → Some S (λ i q n. end S m t d ≡ at q d) t
    end_met d (leaf i q n) = refl
    end_met d (branch b k l r) = go (E.chosen (end S m l d) (end S m r d)) (end_met d l) (end_met d r)
      where
        go : (end S m (branch b k l r) d ≡ end S m l d) ⊎ (end S m (branch b k l r) d ≡ end S m r d) → Some S (λ i q n. end S m l d ≡ at q d) l → Some S (λ i q n. end S m r d ≡ at q d) r →
            Some S (λ i q n. end S m (branch b k l r) d ≡ at q d) (branch b k l r)
        go (inl e) x y = inl (some_at d _ _ l e x)
        go (inr e) x y = inr (some_at d _ _ r e y)

    -- OF A BRANCH: by the side that a point goes to and the other; with another side; and above a tree
    pub end_sides : (b : ℕ) (k : Cut S) (l r : Tree S) (p : Point) (d : Chan) → end S m (branch b k l r) d ≡ m (end S m (toward S k p l r) d) (end S m (aside S k p l r) d)
    end_sides b k l r p d = by-test (below S k p) (λ e. rw e) (λ e. rw e (end_comm S E (end S m l d) (end S m r d)))

    pub end_rejoin : (b : ℕ) (k : Cut S) (l r : Tree S) (p : Point) (x : Tree S) (d : Chan) → end S m (rejoin S b k l r p x) d ≡ m (end S m x d) (end S m (aside S k p l r) d)
    end_rejoin b k l r p x d = by-test (below S k p) (λ e. rw e) (λ e. rw e (end_comm S E (end S m l d) (end S m x d)))

    pub end_above : (b : ℕ) (k : Cut S) (i : ℕ) (p : Point) (t : Tree S) (d : Chan) → end S m (above S b k i p t) d ≡ m (end S m t d) (at p d)
    end_above b k i p t d = by_cond (λ x. end S m x d ≡ m (end S m t d) (at p d)) (below S k p) _ _ (λ _. end_comm S E (at p d) (end S m t d)) (λ _. refl)
