-- The walk as a path keeps it, by heights: the node of height m stands as many rows before the leaf.
use mathlib.Core.Path.{◌≡◌, refl, sym, ap, ◌∙◌}
use mathlib.Core.List.{List, [], ◌∷◌}
use Prim.Native.Nat.{ℕ, zero, suc, ◌+◌, ◌≤◌}
use native.Mathlib.Omega.{arith}
use lib.ListN.{get_or, take}
use lib.Seq.{get_or-take}
use Rattle.cuttree.specs.Setting.{Cut, below}
use Rattle.cuttree.specs.Tree.{Tree, leaf, branch, id, height, walk}
use Rattle.cuttree.specs.Walk.{sub, sibling}
use Rattle.cuttree.proofs.Tests.{by-test}
use Rattle.cuttree.proofs.Steps.{toward, aside, along, height_step}
use Rattle.cuttree.proofs.Heights.{sub_top, sub_down, sibling_top, sibling_down}
use Rattle.wholetree.specs.Reading.{Reading}
use Rattle.wholetree.specs.Whole.{whole}
use Rattle.layout.specs.Stands.{trail_from, trail, no_sibling}

module _ (d c : ℕ) (p : Reading) where
  pub trail_step : (s b : ℕ) (k : Cut (whole d)) (l r : Tree (whole d)) → trail_from d c s (branch b k l r) p ≡ (b ∷ s ∷ []) ∷ trail_from d c (id (whole d) c (aside (whole d) k p l r)) (toward (whole d) k p l r) p
  trail_step s b k l r = by-test (below (whole d) k p) (λ e. rw e) (λ e. rw e)

  pub trail_head : (s : ℕ) (t : Tree (whole d)) → get_or (trail_from d c s t p) 0 [] ≡ id (whole d) c t ∷ s ∷ []
  trail_head s (leaf i q n) = refl
  trail_head s (branch b k l r) = refl

  pub trail_node : (t : Tree (whole d)) (s i m : ℕ) → i + m ≡ height (whole d) t p → get_or (get_or (trail_from d c s t p) i []) 0 0 ≡ id (whole d) c (sub (whole d) t m p)
  trail_node = along (whole d) (λ t. (s i m : ℕ) → i + m ≡ height (whole d) t p → get_or (get_or (trail_from d c s t p) i []) 0 0 ≡ id (whole d) c (sub (whole d) t m p)) p
      (λ i q n s x m e. let z : x ≡ 0 = omega arith in rw z)
      (λ b k l r ih s i m e. down b k l r ih s i m e)
    where
      down : (b : ℕ) (k : Cut (whole d)) (l r : Tree (whole d)) → ((s i m : ℕ) → i + m ≡ height (whole d) (toward (whole d) k p l r) p → get_or (get_or (trail_from d c s (toward (whole d) k p l r) p) i []) 0 0 ≡ id (whole d) c (sub (whole d) (toward (whole d) k p l r) m p)) →
          (s i m : ℕ) → i + m ≡ height (whole d) (branch b k l r) p → get_or (get_or (trail_from d c s (branch b k l r) p) i []) 0 0 ≡ id (whole d) c (sub (whole d) (branch b k l r) m p)
      down b k l r ih s zero m e = let f : m ≡ height (whole d) (branch b k l r) p = omega arith in sym (ap (λ y. id (whole d) c (sub (whole d) (branch b k l r) y p)) f ∙ ap (id (whole d) c) (sub_top (whole d) (branch b k l r) p))
      down b k l r ih s (suc i) m e =
          ap (λ y. get_or (get_or y (suc i) []) 0 0) (trail_step s b k l r) ∙ ih _ i m (omega (arith, height_step (whole d) b k l r p))
          ∙ sym (ap (id (whole d) c) (sub_down (whole d) b k l r p m (omega (arith, height_step (whole d) b k l r p))))

  pub trail_sibling : (t : Tree (whole d)) (s i m : ℕ) → suc i + m ≡ height (whole d) t p → get_or (get_or (trail_from d c s t p) (suc i) []) 1 0 ≡ id (whole d) c (sibling (whole d) t m p)
  trail_sibling = along (whole d) (λ t. (s i m : ℕ) → suc i + m ≡ height (whole d) t p → get_or (get_or (trail_from d c s t p) (suc i) []) 1 0 ≡ id (whole d) c (sibling (whole d) t m p)) p
      (λ i q n s x m e. absurd (omega arith))
      (λ b k l r ih s i m e. ap (λ y. get_or (get_or y (suc i) []) 1 0) (trail_step s b k l r) ∙ down b k l r ih i m (omega (arith, height_step (whole d) b k l r p)))
    where
      down : (b : ℕ) (k : Cut (whole d)) (l r : Tree (whole d)) → ((s i m : ℕ) → suc i + m ≡ height (whole d) (toward (whole d) k p l r) p → get_or (get_or (trail_from d c s (toward (whole d) k p l r) p) (suc i) []) 1 0 ≡ id (whole d) c (sibling (whole d) (toward (whole d) k p l r) m p)) →
          (i m : ℕ) → i + m ≡ height (whole d) (toward (whole d) k p l r) p →
          get_or (get_or (trail_from d c (id (whole d) c (aside (whole d) k p l r)) (toward (whole d) k p l r) p) i []) 1 0 ≡ id (whole d) c (sibling (whole d) (branch b k l r) m p)
      down b k l r ih zero m e =
          let f : m ≡ height (whole d) (toward (whole d) k p l r) p = omega arith in
          ap (λ y. get_or y 1 0) (trail_head (id (whole d) c (aside (whole d) k p l r)) (toward (whole d) k p l r))
          ∙ sym (ap (λ y. id (whole d) c (sibling (whole d) (branch b k l r) y p)) f ∙ ap (id (whole d) c) (sibling_top (whole d) b k l r p))
      down b k l r ih (suc i) m e = ih _ i m e ∙ sym (ap (id (whole d) c) (sibling_down (whole d) b k l r p m (omega arith)))

  -- of a lent path whose first rows are the walk
  module _ (path : List (List ℕ)) (t : Tree (whole d)) (e : take (walk (whole d) t p) path ≡ trail d c t p) where
    pub path_at : (i : ℕ) → i ≤ height (whole d) t p → get_or path i [] ≡ get_or (trail d c t p) i []
    path_at i m = sym (get_or-take (walk (whole d) t p) path i [] (omega arith)) ∙ ap (λ y. get_or y i []) e

    pub path_node : (i m : ℕ) → i + m ≡ height (whole d) t p → get_or (get_or path i []) 0 0 ≡ id (whole d) c (sub (whole d) t m p)
    path_node i m h = ap (λ y. get_or y 0 0) (path_at i (omega arith)) ∙ trail_node t no_sibling i m h

    pub path_sibling : (i m : ℕ) → suc i + m ≡ height (whole d) t p → get_or (get_or path (suc i) []) 1 0 ≡ id (whole d) c (sibling (whole d) t m p)
    path_sibling i m h = ap (λ y. get_or y 1 0) (path_at (suc i) (omega arith)) ∙ trail_sibling t no_sibling i m h
