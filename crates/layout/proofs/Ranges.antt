-- Numbers in range through the edits of a tree.
use Prim.Native.Nat.{ℕ, ◌<◌}
use native.Mathlib.Omega.{arith}
use lib.Dec.{ltb}
use Rattle.limits.specs.Limits.{point_limit}
use Rattle.cuttree.specs.Setting.{Cut, below}
use Rattle.cuttree.specs.Tree.{Tree, branch, ending, forget, OfTree}
use Rattle.cuttree.proofs.Tests.{by_cond}
use Rattle.cuttree.proofs.Steps.{toward, aside, rejoin, along, forget_step}
use Rattle.cuttree.proofs.Leaves.{lifted}
use Rattle.cuttree.proofs.Heights.{sub_leaf}
use Rattle.cuttree.proofs.Nodes.{In, here, left, right}
use Rattle.wholetree.specs.Reading.{Reading}
use Rattle.wholetree.specs.Whole.{whole}
use Rattle.layout.specs.Stands.{InRange}
use Rattle.layout.proofs.Replaced.{in_sub}

module _ (d c : ℕ) where
  pub range_node : {u t : Tree (whole d)} → In (whole d) u t → InRange d c t → InRange d c u
  range_node here h = h
  range_node (left i) h = range_node i h.2
  range_node (right i) h = range_node i h.3

  range_rejoin : (b : ℕ) (k : Cut (whole d)) (l r : Tree (whole d)) (p : Reading) (x : Tree (whole d)) → InRange d c (branch b k l r) → InRange d c x → InRange d c (rejoin (whole d) b k l r p x)
  range_rejoin b k l r p x h e = by_cond (InRange d c) (below (whole d) k p) _ _ (λ _. (h.0, h.1, e, h.3)) (λ _. (h.0, h.1, h.2, e))

  pub range_ending : (p : Reading) (t : Tree (whole d)) → InRange d c t → (ending (whole d) t p).index < point_limit
  range_ending p t h = rw (sub_leaf (whole d) p t) at (range_node (in_sub d c 0 p t (omega arith)) h)

  pub range_forget : (p : Reading) (t : Tree (whole d)) → InRange d c t → OfTree (whole d) (InRange d c) (forget (whole d) p t)
  range_forget p = along (whole d) (λ t. InRange d c t → OfTree (whole d) (InRange d c) (forget (whole d) p t)) p
      (λ i q n h. by_cond (OfTree (whole d) (InRange d c)) (ltb 1 n) _ _ (λ _. h) (λ _. tt))
      (λ b k l r ih h. rw (forget_step (whole d) b k l r p)
      (lifted (whole d) (InRange d c) (InRange d c) (forget (whole d) p (toward (whole d) k p l r)) (λ x. rejoin (whole d) b k l r p x) (aside (whole d) k p l r)
      (ih (by_cond (InRange d c) (below (whole d) k p) l r (λ _. h.2) (λ _. h.3))) (by_cond (InRange d c) (below (whole d) k p) r l (λ _. h.3) (λ _. h.2)) (λ t y. range_rejoin b k l r p t h y)))
