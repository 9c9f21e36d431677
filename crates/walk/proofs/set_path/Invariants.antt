use mathlib.Core.Path.{◌≡◌}
use Prim.Native.Nat.{ℕ, ◌-◌, ◌≤◌}
use lib.ListN.{drop}
use Rattle.limits.specs.Limits.{capacity_limit}
use Rattle.cuttree.specs.Tree.{Tree}
use Rattle.wholetree.specs.Reading.{Reading}
use Rattle.wholetree.specs.Whole.{whole}
use Rattle.walk.specs.Walks.{Walks, SomeWalks}
use Rattle.walk.proofs.Paths.{Reaching}
use Rattle.walk.proofs.set_path.Given as goal

abbrev pub invariant-loop-node : goal.invariant-loop-node
invariant-loop-node l = (l.capacity ≤ capacity_limit) × (1 ≤ l.n) × (drop l.n l.path ≡ drop l.n l.initial.path) × SomeWalks l.capacity l.nodes l.cuts l.point l.root
    × ((d : ℕ) (t : Tree (whole d)) (p : Reading) → Walks d l.capacity l.nodes l.cuts l.point l.root t p → Reaching l.capacity l.nodes l.cuts l.point d p t l.path l.n l.node)

abbrev pub decreases-loop-node : goal.decreases-loop-node
decreases-loop-node l = capacity_limit - l.n
