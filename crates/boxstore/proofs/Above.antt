-- A branch of a walk: its cached box is its own, and its number is in range. Assumes nothing.
use mathlib.Core.Path.{◌≡◌, sym}
use mathlib.Core.List.{List}
use Prim.Native.Nat.{ℕ, ◌+◌, ◌≤◌, ◌<◌}
use native.Mathlib.Omega.{arith}
use lib.Ieee.{Float}
use Rattle.boundingbox.specs.declared.BoundingBox.{BoundingBox}
use Rattle.cuttree.specs.Tree.{Tree, leaf, branch, id, height}
use Rattle.cuttree.specs.Walk.{sub}
use Rattle.cuttree.proofs.Heights.{height_sub}
use Rattle.wholetree.specs.Reading.{Reading}
use Rattle.wholetree.specs.Whole.{whole}
use Rattle.layout.specs.Stands.{InRange}
use Rattle.layout.proofs.Replaced.{in_sub}
use Rattle.boxstore.specs.Boxed.{Boxed}
use Rattle.boxstore.specs.Written.{low_in, high_in}
use Rattle.boxstore.specs.Above.{At}
use Rattle.boxstore.proofs.Parts.{at_cached}
use Rattle.boxstore.proofs.Standing.{boxed_in}

-- a node with others below it is a branch, whose number is in range
branch_low : (d c : ℕ) (p : Reading) (u : Tree (whole d)) → 0 < height (whole d) u p → InRange d c u → id (whole d) c u + 1 < c
branch_low d c p (leaf i q n) h R = absurd (omega arith)
branch_low d c p (branch b x l r) h R = R.0

-- a cached branch on the walk has its own box kept
module _ {d c k : ℕ} {nodes : List (List ℕ)} {points : List (List Float)} {boxes : List (List (List Float))} {t : Tree (whole d)} (p : Reading) (w : Boxed d c k nodes points boxes t) (m : ℕ) (h : m ≤ height (whole d) t p) (node : ℕ) (e : node ≡ id (whole d) c (sub (whole d) t m p)) where
  pub cached_box : node < c → node < k → (r : BoundingBox) → r.min_values ≡ low_in boxes node → r.max_values ≡ high_in boxes node → At d c p t m r
  cached_box l f r x y =
      let v = (at_cached c k node nodes points boxes l f).whole_box r x y d (sub (whole d) t m p) (sym e) (boxed_in d c (in_sub d c m p t h) w) in
      record { low = v.0; high = v.1 }

  pub above_leaf : 0 < m → node + 1 < c
  above_leaf z = rw e (branch_low d c p (sub (whole d) t m p) (omega (arith, height_sub (whole d) m p t h)) (boxed_in d c (in_sub d c m p t h) w).in_range)
