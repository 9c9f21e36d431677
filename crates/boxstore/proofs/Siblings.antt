-- The sibling of a node on the walk: where its id stands in the path, and its boxes stand in the arrays as the tree's do. Assumes nothing.
use mathlib.Core.Path.{◌≡◌, sym, ap, ◌∙◌, subst}
use mathlib.Core.List.{List, []}
use Prim.Native.Nat.{ℕ, suc, ◌+◌, ◌-◌, ◌≤◌, ◌<◌}
use native.Mathlib.Omega.{arith}
use lib.ListN.{get_or, take}
use lib.Ieee.{Float}
use Rattle.cuttree.specs.Tree.{Tree, id, height, walk}
use Rattle.cuttree.specs.Walk.{sibling}
use Rattle.wholetree.specs.Reading.{Reading}
use Rattle.wholetree.specs.Whole.{whole}
use Rattle.layout.specs.Stands.{Once, trail}
use Rattle.layout.proofs.Forks.{in_sibling}
use Rattle.layout.proofs.Trails.{path_sibling}
use Rattle.boxstore.specs.Boxed.{Boxed, SomeBoxed}
use Rattle.boxstore.proofs.Standing.{once_in, boxed_in}

module _ (d c : ℕ) (p : Reading) where
  -- its id, in the row of the node of height m on a path of the walk
  pub sibling_is : (t : Tree (whole d)) (path : List (List ℕ)) (len m : ℕ) → len ≡ walk (whole d) t p → take len path ≡ trail d c t p → m + 1 < len → get_or (get_or path (len - 1 - m) []) 1 0 ≡ id (whole d) c (sibling (whole d) t m p)
  sibling_is t path len m count rows h =
      let i = len - 1 - m - 1 in
      let e : suc i + m ≡ height (whole d) t p = omega arith in
      let f : len - 1 - m ≡ suc i = omega arith in
      ap (λ (y : ℕ). get_or (get_or path y []) 1 0) f ∙ path_sibling d c p path t (subst (λ (n : ℕ). take n path ≡ trail d c t p) count rows) i m e

  module _ (k : ℕ) (nodes : List (List ℕ)) (points : List (List Float)) (boxes : List (List (List Float))) (m : ℕ) (t : Tree (whole d)) (h : suc m ≤ height (whole d) t p) (w : Boxed d c k nodes points boxes t) where
    pub some_sibling : (node : ℕ) → node ≡ id (whole d) c (sibling (whole d) t m p) → Once d c t → SomeBoxed c k node nodes points boxes
    some_sibling node e o = let inside = in_sibling d m p t h in record { channels = d; tree = sibling (whole d) t m p; at_node = sym e; once = once_in d c inside o; boxed = boxed_in d c inside w }
