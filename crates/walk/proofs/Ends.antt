-- The end of a walked path: the leaf, its sibling and the branch next above.
use mathlib.Core.Path.{◌≡◌, sym, ap, ◌∙◌}
use mathlib.Core.List.{List}
use Prim.Native.Nat.{ℕ, suc, ◌+◌, ◌-◌, ◌≤◌}
use native.Mathlib.Omega.{arith}
use lib.ListN.{take}
use Rattle.cuttree.specs.Tree.{Tree, id, ending, walk}
use Rattle.cuttree.specs.Walk.{sub, sibling}
use Rattle.cuttree.proofs.Heights.{sub_leaf}
use Rattle.wholetree.specs.Reading.{Reading}
use Rattle.wholetree.specs.Whole.{whole}
use Rattle.layout.specs.Slots.{field}
use Rattle.layout.specs.Stands.{trail}
use Rattle.layout.proofs.Trails.{path_node, path_sibling}
use Rattle.walk.specs.Walks.{Walked}

module _ {d c n : ℕ} {path : List (List ℕ)} {t : Tree (whole d)} {p : Reading} (w : Walked d c path n t p) where
  pub walk_is : take (walk (whole d) t p) path ≡ trail d c t p
  walk_is = ap (λ m. take m path) (sym w.count) ∙ w.is_trail

  pub last_is : field path (n - 1) 0 ≡ (ending (whole d) t p).index + c
  last_is = path_node d c p path t walk_is (n - 1) 0 (omega (arith, w.count)) ∙ ap (id (whole d) c) (sub_leaf (whole d) p t)

  pub fork_is : 2 ≤ n → field path (n - 2) 0 ≡ id (whole d) c (sub (whole d) t 1 p)
  fork_is m = path_node d c p path t walk_is (n - 2) 1 (omega (arith, w.count))

  pub sibling_is : 2 ≤ n → field path (n - 1) 1 ≡ id (whole d) c (sibling (whole d) t 0 p)
  sibling_is m = let e : n - 1 ≡ suc (n - 2) = omega arith in rw e (path_sibling d c p path t walk_is (n - 2) 0 (omega (arith, w.count)))
