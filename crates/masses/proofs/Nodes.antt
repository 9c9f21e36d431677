-- What the queries tell of a state's nodes: each node's mass, and of no other id a mass. Assumes nothing.
use mathlib.Core.Path.{◌≡◌, refl, sym, ap, ◌∙◌, subst}
use mathlib.Core.Logic.{inl, inr}
use mathlib.Core.Option.{Option, none, some}
use mathlib.Core.List.{List}
use Prim.Native.Nat.{ℕ, ◌+◌}
use lib.Ieee.{Float}
use Rattle.std.specs.Prelude.{Ok}
use Rattle.cuttree.specs.Setting.{Cut}
use Rattle.cuttree.specs.Tree.{Tree, leaf, branch, id, mass}
use Rattle.cuttree.specs.Run.{World, look, look_in, copies_found, branch_found}
use Rattle.cuttree.proofs.Tests.{nonsense}
use Rattle.cuttree.proofs.Masses.{mass_laws}
use Rattle.cuttree.proofs.Nodes.{In, left, right, here, in_trans, look_in_lem, in_look, nodes_one}
use Rattle.wholetree.specs.Whole.{whole}
use Rattle.wholetree.proofs.Laws.{whole_laws}
use Rattle.treestore.specs.Arrays.{NodeStore}
use Rattle.randomcuttree.specs.declared.RCFTree.{RCFTree}
use Rattle.randomcuttree.specs.declared.BranchRow.{BranchRow}
use Rattle.randomcuttree.specs.State.{State}
use Rattle.randomcuttree.specs.Queries.{copies_say, branch_says, row_says, copies_read, branch_read}
use Rattle.randomcuttree.proofs.Given.{sound}
use Rattle.randomcuttree.proofs.Told.{copies_are_told, branches_are_told}
use Rattle.masses.specs.Masses.{Weighs}

module _ {d c : ℕ} {s : Float} {W : World (whole d)} {tree : RCFTree} {a : NodeStore} {points : List (List Float)} {marks : List ℕ} (S : State d c s W tree a points marks) {o : Option (Tree (whole d))} (T : W.tree ≡ o) where
  copies_told : (x : ℕ) → copies_read tree a.copies x ≡ copies_say d (copies_found (whole d) (look_in (whole d) c o x))
  copies_told x = copies_are_told tree a.copies x d c s W a points marks S refl ∙ ap (λ (y : Option (Tree (whole d))). copies_say d (copies_found (whole d) (look_in (whole d) c y x))) T

  branch_told : (x : ℕ) → branch_read a.nodes a.cuts x ≡ branch_says d (branch_found (whole d) c (look_in (whole d) c o x))
  branch_told x = branches_are_told tree a.nodes a.cuts x d c s W a points marks S refl refl ∙ ap (λ (y : Option (Tree (whole d))). branch_says d (branch_found (whole d) c (look_in (whole d) c y x))) T

  -- a branch query that answers finds a branch, and tells its row
  pub record Found (x : ℕ) (r : BranchRow) : Type 0 where
    pub number : ℕ
    pub cut : Cut (whole d)
    pub low : Tree (whole d)
    pub high : Tree (whole d)
    pub found : look_in (whole d) c o x ≡ some (branch number cut low high)
    pub left_is : r.left ≡ id (whole d) c low
    pub right_is : r.right ≡ id (whole d) c high
    pub mass_is : r.mass ≡ mass (whole d) (branch number cut low high)

  pub branch_found_lem : (x : ℕ) (r : BranchRow) → branch_read a.nodes a.cuts x ≡ Ok r → Found x r
  branch_found_lem x r e = go (look_in (whole d) c o x) refl (sym (branch_told x) ∙ e)
    where
      go : (y : Option (Tree (whole d))) → look_in (whole d) c o x ≡ y → branch_says d (branch_found (whole d) c y) ≡ Ok r → Found x r
      go none f g = nonsense (cc)
      go (some (leaf i q n)) f g = nonsense (cc)
      go (some (branch b k l h)) f g =
          let z : row_says d (record { cut = k; left = id (whole d) c l; right = id (whole d) c h; mass = mass (whole d) (branch b k l h) }) ≡ r = cc in
          record { number = b; cut = k; low = l; high = h; found = f; left_is = ap (λ (y : BranchRow). y.left) (sym z); right_is = ap (λ (y : BranchRow). y.right) (sym z); mass_is = ap (λ (y : BranchRow). y.mass) (sym z) }

  -- an id with a mass finds a node, which has that mass
  pub node_found : (x m : ℕ) → Weighs tree a x m → (v : Tree (whole d)) × (look_in (whole d) c o x ≡ some v) × (mass (whole d) v ≡ m)
  node_found x m (inl e) = go (look_in (whole d) c o x) refl (sym (copies_told x) ∙ e)
    where
      go : (y : Option (Tree (whole d))) → look_in (whole d) c o x ≡ y → copies_say d (copies_found (whole d) y) ≡ Ok m → (v : Tree (whole d)) × (look_in (whole d) c o x ≡ some v) × (mass (whole d) v ≡ m)
      go none f g = nonsense (cc)
      go (some (leaf i q n)) f g = (leaf i q n, f, cc)
      go (some (branch b k l h)) f g = nonsense (cc)
  node_found x m (inr (r, e, z)) = let F = branch_found_lem x r e in (branch F.number F.cut F.low F.high, F.found, sym F.mass_is ∙ z)

  pub one_mass : (x m n : ℕ) → Weighs tree a x m → Weighs tree a x n → m ≡ n
  one_mass x m n p q =
      let (v, e, f) = node_found x m p in
      let (u, g, h) = node_found x n q in
      let z : v ≡ u = cc in
      sym f ∙ ap (mass (whole d)) z ∙ h

-- the state's tree
module _ {d c : ℕ} {s : Float} {W : World (whole d)} {tree : RCFTree} {a : NodeStore} {points : List (List Float)} {marks : List ℕ} (S : State d c s W tree a points marks) {t : Tree (whole d)} (T : W.tree ≡ some t) where
  found_at : {v : Tree (whole d)} → In (whole d) v t → look (whole d) c t (id (whole d) c v) ≡ some v
  found_at i = look_in_lem (whole d) c (nodes_one (whole d) c (whole_laws d) W.table t W.free (sound S.reachable T)) i

  pub node_weighs : (v : Tree (whole d)) → In (whole d) v t → Weighs tree a (id (whole d) c v) (mass (whole d) v)
  node_weighs (leaf i q n) j = inl (copies_told S T (i + c) ∙ ap (λ (y : Option (Tree (whole d))). copies_say d (copies_found (whole d) y)) (found_at j))
  node_weighs (branch b k l r) j = inr (_, branch_told S T b ∙ ap (λ (y : Option (Tree (whole d))). branch_says d (branch_found (whole d) c y)) (found_at j), refl)

  pub sides_weigh : (x : ℕ) (r : BranchRow) → branch_read a.nodes a.cuts x ≡ Ok r → (m : ℕ) × (n : ℕ) × Weighs tree a r.left m × Weighs tree a r.right n × (r.mass ≡ m + n)
  sides_weigh x r e =
      let F = branch_found_lem S T x r e in
      let (i, z) = in_look (whole d) c t x _ F.found in (
        mass (whole d) F.low,
        mass (whole d) F.high,
        subst (λ (y : ℕ). Weighs tree a y (mass (whole d) F.low)) (sym F.left_is) (node_weighs F.low (in_trans (whole d) (left here) i)),
        subst (λ (y : ℕ). Weighs tree a y (mass (whole d) F.high)) (sym F.right_is) (node_weighs F.high (in_trans (whole d) (right here) i)),
        F.mass_is ∙ (mass_laws (whole d)).branch_mass F.number F.cut F.low F.high,
      )
