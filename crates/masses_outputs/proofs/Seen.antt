-- The masses that a world's queries give count lanterns. Assumes nothing.
use mathlib.Core.Path.{◌≡◌, refl, sym, ap, ◌∙◌, subst}
use mathlib.Core.Logic.{inl, inr}
use mathlib.Core.Option.{Option, none, some}
use mathlib.Core.List.{List}
use Prim.Native.Nat.{ℕ, ◌+◌}
use lib.Dec.{eqb}
use borrow.Author.Tests.{eqb-true, eqb-false}
use Rattle.cuttree.specs.Setting.{Setting, Laws}
use Rattle.cuttree.specs.Tree.{Tree, leaf, branch, id, mass}
use Rattle.cuttree.specs.Run.{Row}
use Rattle.cuttree.specs.Counts.{Counts}
use Rattle.cuttree.specs.Graph.{View, IsBranch, IsNode, IsRoot}
use Rattle.cuttree.specs.Demand3.{view_of}
use Rattle.cuttree.proofs.Tests.{by-test, nonsense}
use Rattle.cuttree.proofs.Masses.{mass_laws}
use Rattle.cuttree.proofs.Nodes.{In, here, left, right, in_trans, node_one}
use Rattle.cuttree.proofs.Keeps.{Inv}
use Rattle.cuttree.proofs.Views.{row_of, leaf_asked, branch_asked, node_asked, by_leaf, by_branch}
use Rattle.cuttree.proofs.Roots.{is_root}
use Rattle.masses_outputs.specs.Seen.{copies_of_all, HasMass, MassClaim}
use Rattle.masses_outputs.proofs.Copies.{all_copies}

module _ (S : Setting) (L : Laws S) (capacity : ℕ) (f : ℕ → Option (Setting.Point S)) (u : List (ℕ × ℕ)) (K : Counts S) where
  open S use {Point}

  -- an empty tree has no node
  abbrev Bare : View S
  Bare = view_of S capacity (record { table = f; tree = none; free = u }) K

  none_seen : MassClaim S Bare K
  none_seen = record {
    one = λ x m n p q. no_mass x m p;
    sides = λ x r e. nonsense (cc);
    root = λ x R. no_node x R.node;
  }
    where
      no_mass : {A : Type 0} (x m : ℕ) → HasMass S Bare x m → A
      no_mass x m (inl e) = nonsense (cc)
      no_mass x m (inr (r, e, z)) = nonsense (cc)

      no_node : {A : Type 0} (x : ℕ) → IsNode S Bare x → A
      no_node x (inl (n, e)) = nonsense (cc)
      no_node x (inr (r, e)) = nonsense (cc)

  module _ (t : Tree S) (I : Inv S capacity (record { table = f; tree = some t; free = u }) K) where
    abbrev G : View S
    G = view_of S capacity (record { table = f; tree = some t; free = u }) K

    node_mass : (v : Tree S) → In S v t → HasMass S G (id S capacity v) (mass S v)
    node_mass (leaf i q n) j = inl (leaf_asked S capacity L f t u K I j)
    node_mass (branch b k l r) j = inr (row_of S capacity b k l r, branch_asked S capacity L f t u K I j, refl)

    mass_node : (x m : ℕ) → HasMass S G x m → (v : Tree S) × In S v t × (id S capacity v ≡ x) × (mass S v ≡ m)
    mass_node x m (inl e) = by_leaf S capacity L f t u K I (λ x m. (v : Tree S) × In S v t × (id S capacity v ≡ x) × (mass S v ≡ m)) (λ i q n j. (leaf i q n, j, refl, refl)) x m e
    mass_node x m (inr (r, e, z)) = by_branch S capacity L f t u K I (λ x r. r.mass ≡ m → (v : Tree S) × In S v t × (id S capacity v ≡ x) × (mass S v ≡ m)) (λ b k l r j z. (branch b k l r, j, refl, z)) x r e z

    one : (x m n : ℕ) → HasMass S G x m → HasMass S G x n → m ≡ n
    one x m n p q =
        let (v, i, e, g) = mass_node x m p in
        let (w, j, h, k) = mass_node x n q in
        sym g ∙ ap (mass S) (node_one S capacity L f t u I.sound i j (e ∙ sym h)) ∙ k

    sides : (x : ℕ) (r : Row S) → IsBranch S G x r → (m : ℕ) × (n : ℕ) × HasMass S G r.left m × HasMass S G r.right n × (r.mass ≡ m + n)
    sides = by_branch S capacity L f t u K I (λ x r. (m : ℕ) × (n : ℕ) × HasMass S G r.left m × HasMass S G r.right n × (r.mass ≡ m + n))
        (λ b k l r j. (mass S l, mass S r, node_mass l (in_trans S (left here) j), node_mass r (in_trans S (right here) j), (mass_laws S).branch_mass b k l r))

    -- there is one root
    root_is : (x : ℕ) → IsRoot S G x → id S capacity t ≡ x
    root_is x R = by-test (eqb (id S capacity t) x) (λ e. eqb-true (id S capacity t) x e)
        (λ e. let (y, s, c) = R.child (id S capacity t) (node_asked S capacity L f t u K I t here) (eqb-false (id S capacity t) x e) in absurd ((is_root S capacity L f t u K I).no_child y s c))

    some_seen : MassClaim S G K
    some_seen = record {
      one = one;
      sides = sides;
      root = λ x R. let (vs, each, e) = all_copies S L capacity f t u K I in
          (vs, each, subst (λ y. HasMass S G y (copies_of_all S K vs)) (root_is x R) (subst (λ y. HasMass S G (id S capacity t) y) (sym e) (node_mass t here)));
    }

  pub masses_seen : (o : Option (Tree S)) → Inv S capacity (record { table = f; tree = o; free = u }) K → MassClaim S (view_of S capacity (record { table = f; tree = o; free = u }) K) K
  masses_seen none I = none_seen
  masses_seen (some t) I = some_seen t I
