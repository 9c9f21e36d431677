-- One root: it is no branch's child, and every other node is a child once only and is reached from it.
use mathlib.Core.Path.{◌≡◌, refl, sym, ap, subst}
use mathlib.Core.Logic.{◌⊎◌, inl, inr}
use mathlib.Core.Bool.{Bool, true, false, cond}
use mathlib.Core.Option.{Option, none, some}
use mathlib.Core.List.{List}
use Prim.Native.Nat.{ℕ, ◌+◌, ◌≤◌, ◌<◌}
use native.Mathlib.Omega.{arith}
use lib.Dec.{eqb}
use borrow.Author.Tests.{eq-eqb}
use Rattle.cuttree.specs.Setting.{Setting, Laws, Cut}
use Rattle.cuttree.specs.Tree.{Tree, leaf, branch, is, id}
use Rattle.cuttree.specs.Counts.{Counts}
use Rattle.cuttree.specs.Graph.{View, Child, Reached, IsRoot}
use Rattle.cuttree.specs.Demand3.{view_of}
use Rattle.cuttree.proofs.Intervals.{is_same}
use Rattle.cuttree.proofs.Nodes.{In, here, left, right, in_trans, nodes, nodes_one, is_zero}
use Rattle.cuttree.proofs.Keeps.{Inv}
use Rattle.cuttree.proofs.Views.{node_asked, node_found, child_asked, by_child, in_reached}

module _ (S : Setting) (capacity : ℕ) where
  open S use {Point}

  -- how often an id is a child's
  abbrev parents : Tree S → ℕ → ℕ
  parents (leaf i q n) x = 0
  parents (branch b k l r) x = is (id S capacity l) x + is (id S capacity r) x + (parents l x + parents r x)

  nodes_parents : (t : Tree S) (x : ℕ) → nodes S capacity t x ≡ is (id S capacity t) x + parents t x
  nodes_parents (leaf i q n) x = omega arith
  nodes_parents (branch b k l r) x = omega (arith, nodes_parents l x, nodes_parents r x)

  child_counted : {b : ℕ} {k : Cut S} {l r t : Tree S} (c : Bool) → In S (branch b k l r) t → 0 < parents t (id S capacity (cond c l r))
  child_counted {l = l} true here = omega (arith, is_same (id S capacity l))
  child_counted {r = r} false here = omega (arith, is_same (id S capacity r))
  child_counted true (left i) = omega (arith, child_counted true i)
  child_counted false (left i) = omega (arith, child_counted false i)
  child_counted true (right i) = omega (arith, child_counted true i)
  child_counted false (right i) = omega (arith, child_counted false i)

  -- the branch and side that have an id for a child
  abbrev or_other : Option (ℕ × Bool) → Option (ℕ × Bool) → Option (ℕ × Bool)
  or_other none y = y
  or_other (some x) y = some x

  abbrev parent_of : Tree S → ℕ → Option (ℕ × Bool)
  parent_of (leaf i q n) x = none
  parent_of (branch b k l r) x = cond (eqb (id S capacity l) x) (some (b, true)) (cond (eqb (id S capacity r) x) (some (b, false)) (or_other (parent_of l x) (parent_of r x)))

  parent_none : (t : Tree S) (x : ℕ) → parents t x ≡ 0 → parent_of t x ≡ none
  parent_none (leaf i q n) x h = refl
  parent_none (branch b k l r) x h = rw (is_zero (id S capacity l) x (omega arith), is_zero (id S capacity r) x (omega arith), parent_none l x (omega arith), parent_none r x (omega arith))

  parent_in : {b : ℕ} {k : Cut S} {l r t : Tree S} (c : Bool) → ((x : ℕ) → parents t x ≤ 1) → In S (branch b k l r) t → parent_of t (id S capacity (cond c l r)) ≡ some (b, c)
  parent_in {l = l} true h here = rw (eq-eqb (id S capacity l) (id S capacity l) refl)
  parent_in {l = l} {r = r} false h here = rw (is_zero (id S capacity l) (id S capacity r) (omega (arith, h (id S capacity r), is_same (id S capacity r))), eq-eqb (id S capacity r) (id S capacity r) refl)
  parent_in {l = m} {r = n} c h (left {l = l} {r = r} i) =
      let x = id S capacity (cond c m n) in let z : 0 < parents l x = child_counted c i in
      rw (is_zero (id S capacity l) x (omega (arith, h x)), is_zero (id S capacity r) x (omega (arith, h x)), parent_in c (λ y. omega (arith, h y)) i)
  parent_in {l = m} {r = n} c h (right {l = l} {r = r} i) =
      let x = id S capacity (cond c m n) in let z : 0 < parents r x = child_counted c i in
      rw (is_zero (id S capacity l) x (omega (arith, h x)), is_zero (id S capacity r) x (omega (arith, h x)), parent_none l x (omega (arith, h x)), parent_in c (λ y. omega (arith, h y)) i)

  module _ (L : Laws S) (f : ℕ → Option Point) (t : Tree S) (u : List (ℕ × ℕ)) (K : Counts S) (I : Inv S capacity (record { table = f; tree = some t; free = u }) K) where
    abbrev G : View S
    G = view_of S capacity (record { table = f; tree = some t; free = u }) K

    parents_one : (x : ℕ) → parents t x ≤ 1
    parents_one x = omega (arith, nodes_parents t x, nodes_one S capacity L f t u I.sound x)

    parent_is : (y : ℕ) (c : Bool) (z : ℕ) → Child S G y c z → parent_of t z ≡ some (y, c)
    parent_is = by_child S capacity L f t u K I (λ y c z. parent_of t z ≡ some (y, c)) (λ b k l r c i. parent_in c parents_one i)

    root_counted : (y : ℕ) (c : Bool) (z : ℕ) → Child S G y c z → 0 < parents t z
    root_counted = by_child S capacity L f t u K I (λ y c z. 0 < parents t z) (λ b k l r c i. child_counted c i)

    abbrev Parent : ℕ → Type 0
    Parent x = (y : ℕ) × (c : Bool) × Child S G y c x

    from_side : {b : ℕ} {k : Cut S} {l r : Tree S} (c : Bool) (x : ℕ) → In S (branch b k l r) t → (x ≡ id S capacity (cond c l r)) ⊎ Parent x → Parent x
    from_side {b} c x h (inl e) = (b, c, subst (λ y. Child S G b c y) (sym e) (child_asked S capacity L f t u K I c h))
    from_side c x h (inr y) = y

    has_parent : {v s : Tree S} → In S v s → In S s t → (id S capacity v ≡ id S capacity s) ⊎ Parent (id S capacity v)
    has_parent here h = inl refl
    has_parent {v} (left i) h = inr (from_side true (id S capacity v) h (has_parent i (in_trans S (left here) h)))
    has_parent {v} (right i) h = inr (from_side false (id S capacity v) h (has_parent i (in_trans S (right here) h)))

    pub is_root : IsRoot S G (id S capacity t)
    is_root = record {
      node = node_asked S capacity L f t u K I t here;
      no_child = λ y c h. omega (arith, root_counted y c (id S capacity t) h, nodes_parents t (id S capacity t), nodes_one S capacity L f t u I.sound (id S capacity t), is_same (id S capacity t));
      child = λ z h n. let (s, i, e) = node_found S capacity L f t u K I z h in
          subst (λ x. (x ≡ id S capacity t → ⊥) → Parent x) e (λ m. other (has_parent i here) m) n;
      once = λ z y y' c c' a b. let e : ◌≡◌ {A = ℕ × Bool} (y, c) (y', c') = cc (parent_is y c z a, parent_is y' c' z b) in (ap (λ (x : ℕ × Bool). x.0) e, ap (λ (x : ℕ × Bool). x.1) e);
      reached = λ z h. let (s, i, e) = node_found S capacity L f t u K I z h in subst (λ x. Reached S G (id S capacity t) x) e (in_reached S capacity L f t u K I i here);
    }
      where
        other : {A : Type 0} {P : Type 0} → A ⊎ P → (A → ⊥) → P
        other (inl a) h = absurd (h a)
        other (inr b) h = b
