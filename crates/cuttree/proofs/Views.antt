-- What the queries give is the tree: leaves, branches, what is reached from a node, the walk.
use mathlib.Core.Path.{◌≡◌, refl, sym, ap, ◌∙◌, subst}
use mathlib.Core.Logic.{inl, inr}
use mathlib.Core.Bool.{Bool, true, false, cond}
use mathlib.Core.Option.{Option, none, some}
use mathlib.Core.List.{List}
use Prim.Native.Nat.{ℕ, suc, ◌+◌, ◌-◌}
use native.Mathlib.Omega.{arith}
use Rattle.cuttree.specs.Setting.{Setting, Laws, Cut, below}
use Rattle.cuttree.specs.Tree.{Tree, leaf, branch, id, lo, hi, mass, walk}
use Rattle.cuttree.specs.Run.{box_of, copies_are, branch_is, box_is, Row, Box, look, copies_found, branch_found, box_found}
use Rattle.cuttree.specs.Counts.{Counts}
use Rattle.cuttree.specs.Graph.{View, IsLeaf, LeafOf, IsBranch, IsNode, Child, Reached, here, down, Under, Walk, ends, goes}
use Rattle.cuttree.specs.Demand3.{view_of}
use Rattle.cuttree.proofs.Tests.{nonsense}
use Rattle.cuttree.proofs.Steps.{along, height_step}
use Rattle.cuttree.proofs.Nodes.{In, left, right, in_trans, all_in, look_in_lem, in_look, nodes_one, node_one}
use Rattle.cuttree.proofs.Keeps.{Inv}

module _ (S : Setting) (capacity : ℕ) where
  open S use {Point}

  abbrev pub row_of : ℕ → Cut S → Tree S → Tree S → Row S
  row_of b k l r = record { cut = k; left = id S capacity l; right = id S capacity r; mass = mass S (branch b k l r) }

  abbrev pub box_at : Tree S → Box S
  box_at t = record { lower = lo S t; upper = hi S t }

  module _ (L : Laws S) (f : ℕ → Option Point) (t : Tree S) (u : List (ℕ × ℕ)) (K : Counts S) (I : Inv S capacity (record { table = f; tree = some t; free = u }) K) where
    abbrev G : View S
    G = view_of S capacity (record { table = f; tree = some t; free = u }) K

    -- ANSWERED: a node's query gives what stands there
    found_at : {s : Tree S} → In S s t → look S capacity t (id S capacity s) ≡ some s
    found_at i = look_in_lem S capacity (nodes_one S capacity L f t u I.sound) i

    pub leaf_asked : {i : ℕ} {q : Point} {n : ℕ} → In S (leaf i q n) t → IsLeaf S G (i + capacity) n
    leaf_asked i = ap (copies_found S) (found_at i)

    pub branch_asked : {b : ℕ} {k : Cut S} {l r : Tree S} → In S (branch b k l r) t → IsBranch S G b (row_of b k l r)
    branch_asked i = ap (branch_found S capacity) (found_at i)

    pub box_asked : {b : ℕ} {k : Cut S} {l r : Tree S} → In S (branch b k l r) t → G.asked (box_of b) ≡ box_is (box_at (branch b k l r))
    box_asked i = ap (box_found S) (found_at i)

    pub node_asked : (s : Tree S) → In S s t → IsNode S G (id S capacity s)
    node_asked (leaf i q n) h = inl (n, leaf_asked h)
    node_asked (branch b k l r) h = inr (row_of b k l r, branch_asked h)

    -- ONLY SO: an id that a query answers is a node's
    pub by_leaf : (P : ℕ → ℕ → Type 0) → ((i : ℕ) (q : Point) (n : ℕ) → In S (leaf i q n) t → P (i + capacity) n) → (x n : ℕ) → IsLeaf S G x n → P x n
    by_leaf P h x n = go (look S capacity t x) refl
      where
        go : (o : Option (Tree S)) → look S capacity t x ≡ o → copies_found S o ≡ copies_are n → P x n
        go none e a = nonsense (cc)
        go (some (leaf i q m)) e a = let y = in_look S capacity t x (leaf i q m) e in let z : m ≡ n = cc in subst (λ j. P x j) z (subst (λ j. P j m) y.1 (h i q m y.0))
        go (some (branch b k l r)) e a = nonsense (cc)

    pub by_branch : (P : ℕ → Row S → Type 0) → ((b : ℕ) (k : Cut S) (l r : Tree S) → In S (branch b k l r) t → P b (row_of b k l r)) → (x : ℕ) (w : Row S) → IsBranch S G x w → P x w
    by_branch P h x w = go (look S capacity t x) refl
      where
        go : (o : Option (Tree S)) → look S capacity t x ≡ o → branch_found S capacity o ≡ branch_is w → P x w
        go none e a = nonsense (cc)
        go (some (leaf i q m)) e a = nonsense (cc)
        go (some (branch b k l r)) e a = let y = in_look S capacity t x (branch b k l r) e in let z : row_of b k l r ≡ w = cc in subst (λ j. P x j) z (subst (λ j. P j (row_of b k l r)) y.1 (h b k l r y.0))

    pub by_box : (P : ℕ → Box S → Type 0) → ((b : ℕ) (k : Cut S) (l r : Tree S) → In S (branch b k l r) t → P b (box_at (branch b k l r))) → (x : ℕ) (w : Box S) → G.asked (box_of x) ≡ box_is w → P x w
    by_box P h x w = go (look S capacity t x) refl
      where
        go : (o : Option (Tree S)) → look S capacity t x ≡ o → box_found S o ≡ box_is w → P x w
        go none e a = nonsense (cc)
        go (some (leaf i q m)) e a = nonsense (cc)
        go (some (branch b k l r)) e a = let y = in_look S capacity t x (branch b k l r) e in let z : box_at (branch b k l r) ≡ w = cc in subst (λ j. P x j) z (subst (λ j. P j (box_at (branch b k l r))) y.1 (h b k l r y.0))

    pub node_found : (x : ℕ) → IsNode S G x → (s : Tree S) × In S s t × (id S capacity s ≡ x)
    node_found x (inl (n, h)) = by_leaf (λ x n. (s : Tree S) × In S s t × (id S capacity s ≡ x)) (λ i q n e. (leaf i q n, e, refl)) x n h
    node_found x (inr (w, h)) = by_branch (λ x w. (s : Tree S) × In S s t × (id S capacity s ≡ x)) (λ b k l r e. (branch b k l r, e, refl)) x w h

    -- a leaf's value is the point kept
    pub kept_at : {i : ℕ} {q : Point} {n : ℕ} → In S (leaf i q n) t → K.kept (i + capacity - capacity) ≡ some q
    kept_at {i} {q} {n} h = let z : i + capacity - capacity ≡ i = omega arith in ap (λ j. K.kept j) z ∙ sym (I.kept_is i) ∙ all_in S (λ i q n. f i ≡ some q) h I.sound.agree

    pub leaf_of : {i : ℕ} {q : Point} {n : ℕ} → In S (leaf i q n) t → LeafOf S G (i + capacity) n q
    leaf_of h = (leaf_asked h, kept_at h)

    pub by_leaf_of : (P : ℕ → ℕ → Point → Type 0) → ((i : ℕ) (q : Point) (n : ℕ) → In S (leaf i q n) t → P (i + capacity) n q) → (x n : ℕ) (q : Point) → LeafOf S G x n q → P x n q
    by_leaf_of P h x n q a = by_leaf (λ x n. G.value x ≡ some q → P x n q) (λ i v m e g. let z : v ≡ q = cc (kept_at e) in subst (λ w. P (i + capacity) m w) z (h i v m e)) x n a.0 a.1

    -- CHILDREN AND WHAT IS REACHED
    pub side_in_lem : {b : ℕ} {k : Cut S} {l r : Tree S} (c : Bool) → In S (cond c l r) (branch b k l r)
    side_in_lem true = left In.here
    side_in_lem false = right In.here

    side_id : (c : Bool) (l r : Tree S) → cond c (id S capacity l) (id S capacity r) ≡ id S capacity (cond c l r)
    side_id true l r = refl
    side_id false l r = refl

    pub child_asked : {b : ℕ} {k : Cut S} {l r : Tree S} (c : Bool) → In S (branch b k l r) t → Child S G b c (id S capacity (cond c l r))
    child_asked {b} {k} {l} {r} c h = (row_of b k l r, branch_asked h, side_id c l r)

    pub by_child : (P : ℕ → Bool → ℕ → Type 0) → ((b : ℕ) (k : Cut S) (l r : Tree S) (c : Bool) → In S (branch b k l r) t → P b c (id S capacity (cond c l r))) → (x : ℕ) (c : Bool) (y : ℕ) → Child S G x c y → P x c y
    by_child P h x c y (w, a, e) = subst (λ j. P x c j) e (by_branch (λ x w. P x c (cond c w.left w.right)) (λ b k l r i. subst (λ j. P b c j) (sym (side_id c l r)) (h b k l r c i)) x w a)

    pub in_reached : {v s : Tree S} → In S v s → In S s t → Reached S G (id S capacity s) (id S capacity v)
    in_reached In.here h = here
    in_reached (left i) h = down true (child_asked true h) (in_reached i (in_trans S (left In.here) h))
    in_reached (right i) h = down false (child_asked false h) (in_reached i (in_trans S (right In.here) h))

    pub reached_in : {x y : ℕ} → Reached S G x y → (s : Tree S) → In S s t → id S capacity s ≡ x → (v : Tree S) × In S v s × (id S capacity v ≡ y)
    reached_in here s h e = (s, In.here, e)
    reached_in {y = z} (down {x} {y} c a i) s h e =
        by_child (λ x c y. id S capacity s ≡ x → ((s : Tree S) → In S s t → id S capacity s ≡ y → (v : Tree S) × In S v s × (id S capacity v ≡ z)) → (v : Tree S) × In S v s × (id S capacity v ≡ z))
        (λ b k l r c j d ih.
        let (v, m, n) = ih (cond c l r) (in_trans S (side_in_lem {b = b} {k = k} c) j) refl in
        (v, subst (λ w. In S v w) (sym (node_one S capacity L f t u I.sound h j d)) (in_trans S m (side_in_lem c)), n))
        x c y a e (λ s h e. reached_in i s h e)

    pub leaf_under : {i : ℕ} {q : Point} {n : ℕ} {s : Tree S} → In S (leaf i q n) s → In S s t → Under S G (id S capacity s) q
    leaf_under {i} {q} {n} h j = (i + capacity, n, in_reached h j, leaf_of (in_trans S h j))

    pub under_leaf : (s : Tree S) → In S s t → (q : Point) → Under S G (id S capacity s) q → (i : ℕ) × (n : ℕ) × In S (leaf i q n) s
    under_leaf s j q (y, n, h, a) =
        let (v, m, e) = reached_in h s j refl in
        by_leaf_of (λ y n q. id S capacity v ≡ y → (i : ℕ) × (n : ℕ) × In S (leaf i q n) s)
        (λ i q n x d. (i, n, subst (λ w. In S w s) (node_one S capacity L f t u I.sound (in_trans S m j) x d) m)) y n q a e

    -- THE WALK
    pub walk_asked : (v : Point) (s : Tree S) → In S s t → Walk S G v (id S capacity s) (walk S s v)
    walk_asked v = along S (λ s. In S s t → Walk S G v (id S capacity s) (walk S s v)) v
        (λ i q n h. ends (leaf_asked h))
        (λ b k l r ih h. subst (λ m. Walk S G v b (suc m)) (sym (height_step S b k l r v))
        (goes (row_of b k l r) (branch_asked h) (side_id (below S k v) l r) (ih (in_trans S (side_in_lem {b = b} {k = k} (below S k v)) h))))
