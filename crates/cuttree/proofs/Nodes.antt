-- The nodes of a tree and their ids: in the tree of a sound world each id is one node's, and `look` finds it.
use mathlib.Core.Path.{◌≡◌, refl, sym, ap, ◌∙◌, subst}
use mathlib.Core.Logic.{inl, inr}
use mathlib.Core.Bool.{false, cond}
use mathlib.Core.Option.{Option, none, some}
use mathlib.Core.List.{List}
use Prim.Native.Nat.{ℕ, ◌+◌, ◌-◌, ◌≤◌, ◌<◌}
use native.Mathlib.Omega.{arith}
use lib.Dec.{eqb, ltb}
use borrow.Author.Tests.{eqb-true, eq-eqb, ltb-false, le-ltb}
use Rattle.cuttree.specs.Setting.{Setting, Laws, Cut, below}
use Rattle.cuttree.specs.Tree.{Tree, leaf, branch, is, id, Leaf, ending, found, sum, All, Some, CutClause}
use Rattle.cuttree.specs.Run.{look, or_else}
use Rattle.cuttree.specs.Sound.{Sound}
use Rattle.cuttree.proofs.Tests.{by_cond, by-test, at_most_one, nonsense}
use Rattle.cuttree.proofs.Cuts.{sum_found}
use Rattle.cuttree.proofs.Intervals.{is_same, is_other}

pub is_zero : (a b : ℕ) → is a b ≡ 0 → eqb a b ≡ false
is_zero a b h = by-test (eqb a b) (λ e. nonsense (sym (rw e at h))) (λ e. e)

module _ (S : Setting) where
  open S use {Point}

  -- a node u of a tree, with all below it
  pub data In (u : Tree S) : Tree S → Type 0 where
    here : In u u
    left : {b : ℕ} {k : Cut S} {l r : Tree S} → In u l → In u (branch b k l r)
    right : {b : ℕ} {k : Cut S} {l r : Tree S} → In u r → In u (branch b k l r)

  pub in_trans : {u s t : Tree S} → In u s → In s t → In u t
  in_trans i here = i
  in_trans i (left j) = left (in_trans i j)
  in_trans i (right j) = right (in_trans i j)

  pub all_in : (P : ℕ → Point → ℕ → Type 0) {u t : Tree S} → In u t → All S P t → All S P u
  all_in P here h = h
  all_in P (left i) h = all_in P i h.0
  all_in P (right i) h = all_in P i h.1

  pub some_in : (P : ℕ → Point → ℕ → Type 0) (t : Tree S) → Some S P t → (i : ℕ) × (q : Point) × (n : ℕ) × In (leaf i q n) t × P i q n
  some_in P (leaf i q n) h = (i, q, n, here, h)
  some_in P (branch b k l r) (inl h) = let (i, q, n, e, x) = some_in P l h in (i, q, n, left e, x)
  some_in P (branch b k l r) (inr h) = let (i, q, n, e, x) = some_in P r h in (i, q, n, right e, x)

  pub cut_in : {u t : Tree S} → In u t → CutClause S t → CutClause S u
  cut_in here c = c
  cut_in (left i) c = cut_in i c.2
  cut_in (right i) c = cut_in i c.3

  pub ending_in : (v : Point) (t : Tree S) → In (leaf (ending S t v).index (ending S t v).value (ending S t v).copies) t
  ending_in v (leaf i q n) = here
  ending_in v (branch b k l r) = by_cond (λ (e : Leaf S). In (leaf e.index e.value e.copies) (branch b k l r)) (below S k v) _ _ (λ _. left (ending_in v l)) (λ _. right (ending_in v r))

-- in a tree of that capacity
module _ (S : Setting) (capacity : ℕ) where
  open S use {Point, same}

  -- the nodes of an id
  abbrev pub nodes : Tree S → ℕ → ℕ
  nodes t x = sum S (λ i q n. is (i + capacity) x) (λ b. is b x) t

  nodes_id : (t : Tree S) → 0 < nodes t (id S capacity t)
  nodes_id (leaf i q n) = omega (arith, is_same (i + capacity))
  nodes_id (branch b k l r) = omega (arith, is_same b)

  pub nodes_in : {u t : Tree S} → In S u t → 0 < nodes t (id S capacity u)
  nodes_in {u} here = nodes_id u
  nodes_in (left i) = omega (arith, nodes_in i)
  nodes_in (right i) = omega (arith, nodes_in i)

  pub look_none : (t : Tree S) (x : ℕ) → nodes t x ≡ 0 → look S capacity t x ≡ none
  look_none (leaf i q n) x h = rw (is_zero (i + capacity) x h)
  look_none (branch b k l r) x h = rw (is_zero b x (omega arith), look_none l x (omega arith), look_none r x (omega arith))

  look_id : (t : Tree S) → look S capacity t (id S capacity t) ≡ some t
  look_id (leaf i q n) = rw (eq-eqb (i + capacity) (i + capacity) refl)
  look_id (branch b k l r) = rw (eq-eqb b b refl)

  pub look_in_lem : {u t : Tree S} → ((x : ℕ) → nodes t x ≤ 1) → In S u t → look S capacity t (id S capacity u) ≡ some u
  look_in_lem {u} h here = look_id u
  look_in_lem {u} h (left {b = b} {l = l} i) =
      rw (is_zero b (id S capacity u) (omega (arith, h (id S capacity u), nodes_in i)), look_in_lem (λ x. omega (arith, h x)) i)
  look_in_lem {u} h (right {b = b} {l = l} i) =
      rw (is_zero b (id S capacity u) (omega (arith, h (id S capacity u), nodes_in i)), look_none l (id S capacity u) (omega (arith, h (id S capacity u), nodes_in i)), look_in_lem (λ x. omega (arith, h x)) i)

  pub in_look : (t : Tree S) (x : ℕ) (u : Tree S) → look S capacity t x ≡ some u → In S u t × (id S capacity u ≡ x)
  in_look (leaf i q n) x u = by_cond (λ o. o ≡ some u → In S u (leaf i q n) × (id S capacity u ≡ x)) (eqb (i + capacity) x) _ _
      (λ e h. let z : leaf i q n ≡ u = cc in subst (λ w. In S w (leaf i q n) × (id S capacity w ≡ x)) z (here, eqb-true (i + capacity) x e))
      (λ _ h. nonsense (cc))
  in_look (branch b k l r) x u = by_cond (λ o. o ≡ some u → In S u (branch b k l r) × (id S capacity u ≡ x)) (eqb b x) _ _
      (λ e h. let z : branch b k l r ≡ u = cc in subst (λ w. In S w (branch b k l r) × (id S capacity w ≡ x)) z (here, eqb-true b x e))
      (λ _. go (look S capacity l x) (in_look l x u) (in_look r x u))
    where
      go : (o : Option (Tree S)) → (o ≡ some u → In S u l × (id S capacity u ≡ x)) → (look S capacity r x ≡ some u → In S u r × (id S capacity u ≡ x)) → or_else S o (look S capacity r x) ≡ some u → In S u (branch b k l r) × (id S capacity u ≡ x)
      go none f h e = (right (h e).0, (h e).1)
      go (some t) f h e = (left (f e).0, (f e).1)

  -- EACH ID IS ONE NODE'S
  pub nodes_split : (t : Tree S) (x : ℕ) → nodes t x ≤ sum S (λ i q n. 0) (λ b. is b x) t + cond (ltb x capacity) 0 (sum S (λ i q n. is i (x - capacity)) (λ b. 0) t)
  nodes_split (leaf i q n) x = by-test (eqb (i + capacity) x)
      (λ e. let z : i + capacity ≡ x = eqb-true (i + capacity) x e in
      let y : x - capacity ≡ i = omega arith in
      rw (e, le-ltb x capacity (omega arith), y) (omega (arith, is_same i)))
      (λ e. rw e (omega arith))
  nodes_split (branch b k l r) x = by-test (ltb x capacity)
      (λ e. let y = rw e at (nodes_split l x) in let z = rw e at (nodes_split r x) in rw e (omega (arith, y, z)))
      (λ e. let y = rw e at (nodes_split l x) in let z = rw e at (nodes_split r x) in rw e (omega (arith, y, z)))

  module _ (L : Laws S) where
    -- the leaves of an index have the value that the table has there, and that value has one leaf
    pub indexed_some : (f : ℕ → Option Point) (t : Tree S) (j : ℕ) (v : Point) → f j ≡ some v → All S (λ i q n. f i ≡ some q) t → sum S (λ i q n. is i j) (λ b. 0) t ≤ sum S (λ i q n. cond (same q v) 1 0) (λ b. 0) t
    indexed_some f (leaf i q n) j v e h = by-test (eqb i j)
        (λ a. let z : i ≡ j = eqb-true i j a in
        let y : q ≡ v = cc (sym h ∙ ap f z ∙ e) in
        rw (y, L.same_refl v) (at_most_one (eqb i j)))
        (λ a. rw a (omega arith))
    indexed_some f (branch b k l r) j v e h = omega (arith, indexed_some f l j v e h.0, indexed_some f r j v e h.1)

    indexed_none : (f : ℕ → Option Point) (t : Tree S) (j : ℕ) → f j ≡ none → All S (λ i q n. f i ≡ some q) t → sum S (λ i q n. is i j) (λ b. 0) t ≡ 0
    indexed_none f (leaf i q n) j e h = is_other i j (λ a. let z : ◌≡◌ {A = ℕ} 0 1 = cc (sym (ap f a) ∙ h) in omega arith)
    indexed_none f (branch b k l r) j e h = omega (arith, indexed_none f l j e h.0, indexed_none f r j e h.1)

    module _ (f : ℕ → Option Point) (t : Tree S) (u : List (ℕ × ℕ)) (H : Sound S capacity (record { table = f; tree = some t; free = u })) where
      pub indexed_one : (j : ℕ) → sum S (λ i q n. is i j) (λ b. 0) t ≤ 1
      indexed_one j = go (f j) refl
        where
          go : (o : Option Point) → f j ≡ o → sum S (λ i q n. is i j) (λ b. 0) t ≤ 1
          go none e = omega (arith, indexed_none f t j e H.agree)
          go (some v) e = omega (arith, indexed_some f t j v e H.agree, sum_found S L (λ n. 1) v t H.cut, at_most_one (found S t v))

      pub nodes_one : (x : ℕ) → nodes t x ≤ 1
      nodes_one x = by-test (ltb x capacity)
          (λ e. omega (arith, rw e at (nodes_split t x), H.numbers x, at_most_one (ltb x (capacity - 1))))
          (λ e. let z : ◌≡◌ {A = ℕ} (cond (ltb x (capacity - 1)) 1 0) 0 = rw (le-ltb x (capacity - 1) (omega (arith, ltb-false x capacity e))) in
          omega (arith, rw e at (nodes_split t x), H.numbers x, indexed_one (x - capacity)))

      -- two nodes of one id are one
      pub node_one : {s v : Tree S} → In S s t → In S v t → id S capacity s ≡ id S capacity v → s ≡ v
      node_one {s} {v} i j e = let a : look S capacity t (id S capacity s) ≡ some s = look_in_lem nodes_one i in let b : look S capacity t (id S capacity v) ≡ some v = look_in_lem nodes_one j in cc (ap (λ x. look S capacity t x) e)
