-- The claims of demand 3 from what every call keeps: of the tree at any moment, and of a call's answer.
use mathlib.Core.Path.{◌≡◌, refl, sym, ap, ◌∙◌, subst}
use mathlib.Core.Logic.{inl, inr}
use mathlib.Core.Bool.{true, false, cond}
use mathlib.Core.Option.{Option, none, some}
use mathlib.Core.List.{List, [], ◌∷◌, ◌++◌}
use Prim.Native.Nat.{ℕ, ◌+◌, ◌≤◌, ◌<◌}
use native.Mathlib.Omega.{arith}
use lib.Dec.{eqb, leb, ltb}
use lib.ListN.{length, length-append}
use borrow.Author.Tests.{lt-leb, lt-ltb, ltb-true}
use Rattle.cuttree.specs.Setting.{Setting, Laws, below}
use Rattle.cuttree.specs.Tree.{Tree, leaf, branch, Leaf, id, ending, found, walk, leaves, copies, sum}
use Rattle.cuttree.specs.Run.{box_of, Row, Box, Answer, refused, added, tree_empty, not_held, box_is, World, total_of, enter, leave, Call, put, add, delete, query, call}
use Rattle.cuttree.specs.Counts.{Counts, succeeded, Held, NothingHeld, times, Values}
use Rattle.cuttree.specs.Graph.{View, IsBranch, IsNode, LeafOf, IsRoot, Walk, Under}
use Rattle.cuttree.specs.Demand3.{view_of, TreeClaim, CallClaim}
use Rattle.cuttree.proofs.Tests.{by_cond, by-test, clash, nonsense}
use Rattle.cuttree.proofs.Leaves.{walk_leaves}
use Rattle.cuttree.proofs.Orders.{least_end, most_end}
use Rattle.cuttree.proofs.Boxes.{end_before, end_met}
use Rattle.cuttree.proofs.Cuts.{sum_found, leaf_ending, same_ending, held_found}
use Rattle.cuttree.proofs.Keeps.{Inv}
use Rattle.cuttree.proofs.Nodes.{In, here, left, right, in_trans, all_in, some_in, cut_in, ending_in}
use Rattle.cuttree.proofs.Views.{row_of, branch_asked, box_asked, node_asked, by_leaf, by_branch, by_box, leaf_of, by_leaf_of, side_in_lem, by_child, leaf_under, under_leaf, walk_asked, box_at}
use Rattle.cuttree.proofs.Roots.{is_root}

module _ (S : Setting) (capacity : ℕ) (L : Laws S) where
  open S use {Chan, Point, Word, le, at, same, indices, limit}

  -- OF A TREE
  module _ (f : ℕ → Option Point) (t : Tree S) (u : List (ℕ × ℕ)) (K : Counts S) (I : Inv S capacity (record { table = f; tree = some t; free = u }) K) where
    abbrev G : View S
    G = view_of S capacity (record { table = f; tree = some t; free = u }) K

    found_held : (v : Point) → found S t v ≡ ltb 0 (K.number v)
    found_held v = rw (← (I.number_is v)) (sym (held_found S L t v I.sound.cut I.sound.filled))

    leaf_walk : {i : ℕ} {q : Point} {n : ℕ} → In S (leaf i q n) t → ending S t q ≡ record { index = i; value = q; copies = n }
    leaf_walk h = all_in S (λ i q n. ending S t q ≡ record { index = i; value = q; copies = n }) h (leaf_ending S L t I.sound.cut)

    -- a leaf's value has the leaf's copies
    leaf_number : {i : ℕ} {q : Point} {n : ℕ} → In S (leaf i q n) t → (v : Point) → same q v ≡ true → (n ≡ K.number v) × (0 < n)
    leaf_number {i} {q} {n} h v s =
        let e : ending S t v ≡ record { index = i; value = q; copies = n } = sym (same_ending S L q v s t) ∙ leaf_walk h in
        let c : copies S t v ≡ n = sum_found S L (λ n. n) v t I.sound.cut ∙ ap (λ (x : Leaf S). cond (same x.value v) x.copies 0) e ∙ rw s in
        (sym c ∙ I.number_is v, all_in S (λ i q n. 0 < n) h I.sound.filled)

    some_held : (P : Point → Type 0) → ((v : Point) → Held S K v → P v) → (v : Point) × P v
    some_held P h = go t here
      where
        go : (s : Tree S) → In S s t → (v : Point) × P v
        go (leaf i q n) j = let (e, m) = leaf_number j q (L.same_refl q) in (q, h q (omega arith))
        go (branch b k l r) j = go l (in_trans S (left here) j)

    not_nothing : {A : Type 0} → NothingHeld S K → A
    not_nothing h = let (v, x) = some_held (λ v. ⊥) (λ v m. omega (arith, h v)) in absurd x

    claim_some : TreeClaim S capacity G K
    claim_some = record {
      valued = by_leaf S capacity L f t u K I (λ x n. (q : Point) × LeafOf S G x n q × (capacity ≤ x)) (λ i q n h. (q, leaf_of S capacity L f t u K I h, omega arith));
      has_leaf = λ v h.
          let e : found S t v ≡ true = found_held v ∙ lt-ltb 0 (K.number v) h in
          let j = ending_in S v t in
          ((ending S t v).index + capacity, (ending S t v).value, subst (λ n. LeafOf S G ((ending S t v).index + capacity) n (ending S t v).value) (leaf_number j v e).0 (leaf_of S capacity L f t u K I j), e);
      is_held = λ x n q v h s. by_leaf_of S capacity L f t u K I (λ x n q. same q v ≡ true → Held S K v × (n ≡ K.number v))
          (λ i q n j s. let (e, m) = leaf_number j v s in (omega arith, e)) x n q h s;
      one_leaf = λ x y m n q v a b s. by_leaf_of S capacity L f t u K I (λ x m q. same q v ≡ true → x ≡ y)
          (λ i q m j s. by_leaf_of S capacity L f t u K I (λ y n v. same q v ≡ true → i + capacity ≡ y)
          (λ i' v n j' s. ap (λ (x : Leaf S). x.index + capacity)
          (sym (leaf_walk j) ∙ same_ending S L q v s t ∙ leaf_walk j')) y n v b s) x m q a s;
      left = by_branch S capacity L f t u K I (λ x r. (q : Point) → Under S G r.left q → below S r.cut q ≡ true)
          (λ b k l r j q h. let (i, n, e) = under_leaf S capacity L f t u K I l (in_trans S (left here) j) q h in all_in S (λ i q n. below S k q ≡ true) e (cut_in S j I.sound.cut).0);
      right = by_branch S capacity L f t u K I (λ x r. (q : Point) → Under S G r.right q → below S r.cut q ≡ false)
          (λ b k l r j q h. let (i, n, e) = under_leaf S capacity L f t u K I r (in_trans S (right here) j) q h in all_in S (λ i q n. below S k q ≡ false) e (cut_in S j I.sound.cut).1);
      boxed = by_branch S capacity L f t u K I (λ x r. (b : Box S) × (G.asked (box_of x) ≡ box_is b)) (λ b k l r j. (box_at S capacity (branch b k l r), box_asked S capacity L f t u K I j));
      only_branches = by_box S capacity L f t u K I (λ x w. (r : Row S) × IsBranch S G x r) (λ b k l r j. (row_of S capacity b k l r, branch_asked S capacity L f t u K I j));
      around = by_box S capacity L f t u K I (λ x w. (d : Chan) (q : Point) → Under S G x q → (le (w.lower d) (at q d) ≡ true) × (le (at q d) (w.upper d) ≡ true))
          (λ b k l r j d q h. let (i, n, e) = under_leaf S capacity L f t u K I (branch b k l r) j q h in
          (all_in S _ e (end_before S (least_end S L) d (branch b k l r)), all_in S _ e (end_before S (most_end S L) d (branch b k l r))));
      smallest = by_box S capacity L f t u K I (λ x w. (d : Chan) → ((q : Point) × Under S G x q × (w.lower d ≡ at q d)) × ((q : Point) × Under S G x q × (w.upper d ≡ at q d)))
          (λ b k l r j d.
          let (i, q, n, h, e) = some_in S _ (branch b k l r) (end_met S (least_end S L) d (branch b k l r)) in
          let (i', q', n', h', e') = some_in S _ (branch b k l r) (end_met S (most_end S L) d (branch b k l r)) in
          ((q, leaf_under S capacity L f t u K I h j, e), (q', leaf_under S capacity L f t u K I h' j, e')));
      child_node = λ x y c. by_child S capacity L f t u K I (λ x c y. IsNode S G y) (λ b k l r c j. node_asked S capacity L f t u K I (cond c l r) (in_trans S (side_in_lem S capacity L f t u K I {b = b} {k = k} c) j)) x c y;
      held_or_not = inr (some_held (Held S K) (λ v h. h));
      no_branch = λ h x r e. not_nothing h;
      root = λ v h. (id S capacity t, is_root S capacity L f t u K I);
    }

    -- the values of the leaves: each held value once
    values : Tree S → List Point
    values (leaf i q n) = q ∷ []
    values (branch b k l r) = values l ++ values r

    times_append : (a b : List Point) (v : Point) → times S (a ++ b) v ≡ times S a v + times S b v
    times_append [] b v = omega arith
    times_append (q ∷ qs) b v = omega (arith, times_append qs b v)

    times_values : (s : Tree S) (v : Point) → times S (values s) v ≡ sum S (λ i q n. cond (same q v) 1 0) (λ b. 0) s
    unfolding values
    times_values (leaf i q n) v = omega arith
    times_values (branch b k l r) v = omega (arith, times_append (values l) (values r) v, times_values l v, times_values r v)

    length_values : (s : Tree S) → length (values s) ≡ leaves S s
    unfolding values
    length_values (leaf i q n) = refl
    length_values (branch b k l r) = omega (arith, length-append (values l) (values r), length_values l, length_values r)

    pub within : (n : ℕ) → n ≤ leaves S t → (vs : List Point) × Values S K vs × (n ≤ length vs)
    within n h = (values t, (λ v. times_values t v ∙ sum_found S L (λ n. 1) v t I.sound.cut ∙ ap (λ b. cond b 1 0) (found_held v)), omega (arith, length_values t))

  -- OF NO TREE
  module _ (f : ℕ → Option Point) (u : List (ℕ × ℕ)) (K : Counts S) (I : Inv S capacity (record { table = f; tree = none; free = u }) K) where
    none_held : {A : Type 0} (v : Point) → Held S K v → A
    none_held v h = absurd (omega (arith, I.number_is v))

    claim_none : TreeClaim S capacity (view_of S capacity (record { table = f; tree = none; free = u }) K) K
    claim_none = record {
      valued = λ x n e. nonsense (cc);
      has_leaf = λ v h. none_held v h;
      is_held = λ x n q v e. let h = e.0 in nonsense (cc);
      one_leaf = λ x y m n q v e. let h = e.0 in nonsense (cc);
      left = λ x r e. nonsense (cc);
      right = λ x r e. nonsense (cc);
      boxed = λ x r e. nonsense (cc);
      only_branches = λ x b e. nonsense (cc);
      around = λ x b e. nonsense (cc);
      smallest = λ x b e. nonsense (cc);
      child_node = λ x y c e. let h = e.1 in nonsense (cc);
      held_or_not = inl (λ v. sym (I.number_is v));
      no_branch = λ _ x r e. nonsense (cc);
      root = λ v h. none_held v h;
    }

  tree_claim_of : (f : ℕ → Option Point) (o : Option (Tree S)) (u : List (ℕ × ℕ)) (K : Counts S) → Inv S capacity (record { table = f; tree = o; free = u }) K → TreeClaim S capacity (view_of S capacity (record { table = f; tree = o; free = u }) K) K
  tree_claim_of f none u K I = claim_none f u K I
  tree_claim_of f (some t) u K I = claim_some f t u K I

  pub tree_claim : (W : World S) (K : Counts S) → Inv S capacity W K → TreeClaim S capacity (view_of S capacity W K) K
  tree_claim W K I = tree_claim_of W.table W.tree W.free K I

  -- OF AN ADD'S ANSWER
  abbrev Added : World S → Counts S → Point → Answer S × World S → Type 0
  Added W K v x = (j n : ℕ) → x.0 ≡ added j n →
      (Held S K v → n ≡ 0) × (NothingHeld S K → n ≡ 0)
      × ((p : Point) → Held S K p → K.number v ≡ 0 → (y : ℕ) × IsRoot S (view_of S capacity W K) y × Walk S (view_of S capacity W K) v y n)
      × ((vs : List Point) × Values S K vs × (n ≤ length vs))

  enter_claim : (f : ℕ → Option Point) (o : Option (Tree S)) (u : List (ℕ × ℕ)) (K : Counts S) (i : ℕ) (v : Point) (ws : List Word) → Inv S capacity (record { table = f; tree = o; free = u }) K →
      Added (record { table = f; tree = o; free = u }) K v (enter S capacity (record { table = f; tree = o; free = u }) o i v ws)
  enter_claim f none u K i v ws I = λ j n e. let z : n ≡ 0 = cc in
      ((λ _. z), (λ _. z), (λ p h _. none_held f u K I p h), ([], (λ q. rw (← (I.number_is q)) refl), omega arith))
  enter_claim f (some t) u K i v ws I =
      by_cond (Added (record { table = f; tree = some t; free = u }) K v) (found S t v) _ _
      (λ a j n e. let z : n ≡ 0 = cc in
      ((λ _. z), (λ _. z), (λ p _ c. absurd (omega (arith, ltb-true 0 (K.number v) (sym (found_held f t u K I v) ∙ a)))), within f t u K I n (omega arith)))
      (λ a. by_cond (Added (record { table = f; tree = some t; free = u }) K v) (leb capacity (leaves S t)) _ _ (λ _ j n e. nonsense (cc))
      (λ _. by_cond (Added (record { table = f; tree = some t; free = u }) K v) (ltb (length ws) (walk S t v)) _ _ (λ _ j n e. nonsense (cc))
      (λ _ j n e. let z : n ≡ walk S t v = cc in (
        (λ h. clash (found S t v) (found_held f t u K I v ∙ lt-ltb 0 (K.number v) h) a),
        (λ h. not_nothing f t u K I h),
        (λ p _ _. (id S capacity t, is_root S capacity L f t u K I, subst (λ m. Walk S (view_of S capacity (record { table = f; tree = some t; free = u }) K) v (id S capacity t) m) (sym z) (walk_asked S capacity L f t u K I v t here))),
        within f t u K I n (omega (arith, walk_leaves S t v)),
      ))))

  add_claim : (W : World S) (K : Counts S) (i : ℕ) (ws : List Word) → Inv S capacity W K → CallClaim S capacity (view_of S capacity W K) K (add i ws) (call S capacity W (add i ws)).0
  add_claim W K i ws I = λ v j n k. rw (I.kept_is i ∙ k)
      (by_cond (Added W K v) (leb indices i) _ _ (λ _ j n e. nonsense (cc))
      (λ _. by_cond (Added W K v) (eqb (total_of S W.tree) limit) _ _ (λ _ j n e. nonsense (cc))
      (λ _. enter_claim W.table W.tree W.free K i v ws I)) j n)

  -- OF A DELETE'S ANSWER
  abbrev Deleted : Counts S → Point → Answer S → Type 0
  Deleted K v a = (succeeded S a ≡ ltb 0 (K.number v)) × (NothingHeld S K → a ≡ refused tree_empty) × ((p : Point) → Held S K p → K.number v ≡ 0 → a ≡ refused not_held)

  leave_claim : (f : ℕ → Option Point) (o : Option (Tree S)) (u : List (ℕ × ℕ)) (K : Counts S) (v : Point) → Inv S capacity (record { table = f; tree = o; free = u }) K →
      Deleted K v (leave S (record { table = f; tree = o; free = u }) o v).0
  leave_claim f none u K v I = (rw (← (I.number_is v)) refl, (λ _. refl), (λ p h. none_held f u K I p h))
  leave_claim f (some t) u K v I = by-test (found S t v)
      (λ e. rw e (sym e ∙ found_held f t u K I v, (λ h. not_nothing f t u K I h), (λ p _ c. absurd (omega (arith, ltb-true 0 (K.number v) (sym (found_held f t u K I v) ∙ e))))))
      (λ e. rw e (sym e ∙ found_held f t u K I v, (λ h. not_nothing f t u K I h), (λ p _ _. refl)))

  delete_claim : (W : World S) (K : Counts S) (i : ℕ) → Inv S capacity W K → CallClaim S capacity (view_of S capacity W K) K (delete i) (call S capacity W (delete i)).0
  delete_claim W K i I = λ v k. rw (lt-leb indices i (I.sound.inside i v (I.kept_is i ∙ k)), I.kept_is i ∙ k) (leave_claim W.table W.tree W.free K v I)

  pub call_claim : (W : World S) (K : Counts S) (c : Call S) → Inv S capacity W K → CallClaim S capacity (view_of S capacity W K) K c (call S capacity W c).0
  call_claim W K (put i x) I = tt
  call_claim W K (add i ws) I = add_claim W K i ws I
  call_claim W K (delete i) I = delete_claim W K i I
  call_claim W K (query q) I = tt
