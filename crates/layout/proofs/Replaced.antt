-- One node of a walk replaced: what every slot then has. All edits of a tree are such replacements.
use mathlib.Core.Path.{◌≡◌, refl, sym, ap, ◌∙◌, subst}
use mathlib.Core.Bool.{false, cond}
use Prim.Native.Nat.{ℕ, ◌+◌, ◌≤◌, ◌<◌}
use native.Mathlib.Omega.{arith}
use lib.Dec.{eqb, ltb}
use borrow.Author.Tests.{eqb-true, eq-eqb, ne_eqb, ltb-true, ltb-false}
use Rattle.cuttree.specs.Setting.{Cut, below}
use Rattle.cuttree.specs.Tree.{Tree, leaf, branch, is, id, height}
use Rattle.cuttree.specs.Walk.{sub, replace}
use Rattle.cuttree.proofs.Tests.{by_cond, by-test, cond_true, cond_false}
use Rattle.cuttree.proofs.Intervals.{is_same}
use Rattle.cuttree.proofs.Steps.{toward, rejoin, along, height_step}
use Rattle.cuttree.proofs.Heights.{by_height, sub_top, sub_down, replace_top, replace_down, height_sub, sum_replace}
use Rattle.cuttree.proofs.Nodes.{is_zero, In, here, left, right, in_trans}
use Rattle.wholetree.specs.Reading.{Reading}
use Rattle.wholetree.specs.Whole.{whole}
use Rattle.layout.specs.Slots.{uses, slot}
use Rattle.layout.specs.Stands.{Once}
use Rattle.layout.proofs.Slots.{branch_of_lem, slot_in_lem, slot_none, slot_node}

module _ (d c : ℕ) where
  -- how often j is the number of a branch of p's walk above the height h
  abbrev pub upper : Tree (whole d) → ℕ → Reading → ℕ → ℕ
  upper (leaf i q n) h p j = 0
  upper (branch b k l r) h p j = cond (eqb (height (whole d) (branch b k l r) p) h) 0 (is b j + cond (below (whole d) k p) (upper l h p j) (upper r h p j))

  pub upper_top : (t : Tree (whole d)) (p : Reading) (j : ℕ) → upper t (height (whole d) t p) p j ≡ 0
  upper_top (leaf i q n) p j = refl
  upper_top (branch b k l r) p j = let H = height (whole d) (branch b k l r) p in cond_true _ _ _ (eq-eqb H H refl)

  pub upper_down : (b : ℕ) (k : Cut (whole d)) (l r : Tree (whole d)) (p : Reading) (h j : ℕ) → h ≤ height (whole d) (toward (whole d) k p l r) p → upper (branch b k l r) h p j ≡ is b j + upper (toward (whole d) k p l r) h p j
  upper_down b k l r p h j m =
      cond_false _ _ _ (ne_eqb (height (whole d) (branch b k l r) p) h (λ e. omega (arith, height_step (whole d) b k l r p)))
      ∙ by-test (below (whole d) k p) (λ e. rw e) (λ e. rw e)

  uses_side : (b : ℕ) (k : Cut (whole d)) (l r : Tree (whole d)) (p : Reading) (j : ℕ) → is b j + uses d c (toward (whole d) k p l r) j ≤ uses d c (branch b k l r) j
  uses_side b k l r p j = by-test (below (whole d) k p) (λ e. rw e (omega arith)) (λ e. rw e (omega arith))

  -- those above and those in the node's place are all different branches of the tree
  pub upper_uses : (h : ℕ) (p : Reading) (j : ℕ) (t : Tree (whole d)) → h ≤ height (whole d) t p → upper t h p j + uses d c (sub (whole d) t h p) j ≤ uses d c t j
  upper_uses h p j = along (whole d) (λ t. h ≤ height (whole d) t p → upper t h p j + uses d c (sub (whole d) t h p) j ≤ uses d c t j) p (λ i q n m. omega arith)
      (λ b k l r ih m. by_height (whole d) b k l r p h m
      (λ e. let t = branch b k l r in
      let x = ap (λ y. uses d c (sub (whole d) t y p) j) e ∙ ap (λ y. uses d c y j) (sub_top (whole d) t p) in
      let y = ap (λ y. upper t y p j) e ∙ upper_top t p j in omega (arith, x, y))
      (λ n. let x = ap (λ y. uses d c y j) (sub_down (whole d) b k l r p h n) in
      omega (arith, x, ih n, upper_down b k l r p h j n, uses_side b k l r p j)))

  -- a branch of a height above is one of them, and each of them has such a height
  pub upper_at : (h m : ℕ) (p : Reading) → h < m → (t : Tree (whole d)) → m ≤ height (whole d) t p → 0 < upper t h p (id (whole d) c (sub (whole d) t m p))
  upper_at h m p a = along (whole d) (λ t. m ≤ height (whole d) t p → 0 < upper t h p (id (whole d) c (sub (whole d) t m p))) p (λ i q n e. absurd (omega arith))
      (λ b k l r ih e. let t = branch b k l r in by_height (whole d) b k l r p m e
      (λ f. let x : sub (whole d) t m p ≡ t = ap (λ y. sub (whole d) t y p) f ∙ sub_top (whole d) t p in
      rw x (omega (arith, upper_down b k l r p h b (omega (arith, height_step (whole d) b k l r p)), is_same b)))
      (λ n. rw (sub_down (whole d) b k l r p m n) (omega (arith, ih n, upper_down b k l r p h (id (whole d) c (sub (whole d) (toward (whole d) k p l r) m p)) (omega arith)))))

  pub record Above (t : Tree (whole d)) (h : ℕ) (p : Reading) (j : ℕ) : Type 0 where
    pub at : ℕ
    pub higher : h < at
    pub within : at ≤ height (whole d) t p
    pub is_id : id (whole d) c (sub (whole d) t at p) ≡ j

  pub above_of : (h : ℕ) (p : Reading) (j : ℕ) (t : Tree (whole d)) → h ≤ height (whole d) t p → 0 < upper t h p j → Above t h p j
  above_of h p j = along (whole d) (λ t. h ≤ height (whole d) t p → 0 < upper t h p j → Above t h p j) p (λ i q n m x. absurd (omega arith))
      (λ b k l r ih m x. let t = branch b k l r in by_height (whole d) b k l r p h m
      (λ e. absurd (omega (arith, ap (λ y. upper t y p j) e ∙ upper_top t p j)))
      (λ n. by-test (eqb b j)
      (λ e. record {
        at = height (whole d) t p;
        higher = omega (arith, height_step (whole d) b k l r p);
        within = omega arith;
        is_id = ap (id (whole d) c) (sub_top (whole d) t p) ∙ eqb-true b j e;
      })
      (λ e. let z : is b j ≡ 0 = rw e in
      let u = ih n (omega (arith, upper_down b k l r p h j n)) in
      record {
        at = u.at;
        higher = u.higher;
        within = omega (arith, u.within, height_step (whole d) b k l r p);
        is_id = ap (id (whole d) c) (sub_down (whole d) b k l r p u.at u.within) ∙ u.is_id;
      })))

  -- a number of no height above is none of theirs
  pub none_above : (h : ℕ) (p : Reading) (j : ℕ) (t : Tree (whole d)) → h ≤ height (whole d) t p → ((m : ℕ) → h < m → m ≤ height (whole d) t p → id (whole d) c (sub (whole d) t m p) ≡ j → ⊥) → upper t h p j ≡ 0
  none_above h p j t m n = by-test (ltb 0 (upper t h p j))
      (λ e. let u = above_of h p j t m (ltb-true 0 (upper t h p j) e) in absurd (n u.at u.higher u.within u.is_id))
      (λ e. omega (arith, ltb-false 0 (upper t h p j) e))

  pub in_sub : (m : ℕ) (p : Reading) (t : Tree (whole d)) → m ≤ height (whole d) t p → In (whole d) (sub (whole d) t m p) t
  in_sub m p = along (whole d) (λ t. m ≤ height (whole d) t p → In (whole d) (sub (whole d) t m p) t) p (λ i q n e. here)
      (λ b k l r ih e. let t = branch b k l r in by_height (whole d) b k l r p m e
      (λ f. let x : sub (whole d) t m p ≡ t = ap (λ y. sub (whole d) t y p) f ∙ sub_top (whole d) t p in rw x here)
      (λ n. rw (sub_down (whole d) b k l r p m n) (in_side b k l r p (ih n))))
    where
      in_side : (b : ℕ) (k : Cut (whole d)) (l r : Tree (whole d)) (p : Reading) {u : Tree (whole d)} → In (whole d) u (toward (whole d) k p l r) → In (whole d) u (branch b k l r)
      in_side b k l r p {u} = by_cond (λ y. In (whole d) u y → In (whole d) u (branch b k l r)) (below (whole d) k p) l r (λ _ i. left i) (λ _ i. right i)

  -- a branch of the walk has its number in its own slot
  pub uses_sub : (m : ℕ) (p : Reading) (t : Tree (whole d)) → 0 < m → m ≤ height (whole d) t p → 0 < uses d c (sub (whole d) t m p) (id (whole d) c (sub (whole d) t m p))
  uses_sub m p t z e = go (sub (whole d) t m p) (height_sub (whole d) m p t e)
    where
      go : (u : Tree (whole d)) → height (whole d) u p ≡ m → 0 < uses d c u (id (whole d) c u)
      go (leaf i q n) h = absurd (omega arith)
      go (branch b k l r) h = omega (arith, is_same b)

  -- WHAT IS IN THE NEW TREE: s, and each branch above with its own part replaced
  pub in_replace : (h m : ℕ) (p : Reading) (s : Tree (whole d)) → h ≤ m → (t : Tree (whole d)) → m ≤ height (whole d) t p → In (whole d) (replace (whole d) (sub (whole d) t m p) h p s) (replace (whole d) t h p s)
  in_replace h m p s a = along (whole d) (λ t. m ≤ height (whole d) t p → In (whole d) (replace (whole d) (sub (whole d) t m p) h p s) (replace (whole d) t h p s)) p (λ i q n e. here)
      (λ b k l r ih e. let t = branch b k l r in by_height (whole d) b k l r p m e
      (λ f. let x : sub (whole d) t m p ≡ t = ap (λ y. sub (whole d) t y p) f ∙ sub_top (whole d) t p in rw x here)
      (λ n. rw (sub_down (whole d) b k l r p m n, replace_down (whole d) b k l r p h s (omega arith))
      (by_cond (λ y. In (whole d) (replace (whole d) (sub (whole d) (toward (whole d) k p l r) m p) h p s) y) (below (whole d) k p) _ _ (λ _. left (ih n)) (λ _. right (ih n)))))

  pub in_new : (h : ℕ) (p : Reading) (s t : Tree (whole d)) → h ≤ height (whole d) t p → In (whole d) s (replace (whole d) t h p s)
  in_new h p s t m =
      let u = sub (whole d) t h p in
      let e : replace (whole d) u h p s ≡ s = ap (λ y. replace (whole d) u y p s) (sym (height_sub (whole d) h p t m)) ∙ replace_top (whole d) u p s in
      subst (λ y. In (whole d) y (replace (whole d) t h p s)) e (in_replace h h p s (omega arith) t m)

  -- a branch above keeps its number
  pub id_replace : (h : ℕ) (p : Reading) (s u : Tree (whole d)) → h < height (whole d) u p → (id (whole d) c (replace (whole d) u h p s) ≡ id (whole d) c u) × (0 < uses d c (replace (whole d) u h p s) (id (whole d) c u))
  id_replace h p s (leaf i q n) m = absurd (omega arith)
  id_replace h p s (branch b k l r) m = rw (replace_down (whole d) b k l r p h s (omega (arith, height_step (whole d) b k l r p)))
      (by_cond (λ y. (id (whole d) c y ≡ b) × (0 < uses d c y b)) (below (whole d) k p) _ _ (λ _. (refl, omega (arith, is_same b))) (λ _. (refl, omega (arith, is_same b))))

  -- THE SLOTS OF THE NEW TREE
  module _ {A : Type 0} (f : Tree (whole d) → A) (z : A) where
    -- of a branch above
    pub slot_above : (h m : ℕ) (p : Reading) (s t : Tree (whole d)) → Once d c (replace (whole d) t h p s) → h < m → m ≤ height (whole d) t p →
        slot d c f z (replace (whole d) t h p s) (id (whole d) c (sub (whole d) t m p)) ≡ f (replace (whole d) (sub (whole d) t m p) h p s)
    slot_above h m p s t o a e =
        let u = sub (whole d) t m p in
        let x = id_replace h p s u (omega (arith, height_sub (whole d) m p t e)) in
        subst (λ y. slot d c f z (replace (whole d) t h p s) y ≡ f (replace (whole d) u h p s)) x.0
        (slot_node d c f z (replace (whole d) u h p s) o (in_replace h m p s (omega arith) t e) (rw x.0 x.1))

    -- a branch whose side is exchanged for one of the same slot
    slot_rejoin : (b : ℕ) (k : Cut (whole d)) (l r : Tree (whole d)) (p : Reading) (j : ℕ) (x : Tree (whole d)) → eqb b j ≡ false → uses d c x j ≡ uses d c (toward (whole d) k p l r) j → slot d c f z x j ≡ slot d c f z (toward (whole d) k p l r) j →
        slot d c f z (rejoin (whole d) b k l r p x) j ≡ slot d c f z (branch b k l r) j
    unfolding slot
    slot_rejoin b k l r p j x n u e = by-test (below (whole d) k p)
        (λ t. let u' : uses d c x j ≡ uses d c l j = rw t at u in let e' : slot d c f z x j ≡ slot d c f z l j = rw t at e in rw (t, n, u', e'))
        (λ t. let e' : slot d c f z x j ≡ slot d c f z r j = rw t at e in rw (t, n, e'))

    -- of a branch that is neither, and was not in the node's place
    pub slot_other : (h : ℕ) (p : Reading) (s : Tree (whole d)) (j : ℕ) → uses d c s j ≡ 0 → (t : Tree (whole d)) → h ≤ height (whole d) t p → upper t h p j ≡ 0 → uses d c (sub (whole d) t h p) j ≡ 0 →
        slot d c f z (replace (whole d) t h p s) j ≡ slot d c f z t j
    slot_other h p s j e = along (whole d) (λ t. h ≤ height (whole d) t p → upper t h p j ≡ 0 → uses d c (sub (whole d) t h p) j ≡ 0 → slot d c f z (replace (whole d) t h p s) j ≡ slot d c f z t j) p
        (λ i q n m a w. slot_none d c f z s j e ∙ sym (slot_none d c f z (leaf i q n) j w))
        (λ b k l r ih m a w. let t = branch b k l r in by_height (whole d) b k l r p h m
        (λ f'. let x : sub (whole d) t h p ≡ t = ap (λ y. sub (whole d) t y p) f' ∙ sub_top (whole d) t p in
        let y : replace (whole d) t h p s ≡ s = ap (λ y. replace (whole d) t y p s) f' ∙ replace_top (whole d) t p s in
        rw y (slot_none d c f z s j e ∙ sym (slot_none d c f z t j (subst (λ y. uses d c y j ≡ 0) x w))))
        (λ n. let v = toward (whole d) k p l r in
        let a' = upper_down b k l r p h j n in
        let w' : uses d c (sub (whole d) v h p) j ≡ 0 = subst (λ y. uses d c y j ≡ 0) (sub_down (whole d) b k l r p h n) w in
        let same : uses d c (replace (whole d) v h p s) j ≡ uses d c v j = omega (arith, sum_replace (whole d) (λ i q n. 0) (λ b. is b j) h p s v n) in
        rw (replace_down (whole d) b k l r p h s n) (slot_rejoin b k l r p j (replace (whole d) v h p s) (is_zero b j (omega (arith, a'))) same (ih n (omega (arith, a')) w'))))

    -- of a branch that both trees have: v is the part of the node's place that stays
    pub slot_kept : (h : ℕ) (p : Reading) (s t v : Tree (whole d)) (j : ℕ) → Once d c t → Once d c (replace (whole d) t h p s) → h ≤ height (whole d) t p → In (whole d) v t → In (whole d) v s → upper t h p j ≡ 0 →
        (uses d c v j ≡ 0 → (uses d c (sub (whole d) t h p) j ≡ 0) × (uses d c s j ≡ 0)) → slot d c f z (replace (whole d) t h p s) j ≡ slot d c f z t j
    slot_kept h p s t v j o o' m i i' a e = by-test (ltb 0 (uses d c v j))
        (λ x. let u = branch_of_lem d c v j (ltb-true 0 (uses d c v j) x) in
        slot_in_lem d c f z o' (in_trans (whole d) u.inside (in_trans (whole d) i' (in_new h p s t m))) ∙ sym (slot_in_lem d c f z o (in_trans (whole d) u.inside i)))
        (λ x. let w = e (omega (arith, ltb-false 0 (uses d c v j) x)) in slot_other h p s j w.1 t m a w.0)
