-- One node of a walk replaced, in the arrays: a branch's row and cut are written, and the branch next above is pointed to the new node.
use mathlib.Core.Path.{◌≡◌, refl, sym, ap, ◌∙◌, subst}
use mathlib.Core.Logic.{◌≢◌}
use mathlib.Core.Bool.{cond}
use mathlib.Core.List.{List, []}
use Prim.Native.Nat.{ℕ, suc, ◌+◌, ◌-◌, ◌≤◌, ◌<◌}
use native.Mathlib.Omega.{arith}
use lib.Dec.{eqb, ltb}
use lib.ListN.{length, get_or, take, set, length-set}
use lib.Seq.{get_or-set_same, get_or-set_other}
use lib.Ieee.{Float, nan}
use borrow.Author.Tests.{eqb-true, eqb-false, ltb-true, ltb-false}
use Rattle.limits.specs.Limits.{capacity_limit, branch_limit}
use Rattle.readings.specs.Number.{nought}
use Rattle.cuttree.specs.Setting.{Setting}
use Rattle.cuttree.specs.Tree.{Tree, leaf, branch, id, height, walk, mass}
use Rattle.cuttree.specs.Walk.{sub, replace}
use Rattle.cuttree.proofs.Tests.{by_cond, by-test}
use Rattle.cuttree.proofs.Heights.{height_sub, sub_sub}
use Rattle.cuttree.proofs.Nodes.{In}
use Rattle.wholetree.specs.Reading.{Reading}
use Rattle.wholetree.specs.Whole.{whole, tab}
use Rattle.layout.specs.Slots.{uses, slot, row_of, cut_of, field}
use Rattle.layout.specs.Layout.{no_row}
use Rattle.layout.specs.Stands.{Once, InRange, trail}
use Rattle.layout.proofs.Tabs.{length_of, entry_of, set_tab}
use Rattle.layout.proofs.Slots.{branch_of_lem, range_in, slot_node}
use Rattle.layout.proofs.Replaced.{upper, upper_uses, upper_at, above_of, in_sub, uses_sub, slot_above, slot_kept}
use Rattle.layout.proofs.Rows.{Apart, apart_once, cut_replace, row_same, row_turned, apart_in}
use Rattle.layout.proofs.Trails.{path_node}
use Rattle.nodestore.specs.Rows.{redirect, relink}
use Rattle.nodestore.proofs.Climbs.{Linked, row_mass}

length_redirect : (n : List (List ℕ)) (a old new : ℕ) → length (redirect n a old new) ≡ length n
length_redirect n a old new = by_cond (λ x. length x ≡ length n) (eqb (field n a 0) old) _ _ (λ _. length-set n a _) (λ _. length-set n a _)

redirect_other : (n : List (List ℕ)) (a old new j : ℕ) → j ≢ a → get_or (redirect n a old new) j [] ≡ get_or n j []
redirect_other n a old new j e = by_cond (λ x. get_or x j [] ≡ get_or n j []) (eqb (field n a 0) old) _ _ (λ _. get_or-set_other n a j _ [] e) (λ _. get_or-set_other n a j _ [] e)

abbrev turned : List ℕ → ℕ → ℕ → List ℕ
turned row old new = cond (eqb (get_or row 0 0) old) (set row 0 new) (set row 1 new)

redirect_same : (n : List (List ℕ)) (a old new : ℕ) → a < length n → get_or (redirect n a old new) a [] ≡ turned (get_or n a []) old new
redirect_same n a old new lt = by-test (eqb (field n a 0) old) (λ e. rw e (get_or-set_same n a _ [] lt)) (λ e. rw e (get_or-set_same n a _ [] lt))

module _ (d c : ℕ) where
  abbrev S : Setting
  S = whole d

  turned_mass : (u : Tree S) (old new x : ℕ) → 0 < uses d c u (id S c u) → set (set (turned (row_of d c u) old new) 2 x) 2 (mass S u) ≡ turned (row_of d c u) old new
  turned_mass (leaf i q n) old new x m = absurd (omega arith)
  turned_mass (branch b k l r) old new x m = by-test (eqb (id S c l) old) (λ e. rw e) (λ e. rw e)

  module _ (t s : Tree S) (p : Reading) (h k : ℕ) (path : List (List ℕ)) (k_is : k + h ≡ height S t p) where
    -- the rows of the new tree, and above the node those of the old
    pub record Placed (N : List (List ℕ)) : Type 0 where
      pub size : length N ≡ branch_limit
      pub off : (j : ℕ) → j < branch_limit → upper d c t h p j ≡ 0 → get_or N j [] ≡ slot d c (row_of d c) no_row (replace S t h p s) j
      pub on : (m : ℕ) → h < m → m ≤ height S t p → get_or N (id S c (sub S t m p)) [] ≡ row_of d c (sub S t m p)

    -- a branch above whose side keeps its id
    on_same : (N : List (List ℕ)) → Placed N → (m : ℕ) → h < m → m ≤ height S t p → (suc h ≡ m → id S c s ≡ id S c (sub S t h p)) →
        get_or N (id S c (sub S t m p)) [] ≡ set (row_of d c (replace S (sub S t m p) h p s)) 2 (mass S (sub S t m p))
    on_same N w m a e f =
        let u = sub S t m p in
        let hs = height_sub S m p t e in
        let z = row_same d c h p s u (omega (arith, hs)) (λ x. f (x ∙ hs) ∙ ap (id S c) (sym (sub_sub S h m p (omega arith) t e))) in
        w.on m a e ∙ sym (ap (λ y. set y 2 (mass S u)) z ∙ row_mass d c u (mass S (replace S u h p s)) (mass S u) (uses_sub d c m p t (omega arith) e) refl)

    pub linked_same : (N : List (List ℕ)) → Placed N → id S c s ≡ id S c (sub S t h p) → Linked d c t s p h k path k_is N
    linked_same N w e = record { size = w.size; off = w.off; on = λ m a x. on_same N w m a x (λ _. e) }

    -- the branch next above turned to s
    module _ (apart : Apart d c t) (small : c ≤ capacity_limit) (range : InRange d c t) (walked : take (walk S t p) path ≡ trail d c t p) where
      parent_is : 0 < k → field path (k - 1) 0 ≡ id S c (sub S t (suc h) p)
      parent_is m = path_node d c p path t walked (k - 1) (suc h) (omega arith)

      pub parent_small : 0 < k → field path (k - 1) 0 < branch_limit
      parent_small m = rw (parent_is m) (let x = upper_at d c h (suc h) p (omega arith) t (omega arith) in
          let u = branch_of_lem d c t (id S c (sub S t (suc h) p)) (omega (arith, upper_uses d c h p (id S c (sub S t (suc h) p)) t (omega arith))) in omega (arith, range_in d c range u.inside))

      not_parent : (m : ℕ) → suc h < m → m ≤ height S t p → id S c (sub S t m p) ≢ id S c (sub S t (suc h) p)
      not_parent m a e x =
          let j = id S c (sub S t (suc h) p) in
          let y : 0 < upper d c t (suc h) p j = subst (λ i. 0 < upper d c t (suc h) p i) x (upper_at d c (suc h) m p a t e) in
          omega (arith, apart_once d c t apart j, upper_uses d c (suc h) p j t (omega arith), uses_sub d c (suc h) p t (omega arith) (omega arith))

      module _ (N : List (List ℕ)) (w : Placed N) (some-above : 0 < k) where
        abbrev old : ℕ
        old = id S c (sub S t h p)

        abbrev parent : ℕ
        parent = id S c (sub S t (suc h) p)

        at_parent : get_or (redirect N parent old (id S c s)) parent [] ≡ set (row_of d c (replace S (sub S t (suc h) p) h p s)) 2 (mass S (sub S t (suc h) p))
        at_parent =
            let u = sub S t (suc h) p in
            let lt : parent < length N = omega (arith, w.size, subst (λ x. x < branch_limit) (parent_is some-above) (parent_small some-above)) in
            let z = row_turned d c h p s u (apart_in d c (in_sub d c (suc h) p t (omega arith)) apart) (sym (height_sub S (suc h) p t (omega arith))) in
            redirect_same N parent old (id S c s) lt ∙ ap (λ y. turned y old (id S c s)) (w.on (suc h) (omega arith) (omega arith))
            ∙ sym (ap (λ y. set y 2 (mass S u)) (z ∙ ap (λ y. set (turned (row_of d c u) (id S c y) (id S c s)) 2 (mass S (replace S u h p s))) (sub_sub S h (suc h) p (omega arith) t (omega arith)))
            ∙ turned_mass u old (id S c s) (mass S (replace S u h p s)) (uses_sub d c (suc h) p t (omega arith) (omega arith)))

        redirected : Linked d c t s p h k path k_is (redirect N parent old (id S c s))
        redirected = record {
          size = length_redirect N parent old (id S c s) ∙ w.size;
          off = λ j m a. redirect_other N parent old (id S c s) j (λ e. absurd (omega (arith, ap (λ i. upper d c t h p i) e, upper_at d c h (suc h) p (omega arith) t (omega arith)))) ∙ w.off j m a;
          on = λ m a e. by-test (eqb m (suc h))
              (λ x. let z : m ≡ suc h = eqb-true m (suc h) x in
              subst (λ y. get_or (redirect N parent old (id S c s)) (id S c (sub S t y p)) [] ≡ set (row_of d c (replace S (sub S t y p) h p s)) 2 (mass S (sub S t y p))) (sym z) at_parent)
              (λ x. let z : m ≢ suc h = eqb-false m (suc h) x in
              redirect_other N parent old (id S c s) (id S c (sub S t m p)) (not_parent m (omega arith) e) ∙ on_same N w m a e (λ y. absurd (z (sym y))));
        }

      pub linked_turned : (N : List (List ℕ)) → Placed N → Linked d c t s p h k path k_is (relink N path k (id S c (sub S t h p)) (id S c s))
      linked_turned N w = by-test (eqb k 0)
          (λ e. let z : k ≡ 0 = eqb-true k 0 e in rw e (record { size = w.size; off = w.off; on = λ m a x. absurd (omega arith) }))
          (λ e. let z : k ≢ 0 = eqb-false k 0 e in rw (e, parent_is (omega arith)) (redirected N w (omega arith)))

  -- WHERE A ROW IS WRITTEN: at b, which is no branch above; v is what stays of the node's place
  pub record Spot (t s v : Tree S) (p : Reading) (h b : ℕ) : Type 0 where
    pub within : h ≤ height S t p
    pub small : b < branch_limit
    pub off_walk : upper d c t h p b ≡ 0
    pub in_old : In S v t
    pub in_new : In S v s
    pub no_other : (j : ℕ) → j ≢ b → uses d c v j ≡ 0 → (uses d c (sub S t h p) j ≡ 0) × (uses d c s j ≡ 0)
    pub once : Once d c t
    pub once_new : Once d c (replace S t h p s)

  module _ (t s v : Tree S) (p : Reading) (h b : ℕ) (w : Spot t s v p h b) where
    same_slot : {A : Type 0} (f : Tree S → A) (z : A) (j : ℕ) → j ≢ b → upper d c t h p j ≡ 0 → slot d c f z (replace S t h p s) j ≡ slot d c f z t j
    same_slot f z j e a = slot_kept d c f z h p s t v j w.once w.once_new w.within w.in_old w.in_new a (w.no_other j e)

    above_slot : {A : Type 0} (f : Tree S → A) (z : A) (m : ℕ) → h < m → m ≤ height S t p → slot d c f z t (id S c (sub S t m p)) ≡ f (sub S t m p)
    above_slot f z m a e = slot_node d c f z (sub S t m p) w.once (in_sub d c m p t e) (uses_sub d c m p t (omega arith) e)

    pub placed : (k : ℕ) (path : List (List ℕ)) (k_is : k + h ≡ height S t p) (N : List (List ℕ)) (row : List ℕ) → c ≤ capacity_limit → InRange d c t → N ≡ tab branch_limit (slot d c (row_of d c) no_row t) → row ≡ slot d c (row_of d c) no_row (replace S t h p s) b → Placed t s p h k path k_is (set N b row)
    placed k path k_is N row small range n r =
        let size = length_of branch_limit (slot d c (row_of d c) no_row t) N n in
        record {
          size = length-set N b row ∙ size;
          off = λ j m a. by-test (eqb j b)
              (λ e. let z : j ≡ b = eqb-true j b e in rw z (get_or-set_same N b row [] (omega (arith, size, w.small)) ∙ r))
              (λ e. let z : j ≢ b = eqb-false j b e in get_or-set_other N b j row [] z ∙ entry_of branch_limit (slot d c (row_of d c) no_row t) N n [] j m ∙ sym (same_slot (row_of d c) no_row j z a));
          on = λ m a e. let j = id S c (sub S t m p) in
              let x = upper_at d c h m p a t e in
              let u = branch_of_lem d c t j (omega (arith, upper_uses d c h p j t w.within)) in
              get_or-set_other N b j row [] (λ y. absurd (omega (arith, ap (λ i. upper d c t h p i) y, w.off_walk))) ∙ entry_of branch_limit (slot d c (row_of d c) no_row t) N n [] j (omega (arith, range_in d c range u.inside))
              ∙ above_slot (row_of d c) no_row m a e;
        }

    pub cuts_placed : (C : List Float) → C ≡ tab branch_limit (slot d c (cut_of d c) nought t) → set C b (slot d c (cut_of d c) nought (replace S t h p s) b) ≡ tab branch_limit (slot d c (cut_of d c) nought (replace S t h p s))
    cuts_placed C e = set_tab nan branch_limit (slot d c (cut_of d c) nought t) (slot d c (cut_of d c) nought (replace S t h p s)) C b e w.small
        (λ j n. by-test (ltb 0 (upper d c t h p j))
        (λ x. let a = above_of d c h p j t w.within (ltb-true 0 (upper d c t h p j) x) in
        subst (λ y. slot d c (cut_of d c) nought (replace S t h p s) y ≡ slot d c (cut_of d c) nought t y) a.is_id
        (slot_above d c (cut_of d c) nought h a.at p s t w.once_new a.higher a.within
        ∙ cut_replace d c h p s (sub S t a.at p) (omega (arith, a.higher, height_sub S a.at p t a.within))
        ∙ sym (above_slot (cut_of d c) nought a.at a.higher a.within)))
        (λ x. same_slot (cut_of d c) nought j n (omega (arith, ltb-false 0 (upper d c t h p j) x))))
