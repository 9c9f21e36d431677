-- A new value, in the arrays: the row and the cut of the new branch, the pointer to it, and the masses above.
use mathlib.Core.Path.{◌≡◌, refl, sym, ap, ◌∙◌, subst}
use mathlib.Core.Bool.{cond}
use mathlib.Core.Option.{some}
use mathlib.Core.List.{List, []}
use Prim.Native.Nat.{ℕ, ◌+◌, ◌-◌, ◌≤◌, ◌<◌}
use native.Mathlib.Omega.{arith}
use lib.Dec.{eqb}
use lib.ListN.{get_or, take, set}
use lib.Ieee.{Float}
use borrow.Author.Tests.{eqb-true, lt-ltb, le-ltb}
use Rattle.limits.specs.Limits.{branch_limit, point_limit}
use Rattle.readings.specs.Number.{nought}
use Rattle.cuttree.specs.Setting.{Setting, Cut, below}
use Rattle.cuttree.specs.Tree.{Tree, leaf, branch, is, id, height, walk, mass, above}
use Rattle.cuttree.specs.Walk.{sub, replace, graft}
use Rattle.cuttree.proofs.Tests.{by_cond, by-test}
use Rattle.cuttree.proofs.Intervals.{is_same, is_other}
use Rattle.cuttree.proofs.Sums.{sum_above}
use Rattle.cuttree.proofs.Masses.{mass_laws}
use Rattle.cuttree.proofs.Heights.{sum_replace}
use Rattle.cuttree.proofs.Nodes.{In, here, left, right}
use Rattle.wholetree.specs.Reading.{Reading}
use Rattle.wholetree.specs.Whole.{whole, tab}
use Rattle.layout.specs.Slots.{uses, slot, row_of, cut_of, count_at, field}
use Rattle.layout.specs.Layout.{no_row}
use Rattle.layout.specs.Stands.{Once, trail}
use Rattle.layout.proofs.Tabs.{entry_of}
use Rattle.layout.proofs.Slots.{range_in, slot_in_lem, slot_node}
use Rattle.layout.proofs.Replaced.{upper_uses, in_sub, in_new}
use Rattle.layout.proofs.Rows.{apart_once}
use Rattle.layout.proofs.Ranges.{range_node}
use Rattle.layout.proofs.Counts.{count_in_lem, count_set}
use Rattle.nodestore.specs.Rows.{mass_over, relink, heavier, Climb, row_for, mass_at}
use Rattle.nodestore.specs.Stored.{Arrays, Stored}
use Rattle.nodestore.proofs.Facts.{no_either, uses_replace}
use Rattle.nodestore.proofs.Climbs.{Linked, climbs, weighed}
use Rattle.nodestore.proofs.Links.{Spot, linked_turned, parent_small, placed, cuts_placed}

module _ (d c : ℕ) (t : Tree (whole d)) (p : Reading) (N : List (List ℕ)) (C : List Float) (K : List ℕ) (w : Stored d c N C K t) where
  abbrev S : Setting
  S = whole d

  once : Once d c t
  once = apart_once d c t w.apart

  -- A NODE'S MASS as the arrays have it, and the bounds of its id
  pub mass_at_lem : (v : Tree S) → In S v t → mass_at c N K (id S c v) ≡ mass S v
  mass_at_lem (leaf i q n) e =
      let z : (i + c) - c ≡ i = omega arith in
      let m : get_or K i 0 ≡ n = entry_of point_limit (count_at d c t) K w.arrays.counts 0 i (range_node d c e w.in_range) ∙ count_in_lem d c w.apart e in
      rw (le-ltb (i + c) c (omega arith), z, m)
  mass_at_lem (branch b k l r) e =
      let m = range_in d c w.in_range e in
      rw (lt-ltb b c (omega (arith, m))) (ap (λ y. get_or y 2 0) (entry_of branch_limit (slot d c (row_of d c) no_row t) N w.arrays.rows [] b (omega (arith, m, w.small)) ∙ slot_in_lem d c (row_of d c) no_row once e))

  pub id_low : (v : Tree S) → In S v t → (id S c v < c → id S c v < branch_limit) × (id S c v - c < point_limit)
  id_low (leaf i q n) e = ((λ x. absurd (omega arith)), omega (arith, range_node d c e w.in_range))
  id_low (branch b k l r) e = let m = range_in d c w.in_range e in ((λ x. omega (arith, m, w.small)), omega (arith, m))

  -- THE NEW BRANCH b above the node of height h, with the cut x and the leaf of index i
  module _ (h b i : ℕ) (x : Cut S) (within : h ≤ height S t p) (fresh : uses d c t b ≡ 0) (small : b < branch_limit) where
    abbrev old : Tree S
    old = sub S t h p

    abbrev new : Tree S
    new = above S b x i p old

    pub new_id : id S c new ≡ b
    new_id = by_cond (λ y. id S c y ≡ b) (below S x p) _ _ (λ _. refl) (λ _. refl)

    new_uses : (j : ℕ) → uses d c new j ≡ uses d c old j + is b j
    new_uses j = omega (arith, sum_above S (λ i q n. 0) (λ b. is b j) b x i p old)

    once_new : Once d c (replace S t h p new)
    once_new j = by-test (eqb b j)
        (λ e. let z : b ≡ j = eqb-true b j e in let o : is b j ≡ 1 = rw e in omega (arith, o, subst (λ y. uses d c t y ≡ 0) z fresh, new_uses j, uses_replace d c t new p h j within))
        (λ e. let o : is b j ≡ 0 = rw e in omega (arith, o, once j, new_uses j, uses_replace d c t new p h j within))

    spot : Spot d c t new old p h b
    spot = record {
      within = within;
      small = small;
      off_walk = omega (arith, fresh, upper_uses d c h p b t within);
      in_old = in_sub d c h p t within;
      in_new = by_cond (In S old) (below S x p) _ _ (λ _. right here) (λ _. left here);
      no_other = λ j n e. (e, omega (arith, new_uses j, is_other b j (λ y. n (sym y))));
      once = once;
      once_new = once_new;
    }

    -- its slot
    new_slot : {A : Type 0} (f : Tree S → A) (z : A) → slot d c f z (replace S t h p new) b ≡ f new
    new_slot f z = subst (λ y. slot d c f z (replace S t h p new) y ≡ f new) new_id (slot_node d c f z new once_new (in_new d c h p new t within) (rw new_id (omega (arith, new_uses b, is_same b))))

    pub new_row : row_of d c new ≡ row_for (below S x p) (i + c) (id S c old) (mass S old) x.channel
    new_row =
        let m = (mass_laws S).new_branch_mass b x i p old in
        by-test (below S x p)
        (λ e. let y : mass S (branch b x (leaf i p 1) old) ≡ mass S old + 1 = rw e at m in rw (e, y))
        (λ e. let y : mass S (branch b x old (leaf i p 1)) ≡ mass S old + 1 = rw e at m in rw (e, y))

    new_cut : cut_of d c new ≡ x.value.value
    new_cut = by_cond (λ y. cut_of d c y ≡ x.value.value) (below S x p) _ _ (λ _. refl) (λ _. refl)

    new_counts : count_at d c t i ≡ 0 → i < point_limit → set K i 1 ≡ tab point_limit (count_at d c (replace S t h p new))
    new_counts none low = count_set d c K t (replace S t h p new) i 0 1 w.arrays.counts low none
        (λ y. omega (arith, no_either (eqb i y), sum_replace S (λ i q n. cond (eqb i y) n 0) (λ b. 0) h p new t within, sum_above S (λ i q n. cond (eqb i y) n 0) (λ b. 0) b x i p old))

    module _ (k : ℕ) (path : List (List ℕ)) (k_is : k + h ≡ height S t p) (walked : take (walk S t p) path ≡ trail d c t p) where
      abbrev pub linked_rows : List (List ℕ)
      linked_rows = relink (set N b (row_of d c new)) path k (id S c old) b

      linked : Linked d c t new p h k path k_is linked_rows
      linked = subst (λ y. Linked d c t new p h k path k_is (relink (set N b (row_of d c new)) path k (id S c old) y)) new_id
          (linked_turned d c t new p h k path k_is w.apart w.small w.in_range walked (set N b (row_of d c new))
          (placed d c t new old p h b spot k path k_is N (row_of d c new) w.small w.in_range w.arrays.rows (sym (new_slot (row_of d c) no_row))))

      pub parent_low : 0 < k → field path (k - 1) 0 < branch_limit
      parent_low = parent_small d c t new p h k path k_is w.apart w.small w.in_range walked

      pub new_climb : (high : ℕ) → mass S t ≤ high → Climb 1 high linked_rows (take k path)
      new_climb = climbs d c t new p h k path k_is linked_rows linked w.small once w.in_range w.filled walked

      pub new_arrays : count_at d c t i ≡ 0 → i < point_limit → Arrays d c (mass_over heavier (take k path) linked_rows) (set C b x.value.value) (set K i 1) (some (graft S b i p (h, x) t))
      new_arrays none low =
          let more = (mass_laws S).new_branch_mass b x i p old in
          record {
            rows = weighed d c t new p h k path k_is linked_rows linked w.small once w.in_range w.filled walked heavier once_new (λ y m. omega (arith, more));
            values = ap (set C b) (sym (new_slot (cut_of d c) nought ∙ new_cut)) ∙ cuts_placed d c t new old p h b spot C w.arrays.values;
            counts = new_counts none low;
          }
