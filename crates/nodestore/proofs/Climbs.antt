-- The masses above a replaced node: rows that are the new tree's but for these masses become the new tree's rows.
use mathlib.Core.Path.{◌≡◌, refl, sym, ap, ◌∙◌, subst}
use mathlib.Core.List.{List, []}
use Prim.Native.Nat.{ℕ, zero, suc, ◌+◌, ◌≤◌, ◌<◌}
use native.Mathlib.Omega.{arith}
use lib.Dec.{ltb}
use lib.ListN.{length, get_or, take, set}
use lib.Seq.{take-take}
use borrow.Author.Tests.{ltb-true, ltb-false}
use Rattle.limits.specs.Limits.{capacity_limit, branch_limit}
use Rattle.cuttree.specs.Setting.{Setting, Cut}
use Rattle.cuttree.specs.Tree.{Tree, leaf, branch, id, height, walk, mass, is}
use Rattle.cuttree.specs.Walk.{sub, replace}
use Rattle.cuttree.proofs.Tests.{by-test}
use Rattle.cuttree.proofs.Steps.{toward, along, height_step}
use Rattle.cuttree.proofs.Copies.{Filled}
use Rattle.cuttree.proofs.Masses.{mass_pos, mass_in}
use Rattle.cuttree.proofs.Heights.{height_sub, sub_sub}
use Rattle.cuttree.proofs.Nodes.{all_in}
use Rattle.wholetree.specs.Reading.{Reading}
use Rattle.wholetree.specs.Whole.{whole, tab}
use Rattle.layout.specs.Slots.{uses, slot, row_of, field}
use Rattle.layout.specs.Layout.{no_row}
use Rattle.layout.specs.Stands.{Once, InRange, trail_from, trail, no_sibling}
use Rattle.layout.proofs.Tabs.{is_tab}
use Rattle.layout.proofs.Slots.{branch_of_lem, range_in}
use Rattle.layout.proofs.Replaced.{upper, upper_top, upper_down, upper_uses, upper_at, above_of, in_sub, id_replace, slot_above}
use Rattle.layout.proofs.Rows.{mass_changed}
use Rattle.layout.proofs.Trails.{trail_step}
use Rattle.nodestore.specs.Rows.{times, mass_over, Climb}
use Rattle.nodestore.proofs.Masses.{length_mass, mass_other, mass_same}

module _ (d c : ℕ) where
  abbrev S : Setting
  S = whole d

  -- THE ROWS OF THE PATH above the height h are the branches above it
  trail_upper : (p : Reading) (j h : ℕ) (t : Tree S) (s k : ℕ) → k + h ≡ height S t p → times (take k (trail_from d c s t p)) j ≡ upper d c t h p j
  trail_upper p j h = along S (λ t. (s k : ℕ) → k + h ≡ height S t p → times (take k (trail_from d c s t p)) j ≡ upper d c t h p j) p
      (λ i q n s k e. let z : k ≡ 0 = omega arith in rw z)
      down
    where
      down : (b : ℕ) (k : Cut S) (l r : Tree S) → ((s n : ℕ) → n + h ≡ height S (toward S k p l r) p → times (take n (trail_from d c s (toward S k p l r) p)) j ≡ upper d c (toward S k p l r) h p j) →
          (s n : ℕ) → n + h ≡ height S (branch b k l r) p → times (take n (trail_from d c s (branch b k l r) p)) j ≡ upper d c (branch b k l r) h p j
      down b k l r ih s zero e = let f : h ≡ height S (branch b k l r) p = omega arith in sym (ap (λ y. upper d c (branch b k l r) y p j) f ∙ upper_top d c (branch b k l r) p j)
      down b k l r ih s (suc n) e =
          let f : n + h ≡ height S (toward S k p l r) p = omega (arith, height_step S b k l r p) in
          ap (λ y. times (take (suc n) y) j) (trail_step d c p s b k l r) ∙ ap (λ y. is b j + y) (ih _ n f) ∙ sym (upper_down d c b k l r p h j (omega arith))

  -- a branch's row with a mass put in and taken out again
  pub row_mass : (u : Tree S) (x y : ℕ) → 0 < uses d c u (id S c u) → y ≡ mass S u → set (set (row_of d c u) 2 x) 2 y ≡ row_of d c u
  row_mass (leaf i q n) x y m e = absurd (omega arith)
  row_mass (branch b k l r) x y m e = rw e

  row_field : (u : Tree S) (x : ℕ) → 0 < uses d c u (id S c u) → get_or (set (row_of d c u) 2 x) 2 0 ≡ x
  row_field (leaf i q n) x m = absurd (omega arith)
  row_field (branch b k l r) x m = refl

  -- the node of height h is to be replaced by s, on a path whose first k rows are the branches above
  module _ (t s : Tree S) (p : Reading) (h k : ℕ) (path : List (List ℕ)) (k_is : k + h ≡ height S t p) where
    -- the rows of the new tree, with the old masses above
    pub record Linked (N : List (List ℕ)) : Type 0 where
      pub size : length N ≡ branch_limit
      pub off : (j : ℕ) → j < branch_limit → upper d c t h p j ≡ 0 → get_or N j [] ≡ slot d c (row_of d c) no_row (replace S t h p s) j
      pub on : (m : ℕ) → h < m → m ≤ height S t p → get_or N (id S c (sub S t m p)) [] ≡ set (row_of d c (replace S (sub S t m p) h p s)) 2 (mass S (sub S t m p))

    module _ (N : List (List ℕ)) (w : Linked N) (small : c ≤ capacity_limit) (once : Once d c t) (range : InRange d c t) (filled : Filled S t) (walked : take (walk S t p) path ≡ trail d c t p) where
      up : (j : ℕ) → times (take k path) j ≡ upper d c t h p j
      up j = ap (λ y. times y j) (sym (take-take k (walk S t p) path (omega arith)) ∙ ap (take k) walked) ∙ trail_upper p j h t no_sibling k k_is

      low : (j : ℕ) → 0 < upper d c t h p j → j < branch_limit
      low j m = let u = branch_of_lem d c t j (omega (arith, upper_uses d c h p j t (omega arith))) in omega (arith, range_in d c range u.inside)

      -- a branch above, as it was and as it becomes
      filled_at : (m : ℕ) → m ≤ height S t p → Filled S (sub S t m p)
      filled_at m e = all_in S (λ i q n. 0 < n) (in_sub d c m p t e) filled

      new_branch : (m : ℕ) → h < m → m ≤ height S t p → 0 < uses d c (replace S (sub S t m p) h p s) (id S c (replace S (sub S t m p) h p s))
      new_branch m a e = let x = id_replace d c h p s (sub S t m p) (omega (arith, height_sub S m p t e)) in rw x.0 x.1

      mass_read_lem : (m : ℕ) → h < m → m ≤ height S t p → field N (id S c (sub S t m p)) 2 ≡ mass S (sub S t m p)
      mass_read_lem m a e = ap (λ y. get_or y 2 0) (w.on m a e) ∙ row_field (replace S (sub S t m p) h p s) (mass S (sub S t m p)) (new_branch m a e)

      pub climbs : (high : ℕ) → mass S t ≤ high → Climb 1 high N (take k path)
      climbs high top = record {
        ids = λ j m. low j (omega (arith, up j));
        once = λ j. omega (arith, up j, once j, upper_uses d c h p j t (omega arith));
        masses = λ j m. let a = above_of d c h p j t (omega arith) (omega (arith, up j)) in
            let e = mass_read_lem a.at a.higher a.within in
            subst (λ y. (1 ≤ field N y 2) × (field N y 2 ≤ high)) a.is_id
            (omega (arith, e, mass_pos S (sub S t a.at p) (filled_at a.at a.within)), omega (arith, e, mass_in S (in_sub d c a.at p t a.within)));
      }

      pub weighed : (f : ℕ → ℕ) → Once d c (replace S t h p s) → ((x : ℕ) → 0 < x → f x + mass S (sub S t h p) ≡ x + mass S s) →
          mass_over f (take k path) N ≡ tab branch_limit (slot d c (row_of d c) no_row (replace S t h p s))
      weighed f new gain = is_tab [] branch_limit (slot d c (row_of d c) no_row (replace S t h p s)) (mass_over f (take k path) N) (length_mass f (take k path) N ∙ w.size)
          (λ j lt. by-test (ltb 0 (upper d c t h p j))
          (λ x. let a = above_of d c h p j t (omega arith) (ltb-true 0 (upper d c t h p j) x) in
          subst (λ y. get_or (mass_over f (take k path) N) y [] ≡ slot d c (row_of d c) no_row (replace S t h p s) y) a.is_id (at_branch a.at a.higher a.within))
          (λ x. let z : upper d c t h p j ≡ 0 = omega (arith, ltb-false 0 (upper d c t h p j) x) in mass_other f (take k path) N j (up j ∙ z) ∙ w.off j lt z))
        where
          at_branch : (m : ℕ) → h < m → m ≤ height S t p → get_or (mass_over f (take k path) N) (id S c (sub S t m p)) [] ≡ slot d c (row_of d c) no_row (replace S t h p s) (id S c (sub S t m p))
          at_branch m a e =
              let j = id S c (sub S t m p) in
              let v = replace S (sub S t m p) h p s in
              let x = upper_at d c h m p a t e in
              let hs = height_sub S m p t e in
              let g : f (mass S (sub S t m p)) ≡ mass S v = mass_changed d c f h p s (sub S t m p) (filled_at m e) (omega (arith, hs)) (rw (sub_sub S h m p (omega arith) t e) gain) in
              mass_same f (take k path) N j (omega (arith, up j, once j, upper_uses d c h p j t (omega arith))) (omega (arith, w.size, low j x))
              ∙ ap (λ y. set y 2 (f (get_or y 2 0))) (w.on m a e)
              ∙ ap (λ y. set (set (row_of d c v) 2 (mass S (sub S t m p))) 2 (f y)) (row_field v (mass S (sub S t m p)) (new_branch m a e))
              ∙ row_mass v (mass S (sub S t m p)) (f (mass S (sub S t m p))) (new_branch m a e) g
              ∙ sym (slot_above d c (row_of d c) no_row h m p s t new a e)
