-- A copy more or less of the walk's leaf, in the arrays: the masses of the walk's branches and the leaf's copies change.
use mathlib.Core.Path.{◌≡◌, refl, sym, ap, ◌∙◌, subst}
use mathlib.Core.Bool.{cond}
use mathlib.Core.Option.{some}
use mathlib.Core.List.{List, []}
use Prim.Native.Nat.{ℕ, ◌+◌, ◌≤◌, ◌<◌}
use native.Mathlib.Omega.{arith}
use lib.Dec.{eqb, ltb}
use lib.ListN.{take, set}
use lib.Ieee.{Float}
use borrow.Author.Tests.{ltb-true, ltb-false}
use Rattle.limits.specs.Limits.{branch_limit, point_limit}
use Rattle.readings.specs.Number.{nought}
use Rattle.cuttree.specs.Setting.{Setting}
use Rattle.cuttree.specs.Tree.{Tree, id, ending, height, walk}
use Rattle.cuttree.specs.Walk.{sub, replace}
use Rattle.cuttree.proofs.Tests.{by-test}
use Rattle.cuttree.proofs.Heights.{height_sub, sub_leaf, sum_replace}
use Rattle.cuttree.proofs.Edits.{leaf_with}
use Rattle.wholetree.specs.Reading.{Reading}
use Rattle.wholetree.specs.Whole.{whole, tab}
use Rattle.layout.specs.Slots.{uses, slot, row_of, cut_of, count_at}
use Rattle.layout.specs.Layout.{no_row}
use Rattle.layout.specs.Stands.{Once, trail}
use Rattle.layout.proofs.Tabs.{length_of, entry_of, same_tab}
use Rattle.layout.proofs.Slots.{branch_of_lem, range_in, slot_node}
use Rattle.layout.proofs.Replaced.{upper, upper_uses, upper_at, above_of, in_sub, uses_sub, slot_above, slot_other}
use Rattle.layout.proofs.Rows.{apart_once, cut_replace}
use Rattle.layout.proofs.Ranges.{range_ending}
use Rattle.layout.proofs.Counts.{count_ending, count_set}
use Rattle.nodestore.specs.Rows.{mass_over}
use Rattle.nodestore.specs.Stored.{Arrays, Stored}
use Rattle.nodestore.proofs.Facts.{uses_replace}
use Rattle.nodestore.proofs.Climbs.{Linked, weighed}
use Rattle.nodestore.proofs.Links.{linked_same}

module _ (d c : ℕ) where
  abbrev S : Setting
  S = whole d

  -- the leaf has n copies now
  module _ (t : Tree S) (p : Reading) (n : ℕ) where
    abbrev s : Tree S
    s = leaf_with S t p n

    no_uses : (j : ℕ) → uses d c (sub S t 0 p) j ≡ 0
    no_uses j = ap (λ y. uses d c y j) (sub_leaf S p t)

    same_slot : {A : Type 0} (f : Tree S → A) (z : A) (j : ℕ) → upper d c t 0 p j ≡ 0 → slot d c f z (replace S t 0 p s) j ≡ slot d c f z t j
    same_slot f z j a = slot_other d c f z 0 p s j refl t (omega arith) a (no_uses j)

    module _ (N : List (List ℕ)) (C : List Float) (K : List ℕ) (w : Stored d c N C K t) where
      once : Once d c t
      once = apart_once d c t w.apart

      once_new : Once d c (replace S t 0 p s)
      once_new j = omega (arith, once j, uses_replace d c t s p 0 j (omega arith))

      leaf_slot : {A : Type 0} (f : Tree S → A) (z : A) (m : ℕ) → 0 < m → m ≤ height S t p → slot d c f z t (id S c (sub S t m p)) ≡ f (sub S t m p)
      leaf_slot f z m a e = slot_node d c f z (sub S t m p) once (in_sub d c m p t e) (uses_sub d c m p t a e)

      pub copy_linked : (k : ℕ) (path : List (List ℕ)) (k_is : k + 0 ≡ height S t p) → Linked d c t s p 0 k path k_is N
      copy_linked k path k_is = linked_same d c t s p 0 k path k_is N
          (record {
            size = length_of branch_limit (slot d c (row_of d c) no_row t) N w.arrays.rows;
            off = λ j m a. entry_of branch_limit (slot d c (row_of d c) no_row t) N w.arrays.rows [] j m ∙ sym (same_slot (row_of d c) no_row j a);
            on = λ m a e. let j = id S c (sub S t m p) in
                let u = branch_of_lem d c t j (omega (arith, upper_uses d c 0 p j t (omega arith), upper_at d c 0 m p a t e)) in
                entry_of branch_limit (slot d c (row_of d c) no_row t) N w.arrays.rows [] j (omega (arith, range_in d c w.in_range u.inside, w.small)) ∙ leaf_slot (row_of d c) no_row m a e;
          })
          (sym (ap (id S c) (sub_leaf S p t)))

      copy_cuts : C ≡ tab branch_limit (slot d c (cut_of d c) nought (replace S t 0 p s))
      copy_cuts = w.arrays.values ∙ same_tab nought branch_limit (slot d c (cut_of d c) nought t) (slot d c (cut_of d c) nought (replace S t 0 p s))
          (λ j lt. by-test (ltb 0 (upper d c t 0 p j))
          (λ x. let a = above_of d c 0 p j t (omega arith) (ltb-true 0 (upper d c t 0 p j) x) in
          subst (λ y. slot d c (cut_of d c) nought t y ≡ slot d c (cut_of d c) nought (replace S t 0 p s) y) a.is_id
          (leaf_slot (cut_of d c) nought a.at a.higher a.within
          ∙ sym (slot_above d c (cut_of d c) nought 0 a.at p s t once_new a.higher a.within ∙ cut_replace d c 0 p s (sub S t a.at p) (omega (arith, a.higher, height_sub S a.at p t a.within)))))
          (λ x. sym (same_slot (cut_of d c) nought j (omega (arith, ltb-false 0 (upper d c t 0 p j) x)))))

      copy_counts : set K (ending S t p).index n ≡ tab point_limit (count_at d c (replace S t 0 p s))
      copy_counts = count_set d c K t (replace S t 0 p s) (ending S t p).index (ending S t p).copies n w.arrays.counts (range_ending d c p t w.in_range) (count_ending d c p t w.apart)
          (λ x. omega (arith, sum_replace S (λ i q n. cond (eqb i x) n 0) (λ b. 0) 0 p s t (omega arith), ap (λ y. count_at d c y x) (sub_leaf S p t)))

      pub copy_arrays : (f : ℕ → ℕ) (k : ℕ) (path : List (List ℕ)) → k + 0 ≡ height S t p → take (walk S t p) path ≡ trail d c t p → ((x : ℕ) → 0 < x → f x + (ending S t p).copies ≡ x + n) →
          Arrays d c (mass_over f (take k path) N) C (set K (ending S t p).index n) (some (replace S t 0 p s))
      copy_arrays f k path k_is walked gain = record {
        rows = weighed d c t s p 0 k path k_is N (copy_linked k path k_is) w.small once w.in_range w.filled walked f once_new (rw (sub_leaf S p t) gain);
        values = copy_cuts;
        counts = copy_counts;
      }
