-- The copies that a tree's leaves have, in slots: one leaf's changed, one gone, one new.
use mathlib.Core.Path.{◌≡◌, refl, sym, subst}
use mathlib.Core.Bool.{cond}
use mathlib.Core.List.{List}
use Prim.Native.Nat.{ℕ, ◌+◌, ◌<◌}
use native.Mathlib.Omega.{arith}
use lib.Dec.{eqb}
use lib.ListN.{set}
use borrow.Author.Tests.{eqb-true, eq-eqb, ne_eqb}
use Rattle.limits.specs.Limits.{point_limit}
use Rattle.cuttree.specs.Tree.{Tree, leaf, branch, is, ending}
use Rattle.cuttree.proofs.Tests.{by-test}
use Rattle.cuttree.proofs.Intervals.{is_same}
use Rattle.cuttree.proofs.Nodes.{In, here, left, right, nodes, nodes_in, ending_in}
use Rattle.wholetree.specs.Reading.{Reading}
use Rattle.wholetree.specs.Whole.{whole, tab}
use Rattle.layout.specs.Slots.{count_at}
use Rattle.layout.proofs.Rows.{Apart}
use Rattle.layout.proofs.Tabs.{set_tab}

module _ (d c : ℕ) where
  count_none : (t : Tree (whole d)) (i : ℕ) → nodes (whole d) c t (i + c) ≡ 0 → count_at d c t i ≡ 0
  count_none (leaf j q n) i h = by-test (eqb j i)
      (λ e. let z : j ≡ i = eqb-true j i e in absurd (omega (arith, subst (λ x. is (x + c) (i + c) ≡ 0) z h, is_same (i + c))))
      (λ e. rw e)
  count_none (branch b k l r) i h = omega (arith, count_none l i (omega arith), count_none r i (omega arith))

  -- the leaf of an index has the copies that are counted there
  pub count_in_lem : {i n : ℕ} {q : Reading} {t : Tree (whole d)} → Apart d c t → In (whole d) (leaf i q n) t → count_at d c t i ≡ n
  count_in_lem {i} o here = rw (eq-eqb i i refl)
  count_in_lem {i} o (left {r = r} e) = omega (arith, count_in_lem (λ x. omega (arith, o x)) e, count_none r i (omega (arith, o (i + c), nodes_in (whole d) c e)))
  count_in_lem {i} o (right {l = l} e) = omega (arith, count_in_lem (λ x. omega (arith, o x)) e, count_none l i (omega (arith, o (i + c), nodes_in (whole d) c e)))

  pub count_ending : (p : Reading) (t : Tree (whole d)) → Apart d c t → count_at d c t (ending (whole d) t p).index ≡ (ending (whole d) t p).copies
  count_ending p t o = count_in_lem o (ending_in (whole d) p t)

  -- one leaf's copies made v of n
  pub count_set : (K : List ℕ) (t t' : Tree (whole d)) (i n v : ℕ) → K ≡ tab point_limit (count_at d c t) → i < point_limit → count_at d c t i ≡ n →
      ((x : ℕ) → count_at d c t' x + cond (eqb i x) n 0 ≡ count_at d c t x + cond (eqb i x) v 0) → set K i v ≡ tab point_limit (count_at d c t')
  count_set K t t' i n v k m a e =
      let z : count_at d c t' i ≡ v = let y : count_at d c t' i + n ≡ count_at d c t i + v = rw (eq-eqb i i refl) at (e i) in omega arith in
      subst (λ y. set K i y ≡ tab point_limit (count_at d c t')) z (set_tab 0 point_limit (count_at d c t) (count_at d c t') K i k m
      (λ x n'. let y : count_at d c t' x + 0 ≡ count_at d c t x + 0 = rw (ne_eqb i x (λ w. n' (sym w))) at (e x) in omega arith))
