-- The leaf that a path ends in: its index and copies, its sibling and the branch next above; and the arrays with a copy more, a copy less or the
-- last copy gone there.
use mathlib.Core.Path.{◌≡◌, refl, sym, ap, ◌∙◌, subst}
use mathlib.Core.Bool.{false, cond}
use mathlib.Core.Option.{none, some}
use mathlib.Core.List.{List}
use Prim.Native.Nat.{ℕ, suc, ◌+◌, ◌-◌, ◌≤◌, ◌<◌}
use native.Mathlib.Omega.{arith}
use lib.Dec.{eqb, ltb}
use lib.ListN.{length, get_or, take, set}
use lib.Ieee.{Float}
use borrow.Author.Tests.{lt-ltb, le-ltb, eq-eqb, ne_eqb}
use Rattle.limits.specs.Limits.{branch_limit, point_limit, total_limit}
use Rattle.readings.specs.Number.{nought}
use Rattle.cuttree.specs.Setting.{Setting}
use Rattle.cuttree.specs.Tree.{Tree, leaf, branch, id, ending, height, mass, add_copy, forget, freed}
use Rattle.cuttree.specs.Walk.{sibling, replace}
use Rattle.cuttree.proofs.Tests.{cond_true, cond_false}
use Rattle.cuttree.proofs.Leaves.{all_ending}
use Rattle.cuttree.proofs.Masses.{mass_in}
use Rattle.cuttree.proofs.Edits.{leaf_with, copy_replace, less_replace, last_alone, last_lifted}
use Rattle.cuttree.proofs.Nodes.{ending_in}
use Rattle.wholetree.specs.Reading.{Reading}
use Rattle.wholetree.specs.Whole.{whole, tab}
use Rattle.layout.specs.Slots.{row_of, cut_of, count_at, field}
use Rattle.layout.specs.Layout.{no_row, root_of}
use Rattle.layout.proofs.Tabs.{entry_of, set_tab}
use Rattle.layout.proofs.Slots.{leaf_tab}
use Rattle.layout.proofs.Rows.{apart_once}
use Rattle.layout.proofs.Ranges.{range_ending}
use Rattle.layout.proofs.Counts.{count_ending}
use Rattle.walk.proofs.Ends.{walk_is, fork_is, sibling_is}
use Rattle.nodestore.specs.Rows.{mass_over, heavier, lighter, Climb, relink}
use Rattle.nodestore.specs.Stored.{Arrays, Stored, Reached}
use Rattle.nodestore.proofs.Facts.{relinked, last_taken, root_replace}
use Rattle.nodestore.proofs.Climbs.{climbs}
use Rattle.nodestore.proofs.Recounts.{copy_linked, copy_arrays}
use Rattle.nodestore.proofs.Removals.{gone_small, parent_low, gone_climb, gone_arrays}

module _ {d c n index : ℕ} {N path : List (List ℕ)} {C : List Float} {K : List ℕ} {t : Tree (whole d)} {p : Reading} (w : Reached d c N C K path n index t p) where
  abbrev S : Setting
  S = whole d

  pub index_low : index < point_limit
  index_low = rw w.index_is (range_ending d c p t w.stored.in_range)

  pub copies_are : get_or K index 0 ≡ (ending S t p).copies
  copies_are = entry_of point_limit (count_at d c t) K w.stored.arrays.counts 0 index index_low ∙ ap (count_at d c t) w.index_is ∙ count_ending d c p t w.stored.apart

  pub copies_some : 1 ≤ get_or K index 0
  copies_some = rw copies_are (all_ending S (λ i q n. 0 < n) p t w.stored.filled)

  pub copies_most : (high : ℕ) → mass S t ≤ high → get_or K index 0 ≤ high
  copies_most high m = omega (arith, copies_are, mass_in S (ending_in S p t))

  k_is : (n - 1) + 0 ≡ height S t p
  k_is = omega (arith, w.walked.count)

  pub copy_climb : (high : ℕ) → mass S t ≤ high → Climb 1 high N (take (n - 1) path)
  copy_climb = climbs d c t (leaf_with S t p 0) p 0 (n - 1) path k_is N (copy_linked d c t p 0 N C K w.stored (n - 1) path k_is) w.stored.small (apart_once d c t w.stored.apart) w.stored.in_range w.stored.filled (walk_is w.walked)

  recount : (f : ℕ → ℕ) (m : ℕ) → ((x : ℕ) → 0 < x → f x + get_or K index 0 ≡ x + m) → Arrays d c (mass_over f (take (n - 1) path) N) C (set K index m) (some (replace S t 0 p (leaf_with S t p m)))
  recount f m gain = rw w.index_is (copy_arrays d c t p m N C K w.stored f (n - 1) path k_is (walk_is w.walked) (rw (← copies_are) gain))

  pub more_arrays : Arrays d c (mass_over heavier (take (n - 1) path) N) C (set K index (get_or K index 0 + 1)) (some (add_copy S p t))
  more_arrays =
      let e : get_or K index 0 + 1 ≡ suc (ending S t p).copies = omega (arith, copies_are) in
      rw (copy_replace S p t, ← e) (recount heavier (get_or K index 0 + 1) (λ x m. omega arith))

  pub less_arrays : 2 ≤ get_or K index 0 → Arrays d c (mass_over lighter (take (n - 1) path) N) C (set K index (get_or K index 0 - 1)) (forget S p t) × (freed S p t ≡ none)
  less_arrays m =
      let z = less_replace S p t (lt-ltb 1 (ending S t p).copies (omega (arith, copies_are))) in
      (rw (z.0, ← copies_are) (recount lighter (get_or K index 0 - 1) (λ x l. omega arith)), z.1)

  -- THE LAST COPY
  module _ (one : get_or K index 0 ≡ 1) where
    last : ltb 1 (ending S t p).copies ≡ false
    last = le-ltb 1 (ending S t p).copies (omega (arith, copies_are))

    -- of a lone leaf
    pub lone_arrays : n ≡ 1 → Arrays d c N C (set K index 0) (forget S p t) × (freed S p t ≡ none)
    lone_arrays e = let z = last_alone S p t (omega (arith, w.walked.count)) last in (rw z.0 (lone t w.stored (omega (arith, w.walked.count)) w.index_is), z.1)
      where
        lone : (u : Tree S) → Stored d c N C K u → height S u p ≡ 0 → index ≡ (ending S u p).index → Arrays d c N C (set K index 0) none
        lone (branch b k l r) v h i = absurd (omega arith)
        lone (leaf j q m) v h i = record {
          rows = v.arrays.rows ∙ leaf_tab d c (row_of d c) no_row j q m;
          values = v.arrays.values ∙ leaf_tab d c (cut_of d c) nought j q m;
          counts = set_tab 0 point_limit (count_at d c (leaf j q m)) (λ x. 0) K index v.arrays.counts index_low (λ x ne. sym (ap (λ y. cond y m 0) (ne_eqb j x (λ y. ne (sym (i ∙ y))))));
        }

    -- of a leaf below a branch
    module _ (deep : 2 ≤ n) where
      below_root : 0 < height S t p
      below_root = omega (arith, w.walked.count)

      up : (n - 2) + 1 ≡ height S t p
      up = omega (arith, w.walked.count)

      long : n - 2 ≤ length path
      long = omega (arith, w.walked.long, w.walked.most)

      pub fork_asks : (b s : ℕ) → b ≡ field path (n - 2) 0 → s ≡ field path (n - 1) 1 →
          (b < branch_limit) × ((0 < length (take (n - 2) path) → field (take (n - 2) path) (length (take (n - 2) path) - 1) 0 < branch_limit) × Climb 1 total_limit (relink (set N b no_row) (take (n - 2) path) (length (take (n - 2) path)) b s) (take (n - 2) path))
      fork_asks b s x y = rw (relinked path (n - 2) long (set N b no_row) b s) (rw (x ∙ fork_is w.walked deep, y ∙ sibling_is w.walked deep) (
        gone_small d c t p N C K w.stored below_root (sym copies_are ∙ one),
        (
          last_taken path (n - 2) long (parent_low d c t p N C K w.stored below_root (sym copies_are ∙ one) (n - 2) path up (walk_is w.walked)),
          gone_climb d c t p N C K w.stored below_root (sym copies_are ∙ one) (n - 2) path up (walk_is w.walked),
        ),
      ))

      -- the root is the sibling where the branch was the root
      pub fork_root : (root s : ℕ) → root ≡ id S c t → s ≡ field path (n - 1) 1 → cond (eqb (n - 2) 0) s root ≡ root_of d c 0 (forget S p t)
      fork_root root s x y = rw ((last_lifted S c p t below_root last).0, x, y ∙ sibling_is w.walked deep) (sym (root_replace d c t (sibling S t 0 p) p 1 (n - 2) up))

      pub fork_arrays : (b s : ℕ) → b ≡ field path (n - 2) 0 → s ≡ field path (n - 1) 1 →
          Arrays d c (mass_over lighter (take (n - 2) path) (relink (set N b no_row) (take (n - 2) path) (length (take (n - 2) path)) b s)) (set C b nought) (set K index 0) (forget S p t) × (freed S p t ≡ some b)
      fork_arrays b s x y = let z = last_lifted S c p t below_root last in
          rw (relinked path (n - 2) long (set N b no_row) b s) (rw (x ∙ fork_is w.walked deep, y ∙ sibling_is w.walked deep)
          (rw (z.0, w.index_is) (gone_arrays d c t p N C K w.stored below_root (sym copies_are ∙ one) (n - 2) path up (walk_is w.walked)), z.1))

-- THE FIRST LEAF
pub first_arrays : (d c : ℕ) (nodes : List (List ℕ)) (cuts : List Float) (copies : List ℕ) (index : ℕ) (p : Reading) → index < point_limit → Arrays d c nodes cuts copies none → Arrays d c nodes cuts (set copies index 1) (some (leaf index p 1))
first_arrays d c nodes cuts copies index p m w = record {
  rows = w.rows ∙ sym (leaf_tab d c (row_of d c) no_row index p 1);
  values = w.values ∙ sym (leaf_tab d c (cut_of d c) nought index p 1);
  counts = let e : count_at d c (leaf index p 1) index ≡ 1 = cond_true _ _ _ (eq-eqb index index refl) in
      subst (λ y. set copies index y ≡ tab point_limit (count_at d c (leaf index p 1))) e (set_tab 0 point_limit (λ x. 0) (count_at d c (leaf index p 1)) copies index w.counts m (λ x n. cond_false _ _ _ (ne_eqb index x (λ y. n (sym y)))));
}
