-- The slots of a tree's branches: each branch's has what is laid there, every other is empty; and so a list of slots lays the tree, and
-- a list that lays it is one.
use mathlib.Core.Path.{◌≡◌, refl, ◌∙◌}
use mathlib.Core.Option.{some}
use mathlib.Core.List.{List, []}
use Prim.Native.Nat.{ℕ, ◌+◌, ◌≤◌, ◌<◌}
use native.Mathlib.Omega.{arith}
use lib.Dec.{eqb, ltb}
use lib.ListN.{get_or}
use lib.Ieee.{Float}
use borrow.Author.Tests.{eqb-true, eq-eqb, ltb-true, ltb-false, lt-ltb, le-ltb}
use Rattle.limits.specs.Limits.{width, capacity_limit, branch_limit}
use Rattle.cuttree.specs.Setting.{Cut}
use Rattle.cuttree.specs.Tree.{Tree, leaf, branch, id}
use Rattle.cuttree.proofs.Tests.{by-test, cond_true}
use Rattle.cuttree.proofs.Nodes.{is_zero, In, here, left, right}
use Rattle.cuttree.proofs.Room.{uses_in as used-in}
use Rattle.wholetree.specs.Reading.{Reading}
use Rattle.wholetree.specs.Whole.{whole, tab}
use Rattle.layout.specs.Slots.{uses, slot, box_ends}
use Rattle.layout.specs.Layout.{no_box_ends, box_in}
use Rattle.layout.specs.Stands.{Laid, LaidBelow, Cached, Once, InRange}
use Rattle.layout.proofs.Tabs.{entry_of, same_tab}

module _ (d c : ℕ) where
  -- a branch of the number j in t
  pub record Branch (t : Tree (whole d)) (j : ℕ) : Type 0 where
    pub cut : Cut (whole d)
    pub low : Tree (whole d)
    pub high : Tree (whole d)
    pub inside : In (whole d) (branch j cut low high) t

  pub uses_in : {b : ℕ} {k : Cut (whole d)} {l r t : Tree (whole d)} → In (whole d) (branch b k l r) t → 0 < uses d c t b
  uses_in i = used-in (whole d) i

  pub branch_of_lem : (t : Tree (whole d)) (j : ℕ) → 0 < uses d c t j → Branch t j
  branch_of_lem (leaf i q n) j h = absurd (omega arith)
  branch_of_lem (branch b k l r) j h = by-test (eqb b j)
      (λ e. let z : b ≡ j = eqb-true b j e in rw (← z) (record { cut = k; low = l; high = r; inside = here }))
      (λ e. let m : 0 < 0 + (uses d c l j + uses d c r j) = rw e at h in by-test (ltb 0 (uses d c l j))
      (λ f. let u = branch_of_lem l j (ltb-true 0 (uses d c l j) f) in record { cut = u.cut; low = u.low; high = u.high; inside = left u.inside })
      (λ f. let u = branch_of_lem r j (omega (arith, ltb-false 0 (uses d c l j) f)) in record { cut = u.cut; low = u.low; high = u.high; inside = right u.inside }))

  pub range_in : {b : ℕ} {k : Cut (whole d)} {l r t : Tree (whole d)} → InRange d c t → In (whole d) (branch b k l r) t → (b + 1 < c) × (k.channel < width)
  range_in h here = (h.0, h.1)
  range_in h (left i) = range_in h.2 i
  range_in h (right i) = range_in h.3 i

  -- LAID at every branch
  module _ {A : Type 0} (f : Tree (whole d) → A) (R : ℕ → A) where
    pub laid_by : (t : Tree (whole d)) → ((b : ℕ) (k : Cut (whole d)) (l r : Tree (whole d)) → In (whole d) (branch b k l r) t → R b ≡ f (branch b k l r)) → Laid d c f R t
    laid_by (leaf i q n) h = tt
    laid_by (branch b k l r) h = (h b k l r here, laid_by l (λ b k l r i. h b k l r (left i)), laid_by r (λ b k l r i. h b k l r (right i)))

    pub laid_below_by : (m : ℕ) (t : Tree (whole d)) → ((b : ℕ) (k : Cut (whole d)) (l r : Tree (whole d)) → In (whole d) (branch b k l r) t → b < m → R b ≡ f (branch b k l r)) → LaidBelow d c m f R t
    laid_below_by m (leaf i q n) h = tt
    laid_below_by m (branch b k l r) h = (h b k l r here, laid_below_by m l (λ b k l r i. h b k l r (left i)), laid_below_by m r (λ b k l r i. h b k l r (right i)))

  -- THE SLOTS
  module _ {A : Type 0} (f : Tree (whole d) → A) (z : A) where
    pub slot_none : (t : Tree (whole d)) (j : ℕ) → uses d c t j ≡ 0 → slot d c f z t j ≡ z
    unfolding slot
    slot_none (leaf i q n) j h = refl
    slot_none (branch b k l r) j h = rw (is_zero b j (omega arith), le-ltb 0 (uses d c l j) (omega arith)) (slot_none r j (omega arith))

    -- a leaf has no slot
    pub leaf_tab : (i : ℕ) (q : Reading) (n : ℕ) → tab branch_limit (slot d c f z (leaf i q n)) ≡ tab branch_limit (λ (j : ℕ). z)
    leaf_tab i q n = same_tab z branch_limit (slot d c f z (leaf i q n)) (λ (j : ℕ). z) (λ j _. slot_none (leaf i q n) j refl)

    pub slot_in_lem : {b : ℕ} {k : Cut (whole d)} {l r t : Tree (whole d)} → Once d c t → In (whole d) (branch b k l r) t → slot d c f z t b ≡ f (branch b k l r)
    unfolding slot
    slot_in_lem {b} o here = rw (eq-eqb b b refl)
    slot_in_lem {b} o (left {b = a} {l = l} i) = rw (is_zero a b (omega (arith, o b, uses_in i)), lt-ltb 0 (uses d c l b) (uses_in i)) (slot_in_lem (λ j. omega (arith, o j)) i)
    slot_in_lem {b} o (right {b = a} {l = l} i) = rw (is_zero a b (omega (arith, o b, uses_in i)), le-ltb 0 (uses d c l b) (omega (arith, o b, uses_in i))) (slot_in_lem (λ j. omega (arith, o j)) i)

    -- the node of an id that is a branch's
    pub slot_node : (u : Tree (whole d)) {t : Tree (whole d)} → Once d c t → In (whole d) u t → 0 < uses d c u (id (whole d) c u) → slot d c f z t (id (whole d) c u) ≡ f u
    slot_node (leaf i q n) o e h = absurd (omega arith)
    slot_node (branch b k l r) o e h = slot_in_lem o e

    -- from slots to what is laid, and back
    pub tab_laid : (y : A) (xs : List A) (t : Tree (whole d)) → c ≤ capacity_limit → xs ≡ tab branch_limit (slot d c f z t) → Once d c t → InRange d c t → Laid d c f (λ j. get_or xs j y) t
    tab_laid y xs t m e o h = laid_by f (λ j. get_or xs j y) t (λ b k l r i. entry_of branch_limit (slot d c f z t) xs e y b (omega (arith, range_in h i)) ∙ slot_in_lem o i)

  -- THE CACHED BOXES, k of them
  module _ (k : ℕ) where
    box_below : (t : Tree (whole d)) (j : ℕ) → j < k → box_in d c k (some t) j ≡ slot d c (box_ends d c) no_box_ends t j
    box_below t j m = cond_true _ _ _ (lt-ltb j k m)

    pub tab_boxes : (xs : List (List (List Float))) (t : Tree (whole d)) → c ≤ capacity_limit → xs ≡ tab branch_limit (box_in d c k (some t)) → Once d c t → InRange d c t → Cached d c k xs t
    tab_boxes xs t m e o h =
        laid_below_by (box_ends d c) (λ j. get_or xs j []) k t (λ b x l r i z. entry_of branch_limit (box_in d c k (some t)) xs e [] b (omega (arith, range_in h i)) ∙ box_below t b z ∙ slot_in_lem (box_ends d c) no_box_ends o i)
