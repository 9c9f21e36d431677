-- One copy less of a reading that the tree holds: copies left, a lone leaf gone, and a leaf gone from below a branch. Assumes nothing.
use mathlib.Core.Path.{◌≡◌, refl, sym, ap, ◌∙◌, subst}
use mathlib.Core.Bool.{true, false}
use mathlib.Core.Option.{Option, none, some}
use mathlib.Core.List.{List, []}
use Prim.Native.Nat.{ℕ, ◌-◌, ◌≤◌, ◌<◌}
use native.Mathlib.Omega.{arith}
use lib.Dec.{ltb}
use lib.ListN.{get_or}
use lib.Ieee.{Float}
use borrow.Author.Tests.{lt-ltb, le-ltb, ne_eqb}
use Rattle.limits.specs.Limits.{branch_limit, total_limit}
use Rattle.intervalstoremanager.specs.declared.IntervalStoreManager.{IntervalStoreManager}
use Rattle.intervalstoremanager.specs.Rows as Rows
use Rattle.intervalstoremanager.specs.Stack.{after_release, holds, Proper, Once as FreeOnce}
use Rattle.cuttree.specs.Setting.{Setting}
use Rattle.cuttree.specs.Tree.{Tree, leaf, branch, id, ending, height, found, forget, freed, All, OfTree}
use Rattle.cuttree.specs.Run.{after_freed}
use Rattle.cuttree.specs.Walk.{sub, replace}
use Rattle.cuttree.proofs.Tests.{cond_false}
use Rattle.cuttree.proofs.Leaves.{all_forget}
use Rattle.cuttree.proofs.Edits.{leaf_with, less_replace, last_alone, last_lifted, Lifted}
use Rattle.wholetree.specs.Reading.{Reading}
use Rattle.wholetree.specs.Whole.{whole, tab}
use Rattle.layout.specs.Slots.{row_of}
use Rattle.layout.specs.Layout.{no_row, no_box_ends, root_of, box_in}
use Rattle.layout.specs.Stands.{InRange}
use Rattle.layout.proofs.Slots.{tab_laid}
use Rattle.layout.proofs.Ranges.{range_forget}
use Rattle.nodestore.specs.Stored.{Arrays, Reached, SomeReached}
use Rattle.nodestore.proofs.Facts.{root_replace}
use Rattle.walk.proofs.Ends.{walk_is}
use Rattle.nodestore.proofs.Ends.{copies_are, copies_some}
use Rattle.boxstore.specs.Written.{written}
use Rattle.boxstore.specs.Edited.{Walked, boxes_of, lifted, Forgotten, SomeForgotten, RepairedAbove}
use Rattle.boxstore.proofs.Copies.{less_boxes}
use Rattle.boxstore.proofs.Forgets.{forget_once}
use Rattle.treestore.specs.Arrays.{NodeStore, lent, manager_of, EditDone}
use Rattle.treestore.specs.Edits.{Walking}
use Rattle.rowboxes.specs.Rows.{PaddedBoxes}
use Rattle.treestore.proofs.Links.{linked}
use Rattle.treestore.proofs.Padding.{boxes_padded}
use Rattle.treestore.proofs.Parts.{edit_done, no_boxes}

module _ {d c k : ℕ} {t : Tree (whole d)} {u : List (ℕ × ℕ)} {p : Reading} {root : ℕ} {manager : IntervalStoreManager} {a : NodeStore} {points : List (List Float)} {path : List (List ℕ)} {n index : ℕ} {point : List Float} (G : Walking d c k t u p root manager a points path n index point) where
  abbrev S : Setting
  S = whole d

  pub reached : Reached d c a.nodes a.cuts a.copies path n index t p
  reached = record { stored = G.stored; walked = G.walked; index_is = G.index_is }

  pub some_reached : SomeReached a.nodes a.copies path n index total_limit
  some_reached = record { channels = d; capacity = c; cuts = a.cuts; tree = t; reading = p; reached = reached; room = G.stored.light }

  pub one_row : n < 2 → Reached d c a.nodes a.cuts a.copies path 1 index t p
  one_row m = let one : n ≡ 1 = omega (arith, G.walked.count) in subst (λ x. Reached d c a.nodes a.cuts a.copies path x index t p) one reached

  pub free_are : a.free ≡ Rows.layout u
  free_are = ap (λ (x : NodeStore). x.free) G.arrays_are

  pub boxes_are : a.boxes ≡ boxes_of d c k t
  boxes_are = ap (λ (x : NodeStore). x.boxes) G.arrays_are

  pub kept_padded : PaddedBoxes d a.boxes
  kept_padded = subst (PaddedBoxes d) (sym boxes_are) (boxes_padded d c G.channels_few k t G.narrow)

  -- the tree after, and its free numbers
  abbrev Gone : ℕ → IntervalStoreManager → NodeStore → Type 0
  Gone r m b = EditDone d c k (forget S p t) (after_freed S u (freed S p t)) (record { root = r; manager = m }) b

  -- ---- copies are left
  less_root : (m : ℕ) (s : Tree S) → id S c (replace S s 0 p (leaf_with S s p m)) ≡ id S c s
  less_root m (leaf i q x) = refl
  less_root m (branch b x l r) = root_replace d c (branch b x l r) _ p 0 (height S (branch b x l r) p) (omega arith) ∙ cond_false _ _ _ (ne_eqb (height S (branch b x l r) p) 0 (λ e. omega (arith, e)))

  pub dropped : (N : List (List ℕ)) (K : List ℕ) → 1 < get_or a.copies index 0 → Arrays d c N a.cuts K (forget S p t) × (freed S p t ≡ none) → Gone root manager (lent N a.cuts K a.free a.boxes)
  dropped N K m A =
      let more : ltb 1 (ending S t p).copies ≡ true = lt-ltb 1 (ending S t p).copies (omega (arith, copies_are reached)) in
      let z = (less_replace S p t more).0 in
      let boxes = less_boxes d c k t p G.once more _ z in
      rw A.1 (edit_done d c k (forget S p t) u _ _ _
      (G.root_is ∙ sym (ap (root_of d c k) z ∙ less_root _ t)) G.manager_is A.0 free_are
      (boxes_are ∙ sym (ap (λ (o : Option (Tree S)). tab branch_limit (box_in d c k o)) z ∙ boxes)))

  pub one_copy : get_or a.copies index 0 ≤ 1 → get_or a.copies index 0 ≡ 1
  one_copy m = omega (arith, copies_some reached)

  last_copy : get_or a.copies index 0 ≤ 1 → ltb 1 (ending S t p).copies ≡ false
  last_copy m = le-ltb 1 (ending S t p).copies (omega (arith, copies_are reached))

  -- ---- the last copy, of a lone leaf
  pub alone : (K : List ℕ) → get_or a.copies index 0 ≤ 1 → n < 2 → Arrays d c a.nodes a.cuts K (forget S p t) × (freed S p t ≡ none) → Gone (c - 1) manager (lent a.nodes a.cuts K a.free a.boxes)
  alone K m low A =
      let flat : height S t p ≡ 0 = omega (arith, G.walked.count) in
      let z = (last_alone S p t flat (last_copy m)).0 in
      rw A.1 (edit_done d c k (forget S p t) u _ _ _
      (sym (ap (root_of d c k) z)) G.manager_is A.0 free_are
      (boxes_are ∙ no_boxes d c k p t flat ∙ sym (ap (λ (o : Option (Tree S)). tab branch_limit (box_in d c k o)) z)))

  -- the number of the branch that goes is free again
  pub back : (b : ℕ) → freed S p t ≡ some b → (m : IntervalStoreManager) (free : List (List ℕ))
      → ((v : List (ℕ × ℕ)) → manager ≡ manager_of manager.capacity v → a.free ≡ Rows.layout v → manager.capacity ≤ branch_limit → Proper manager.capacity v → FreeOnce v → b < manager.capacity → holds v b ≡ 0
      → (m ≡ manager_of manager.capacity (after_release v b)) × (free ≡ Rows.layout (after_release v b)))
      → (m ≡ manager_of (c - 1) (after_release u b)) × (free ≡ Rows.layout (after_release u b))
  back b e m free h =
      let size : manager.capacity ≡ c - 1 = ap (λ (x : IntervalStoreManager). x.capacity) G.manager_is in
      let x = h u (G.manager_is ∙ ap (λ s. manager_of s u) (sym size)) free_are (omega (arith, size, G.small)) (subst (λ s. Proper s u) (sym size) G.proper) G.free_once (omega (arith, size, (G.freeable b e).0)) (G.freeable b e).1 in
      (x.0 ∙ ap (λ s. manager_of s (after_release u b)) size, x.1)

  -- ---- the last copy, of a leaf below a branch
  module _ (held : found S t p ≡ true) (m : get_or a.copies index 0 ≤ 1) (deep : 2 ≤ n) (N : List (List ℕ)) (C : List Float) (K : List ℕ) (b : ℕ) (A : Arrays d c N C K (forget S p t) × (freed S p t ≡ some b)) where
    lift : Lifted S c t p
    lift = last_lifted S c p t (omega (arith, G.walked.count)) (last_copy m)

    number_is : b ≡ id S c (sub S t 1 p)
    number_is = cc (lift.1, A.1)

    range : InRange d c (lifted d t p)
    range = subst (OfTree S (InRange d c)) lift.0 (range_forget d c p t G.stored.in_range)

    walks : Walked d c path point t p
    walks = record { once = G.once; rows = walk_is G.walked; row = G.row }

    -- the boxes before they are repaired. The capacity and the number are widened
    module _ (cap at : ℕ) (boxes : List (List (List Float))) (cap-is : cap ≡ c) (at-is : at ≡ b) (L : boxes ≡ written k at no_box_ends a.boxes) where
      forgotten : Forgotten d c k (n - 2) d N points boxes t p
      forgotten = record {
        above_it = omega (arith, G.walked.count);
        held = held;
        last = last_copy m;
        narrow = G.narrow;
        boxes_are = L ∙ rw (at-is ∙ number_is, boxes_are) refl;
        links = linked d c N (lifted d t p) (tab_laid d c (row_of d c) no_row [] N (lifted d t p) G.small (subst (Arrays d c N C K) lift.0 A.0).rows (forget_once d c t p G.once (omega (arith, G.walked.count))) range);
        leaves = subst (OfTree S (All S (λ i q n. get_or points i [] ≡ q.row))) lift.0 (all_forget S (λ i q n. get_or points i [] ≡ q.row) p (λ i q n _ e. e) t G.boxed.leaves);
        in_range = range;
      }

      pub some_forgotten : SomeForgotten cap k (n - 2) d path point N points boxes
      some_forgotten = rw cap-is (record { channels = d; tree = t; reading = p; walked = walks; forgotten = forgotten })

      pub removed : (r : ℕ) (left : IntervalStoreManager) (free : List (List ℕ)) (boxes' : List (List (List Float))) → r ≡ root_of d c 0 (forget S p t)
          → (left ≡ manager_of (c - 1) (after_release u b)) × (free ≡ Rows.layout (after_release u b)) → RepairedAbove cap k (n - 2) d path point N points boxes boxes'
          → Gone r left (lent N C K free boxes')
      removed r left free boxes' x M B =
          let repaired = (rw cap-is at B) d t p walks forgotten in
          rw A.1 (edit_done d c k (forget S p t) (after_release u b) _ _ _
          (x ∙ ap (root_of d c 0) lift.0 ∙ sym (ap (root_of d c k) lift.0)) M.0 A.0 M.1
          (repaired ∙ sym (ap (λ (o : Option (Tree S)). tab branch_limit (box_in d c k o)) lift.0)))
