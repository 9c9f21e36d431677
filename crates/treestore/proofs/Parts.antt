-- What an edit leaves, from its parts. Assumes nothing.
use mathlib.Core.Path.{◌≡◌, refl, ap, ◌∙◌}
use mathlib.Core.Bool.{cond}
use mathlib.Core.Option.{Option, none, some}
use mathlib.Core.List.{List}
use Prim.Native.Nat.{ℕ, ◌-◌}
use native.Mathlib.Omega.{arith}
use lib.Dec.{ltb}
use lib.Ieee.{Float}
use Rattle.limits.specs.Limits.{branch_limit, point_limit}
use Rattle.readings.specs.Number.{nought}
use Rattle.intervalstoremanager.specs.declared.IntervalStoreManager.{IntervalStoreManager}
use Rattle.intervalstoremanager.specs.Rows as Rows
use Rattle.cuttree.specs.Tree.{Tree, leaf, branch, height}
use Rattle.wholetree.specs.Reading.{Reading}
use Rattle.wholetree.specs.Whole.{whole, tab}
use Rattle.layout.specs.Slots.{row_of, cut_of, box_ends}
use Rattle.layout.specs.Layout.{no_row, no_box_ends, root_of, slot_in, count_in, box_in}
use Rattle.layout.proofs.Tabs.{same_tab}
use Rattle.layout.proofs.Slots.{slot_none}
use Rattle.nodestore.specs.Stored.{Arrays}
use Rattle.treestore.specs.declared.Edited.{Edited}
use Rattle.treestore.specs.Arrays.{NodeStore, lent, manager_of, edited_of, EditDone}

pub lent_is : (b : NodeStore) (n : List (List ℕ)) (x : List Float) (m : List ℕ) (f : List (List ℕ)) (g : List (List (List Float))) → b.nodes ≡ n → b.cuts ≡ x → b.copies ≡ m → b.free ≡ f → b.boxes ≡ g → b ≡ lent n x m f g
lent_is b n x m f g N X M F G = rw (← N, ← X, ← M, ← F, ← G) refl

module _ (d c k : ℕ) where
  -- rows, cuts and copies do not depend on how many branches are cached
  any_cached : {B : Type 0} (f : Tree (whole d) → B) (z : B) (o : Option (Tree (whole d))) → tab branch_limit (slot_in d c 0 f z o) ≡ tab branch_limit (slot_in d c k f z o)
  any_cached f z none = refl
  any_cached f z (some s) = refl

  pub counts_cached : (o : Option (Tree (whole d))) → tab point_limit (count_in d c 0 o) ≡ tab point_limit (count_in d c k o)
  counts_cached none = refl
  counts_cached (some s) = refl

  pub edit_done : (o : Option (Tree (whole d))) (v : List (ℕ × ℕ)) (root : ℕ) (m : IntervalStoreManager) (b : NodeStore) → root ≡ root_of d c k o → m ≡ manager_of (c - 1) v
      → Arrays d c b.nodes b.cuts b.copies o → b.free ≡ Rows.layout v → b.boxes ≡ tab branch_limit (box_in d c k o)
      → EditDone d c k o v (record { root = root; manager = m }) b
  edit_done o v root m b x y A f g = record { answer = answered; arrays = lent_is b _ _ _ _ _ (A.rows ∙ any_cached (row_of d c) no_row o) (A.values ∙ any_cached (cut_of d c) nought o) (A.counts ∙ counts_cached o) f g }
    where
      answered : ◌≡◌ {A = Edited} (record { root = root; manager = m }) (edited_of d c k o v)
      answered = ap (λ (z : ℕ). record { root = z; manager = m }) x ∙ ap (λ (z : IntervalStoreManager). record { root = root_of d c k o; manager = z }) y

  -- a lone leaf has no boxes
  pub no_boxes : (p : Reading) (s : Tree (whole d)) → height (whole d) s p ≡ 0 → tab branch_limit (box_in d c k (some s)) ≡ tab branch_limit (box_in d c k none)
  no_boxes p (branch b x l r) h = absurd (omega arith)
  no_boxes p (leaf i q x) h = same_tab no_box_ends branch_limit (box_in d c k (some (leaf i q x))) (box_in d c k none) (λ j _. ap (λ (y : List (List Float)). cond (ltb j k) y no_box_ends) (slot_none d c (box_ends d c) no_box_ends (leaf i q x) j refl))
