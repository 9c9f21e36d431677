-- The lent arrays of a tree and of the branch numbers that it doesn't use, every slot named, and what of a header an edit changes. Definitions.
use Rattle.std.specs.Prelude.{◌≡◌, List, ℕ, ◌-◌, length, Float}
use Rattle.std.proofs.Math.Option.{Option}
use Rattle.limits.specs.Limits.{branch_limit, point_limit}
use Rattle.readings.specs.Number.{nought}
use Rattle.intervalstoremanager.specs.declared.IntervalStoreManager.{IntervalStoreManager}
use Rattle.intervalstoremanager.specs.Rows as Rows
use Rattle.cuttree.specs.Tree.{Tree}
use Rattle.wholetree.specs.Whole.{whole, tab}
use Rattle.layout.specs.Slots.{row_of, cut_of}
use Rattle.layout.specs.Layout.{no_row, root_of, slot_in, count_in, box_in}
use Rattle.treestore.specs.declared.Edited.{Edited}
use Rattle.treestore.specs.declared.Store.{Store}

-- the lent arrays: `Store<Boxes>`
abbrev pub NodeStore : Type 0
NodeStore = Store (List (List (List Float)))

-- such arrays, each named by its place
abbrev pub lent : List (List ℕ) → List Float → List ℕ → List (List ℕ) → List (List (List Float)) → NodeStore
lent n x m f b = record { nodes = n; cuts = x; copies = m; free = f; boxes = b }

-- the manager of `size` numbers with that stack of free ones
abbrev pub manager_of : ℕ → List (ℕ × ℕ) → IntervalStoreManager
manager_of size u = record { capacity = size; last_in_use = length u }

-- d channels, capacity c, k cached branches
module _ (d c k : ℕ) where
  -- the arrays of a tree or of none, and of its free numbers
  abbrev pub arrays_of : Option (Tree (whole d)) → List (ℕ × ℕ) → NodeStore
  arrays_of o u = record {
    nodes = tab branch_limit (slot_in d c k (row_of d c) no_row o);
    cuts = tab branch_limit (slot_in d c k (cut_of d c) nought o);
    copies = tab point_limit (count_in d c k o);
    free = Rows.layout u;
    boxes = tab branch_limit (box_in d c k o);
  }

  -- what its header has of it
  abbrev pub edited_of : Option (Tree (whole d)) → List (ℕ × ℕ) → Edited
  edited_of o u = record { root = root_of d c k o; manager = manager_of (c - 1) u }

  -- what an edit answers and leaves
  pub record EditDone (o : Option (Tree (whole d))) (u : List (ℕ × ℕ)) (r : Edited) (b : NodeStore) : Type 0 where
    pub answer : r ≡ edited_of o u
    pub arrays : b ≡ arrays_of o u
