-- What the edits of a tree are told of a walk in it, and one copy less. Definitions.
use Rattle.std.specs.Prelude.{◌≡◌, true, List, ℕ, ◌-◌, ◌≤◌, ◌<◌, Float}
use Rattle.std.proofs.Math.Option.{some}
use Rattle.limits.specs.Limits.{width, capacity_limit}
use Rattle.boundingbox.specs.Padding.{Padded}
use Rattle.intervalstoremanager.specs.declared.IntervalStoreManager.{IntervalStoreManager}
use Rattle.intervalstoremanager.specs.Stack.{holds, Proper, Once as FreeOnce}
use Rattle.cuttree.specs.Tree.{Tree, All, id, found, ending, forget, freed}
use Rattle.cuttree.specs.Run.{after_freed}
use Rattle.wholetree.specs.Reading.{Reading}
use Rattle.wholetree.specs.Whole.{whole}
use Rattle.layout.specs.Stands.{Once}
use Rattle.walk.specs.Walks.{Walked}
use Rattle.nodestore.specs.Stored.{Stored}
use Rattle.boxstore.specs.Boxed.{Boxed}
use Rattle.rowboxes.specs.Rows.{PaddedRow, PaddedTable}
use Rattle.treestore.specs.declared.Header.{Header}
use Rattle.treestore.specs.declared.Edited.{Edited}
use Rattle.treestore.specs.Arrays.{NodeStore, manager_of, arrays_of, EditDone}

-- p's walk in the tree t, which ends in the leaf of that index. d channels, capacity c, k cached branches, and the free numbers u. Beyond its channels the table and the point have +0.0.
pub record Walking (d c k : ℕ) (t : Tree (whole d)) (u : List (ℕ × ℕ)) (p : Reading) (root : ℕ) (manager : IntervalStoreManager) (a : NodeStore) (points : List (List Float)) (path : List (List ℕ)) (n leaf : ℕ) (point : List Float) : Type 0 where
  pub small : c ≤ capacity_limit
  pub some_room : 2 ≤ c
  pub cached_few : k ≤ c - 1
  pub channels_few : d ≤ width
  pub root_is : root ≡ id (whole d) c t
  pub manager_is : manager ≡ manager_of (c - 1) u
  pub arrays_are : a ≡ arrays_of d c k (some t) u
  pub stored : Stored d c a.nodes a.cuts a.copies t
  pub boxed : Boxed d c k a.nodes points a.boxes t
  pub once : Once d c t
  pub narrow : All (whole d) (λ i q n. Padded q.row d width) t
  pub padded : PaddedTable d points
  pub proper : Proper (c - 1) u
  pub free_once : FreeOnce u
  pub walked : Walked d c path n t p
  pub index_is : leaf ≡ (ending (whole d) t p).index
  pub row : point ≡ p.row
  pub row_padded : PaddedRow d point
  pub freeable : (b : ℕ) → freed (whole d) p t ≡ some b → (b < c - 1) × (holds u b ≡ 0)

-- some tree is walked, and p is held
pub record SomeHeld (h : Header) (a : NodeStore) (points : List (List Float)) (path : List (List ℕ)) (n leaf : ℕ) (point : List Float) : Type 0 where
  pub tree : Tree (whole h.dimensions)
  pub free : List (ℕ × ℕ)
  pub reading : Reading
  pub walking : Walking h.dimensions h.capacity h.cached tree free reading h.root h.manager a points path n leaf point
  pub held : found (whole h.dimensions) tree reading ≡ true

-- Forgetting: one copy of p less, whichever tree it is.
abbrev pub Forgets : Header → NodeStore → List (List Float) → List (List ℕ) → (n leaf : ℕ) → List Float → Edited → NodeStore → Type 0
Forgets h a points path n leaf point r b = (t : Tree (whole h.dimensions)) (u : List (ℕ × ℕ)) (p : Reading) → Walking h.dimensions h.capacity h.cached t u p h.root h.manager a points path n leaf point → found (whole h.dimensions) t p ≡ true
    → EditDone h.dimensions h.capacity h.cached (forget (whole h.dimensions) p t) (after_freed (whole h.dimensions) u (freed (whole h.dimensions) p t)) r b
