-- A reading that no leaf has entering a tree: what is told of it, and what is left. Definitions.
use Rattle.std.specs.Prelude.{◌≡◌, false, List, [], ℕ, ◌-◌, ◌≤◌, ◌<◌, length, get_or, Float}
use Rattle.std.proofs.Math.Option.{some}
use Rattle.limits.specs.Limits.{point_limit, total_limit}
use Rattle.intervalstoremanager.specs.declared.IntervalStoreManager.{IntervalStoreManager}
use Rattle.intervalstoremanager.specs.Stack.{next, after_get}
use Rattle.cuttree.specs.Tree.{Tree, found, mass, walk, insert}
use Rattle.wholetree.specs.Reading.{Reading}
use Rattle.wholetree.specs.Whole.{whole}
use Rattle.layout.specs.Slots.{uses, count_at}
use Rattle.treestore.specs.declared.Header.{Header}
use Rattle.treestore.specs.declared.Entered.{Entered}
use Rattle.treestore.specs.Arrays.{NodeStore, EditDone}
use Rattle.treestore.specs.Edits.{Walking}

-- p's walk ends in another value's leaf; there is a free number for the branch, a free index for the leaf, where the table has p, and a word for each node
pub record Entering (d c k : ℕ) (t : Tree (whole d)) (u : List (ℕ × ℕ)) (p : Reading) (root : ℕ) (manager : IntervalStoreManager) (a : NodeStore) (points : List (List Float)) (path : List (List ℕ)) (n leaf index : ℕ) (words : List ℕ) (point : List Float) : Type 0 where
  pub walking : Walking d c k t u p root manager a points path n leaf point
  pub absent : found (whole d) t p ≡ false
  pub room : mass (whole d) t ≤ total_limit - 1
  pub some_free : 0 < length u
  pub number_below : next u < c - 1
  pub number_fresh : uses d c t (next u) ≡ 0
  pub index_fresh : count_at d c t index ≡ 0
  pub index_small : index < point_limit
  pub index_row : get_or points index [] ≡ p.row
  pub enough : n ≤ length words

-- some tree is entered
pub record SomeEntering (h : Header) (a : NodeStore) (points : List (List Float)) (path : List (List ℕ)) (n leaf index : ℕ) (words : List ℕ) (point : List Float) : Type 0 where
  pub tree : Tree (whole h.dimensions)
  pub free : List (ℕ × ℕ)
  pub reading : Reading
  pub entering : Entering h.dimensions h.capacity h.cached tree free reading h.root h.manager a points path n leaf index words point

-- Entering: one leaf and one branch more, and a word for each node of the walk, whichever tree it is.
abbrev pub Enters : Header → NodeStore → List (List Float) → List (List ℕ) → (n leaf index : ℕ) → List ℕ → List Float → Entered → NodeStore → Type 0
Enters h a points path n leaf index words point r b = (t : Tree (whole h.dimensions)) (u : List (ℕ × ℕ)) (p : Reading) → Entering h.dimensions h.capacity h.cached t u p h.root h.manager a points path n leaf index words point
    → EditDone h.dimensions h.capacity h.cached (some (insert (whole h.dimensions) (next u) index p (λ m. get_or words m 0) t)) (after_get u) (record { root = r.root; manager = r.manager }) b × (r.words ≡ walk (whole h.dimensions) t p)
