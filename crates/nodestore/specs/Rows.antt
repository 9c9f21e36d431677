-- Rows of branches and rows of a path, as lists: what an edit writes. Definitions.
use Rattle.std.specs.Prelude.{Bool, cond, List, [], ◌∷◌, ℕ, ◌+◌, ◌-◌, ◌≤◌, ◌<◌, eqb, ltb, get_or, set}
use Rattle.limits.specs.Limits.{branch_limit, total_limit}
use Rattle.cuttree.specs.Tree.{is}
use Rattle.layout.specs.Slots.{field}
use Rattle.walk.specs.Walks.{node_of}

-- number k of the branch i made v
abbrev pub set_field : List (List ℕ) → ℕ → ℕ → ℕ → List (List ℕ)
set_field n i k v = set n i (set (get_or n i []) k v)

-- how often b is a node of these rows
abbrev pub times : List (List ℕ) → ℕ → ℕ
times [] b = 0
times (s ∷ ss) b = is (node_of s) b + times ss b

-- MASSES: that of the branch b made f of it; the same along the rows of a path, the last first
abbrev pub weigh : (ℕ → ℕ) → List (List ℕ) → ℕ → List (List ℕ)
weigh f n b = set_field n b 2 (f (field n b 2))

abbrev pub mass_over : (ℕ → ℕ) → List (List ℕ) → List (List ℕ) → List (List ℕ)
mass_over f [] n = n
mass_over f (s ∷ ss) n = weigh f (mass_over f ss n) (node_of s)

abbrev pub heavier : ℕ → ℕ
heavier x = x + 1

abbrev pub lighter : ℕ → ℕ
lighter x = x - 1

-- one of these two
abbrev pub counted : Bool → ℕ → ℕ
counted more x = cond more (heavier x) (lighter x)

-- what is small and large enough to be counted so
abbrev pub fewest : Bool → ℕ
fewest more = cond more 0 1

abbrev pub most : Bool → ℕ
most more = cond more (total_limit - 1) total_limit

abbrev pub Countable : Bool → ℕ → Type 0
Countable more x = (fewest more ≤ x) × (x ≤ most more)

-- what masses ask: different branches, with masses from low to high
pub record Climb (low high : ℕ) (n ss : List (List ℕ)) : Type 0 where
  pub ids : (b : ℕ) → 0 < times ss b → b < branch_limit
  pub once : (b : ℕ) → times ss b ≤ 1
  pub masses : (b : ℕ) → 0 < times ss b → (low ≤ field n b 2) × (field n b 2 ≤ high)

-- POINTERS: the side `old` of the branch a made `new`; the same at the last of the first k rows of a path, if there is one
abbrev pub redirect : List (List ℕ) → ℕ → ℕ → ℕ → List (List ℕ)
redirect n a old new = cond (eqb (field n a 0) old) (set_field n a 0 new) (set_field n a 1 new)

abbrev pub relink : List (List ℕ) → List (List ℕ) → ℕ → ℕ → ℕ → List (List ℕ)
relink n path k old new = cond (eqb k 0) n (redirect n (field path (k - 1) 0) old new)

-- A NEW BRANCH over `old`, with the leaf `new` on the left or on the right
abbrev pub row_for : Bool → ℕ → ℕ → ℕ → ℕ → List ℕ
row_for left new old m d = cond left new old ∷ cond left old new ∷ (m + 1) ∷ d ∷ []

-- the mass of the node of an id: a branch's stands in its row, a leaf's is its copies
abbrev pub mass_at : ℕ → List (List ℕ) → List ℕ → ℕ → ℕ
mass_at c n k x = cond (ltb x c) (field n x 2) (get_or k (x - c) 0)
