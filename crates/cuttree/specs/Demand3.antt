-- DEMAND 3 for a bare tree, in the words of document 01's copy counts. It speaks of the calls' arguments and answers, the queries'
-- answers and the counts, and of nothing else.
use Rattle.std.specs.Prelude.{◌≡◌, ◌⊎◌, Bool, true, false, List, [], ◌∷◌, ℕ, ◌-◌, ◌≤◌, ltb, length}
use Rattle.std.proofs.Math.Option.{some}
use Rattle.cuttree.specs.Setting.{Setting, below}
use Rattle.cuttree.specs.Run.{box_of, Answer, refused, added, box_is, tree_empty, not_held, Row, Box, Call, put, add, delete, query, World, ask, call, fresh}
use Rattle.cuttree.specs.Counts.{Counts, nothing, count, succeeded, Held, NothingHeld, Values}
use Rattle.cuttree.specs.Graph.{View, IsLeaf, LeafOf, IsBranch, IsNode, Child, Under, IsRoot, Walk}

-- a tree of capacity c
module _ (S : Setting) (c : ℕ) where
  open S use {Chan, Point, le, at, same}

  -- AFTER THE LIST: of the tree that the queries give, against the counts
  pub record TreeClaim (G : View S) (K : Counts S) : Type 0 where
    -- every leaf has a value, the point kept for its id less c
    pub valued : (x n : ℕ) → IsLeaf S G x n → (q : Point) × LeafOf S G x n q × (c ≤ x)
    -- a value has a leaf exactly when its adds exceed its deletes, one leaf only, whose copies are that difference
    pub has_leaf : (v : Point) → Held S K v → (x : ℕ) × (q : Point) × LeafOf S G x (K.number v) q × (same q v ≡ true)
    pub is_held : (x n : ℕ) (q v : Point) → LeafOf S G x n q → same q v ≡ true → Held S K v × (n ≡ K.number v)
    pub one_leaf : (x y m n : ℕ) (q v : Point) → LeafOf S G x m q → LeafOf S G y n v → same q v ≡ true → x ≡ y
    -- the paper's cut clause at each branch
    pub left : (x : ℕ) (r : Row S) → IsBranch S G x r → (q : Point) → Under S G r.left q → below S r.cut q ≡ true
    pub right : (x : ℕ) (r : Row S) → IsBranch S G x r → (q : Point) → Under S G r.right q → below S r.cut q ≡ false
    -- the box query answers for every branch and for nothing else, and the box is the smallest around the branch's leaves
    pub boxed : (x : ℕ) (r : Row S) → IsBranch S G x r → (b : Box S) × (G.asked (box_of x) ≡ box_is b)
    pub only_branches : (x : ℕ) (b : Box S) → G.asked (box_of x) ≡ box_is b → (r : Row S) × IsBranch S G x r
    pub around : (x : ℕ) (b : Box S) → G.asked (box_of x) ≡ box_is b → (d : Chan) (q : Point) → Under S G x q →
        (le (b.lower d) (at q d) ≡ true) × (le (at q d) (b.upper d) ≡ true)
    pub smallest : (x : ℕ) (b : Box S) → G.asked (box_of x) ≡ box_is b → (d : Chan) →
        ((q : Point) × Under S G x q × (b.lower d ≡ at q d)) × ((q : Point) × Under S G x q × (b.upper d ≡ at q d))
    -- every child is a node; while nothing is held there is no branch; otherwise there is one root
    pub child_node : (x y : ℕ) (s : Bool) → Child S G x s y → IsNode S G y
    pub held_or_not : NothingHeld S K ⊎ ((v : Point) × Held S K v)
    pub no_branch : NothingHeld S K → (x : ℕ) (r : Row S) → IsBranch S G x r → ⊥
    pub root : (v : Point) → Held S K v → (x : ℕ) × IsRoot S G x

  -- IN THE LIST: of a call's answer, against the tree and the counts just before it
  abbrev pub CallClaim : View S → Counts S → Call S → Answer S → Type 0
  CallClaim G K (put i x) a = Unit {0}
  -- a successful add takes no word for a held value or into an empty tree, else as many as its walk has nodes; never more than
  -- there are different values held
  CallClaim G K (add i ws) a = (v : Point) (j n : ℕ) → K.kept i ≡ some v → a ≡ added j n →
      (Held S K v → n ≡ 0) × (NothingHeld S K → n ≡ 0)
      × ((u : Point) → Held S K u → K.number v ≡ 0 → (x : ℕ) × IsRoot S G x × Walk S G v x n)
      × ((vs : List Point) × Values S K vs × (n ≤ length vs))
  -- a delete of a written index is refused exactly when its value's number is 0: by 12 if nothing is held, else by 13
  CallClaim G K (delete i) a = (v : Point) → K.kept i ≡ some v →
      (succeeded S a ≡ ltb 0 (K.number v)) × (NothingHeld S K → a ≡ refused tree_empty)
      × ((u : Point) → Held S K u → K.number v ≡ 0 → a ≡ refused not_held)
  CallClaim G K (query q) a = Unit {0}

  -- what the queries give of a world, with the points that the counts keep
  abbrev pub view_of : World S → Counts S → View S
  view_of W K = record { asked = ask S c W; value = λ x. K.kept (x - c) }

  -- "each call gets table, tree and sample as the one before returned or left them"
  abbrev pub Claims : World S → Counts S → List (Call S) → Type 0
  Claims W K [] = TreeClaim (view_of W K) K
  Claims W K (d ∷ ds) = TreeClaim (view_of W K) K × CallClaim (view_of W K) K d (call S c W d).0 × Claims (call S c W d).1 (count S d (call S c W d).0 K) ds

  -- for every list of puts, adds, deletes and queries, refused ones included, from a fresh tree and an unwritten table
  abbrev pub Demand3 : Type 0
  Demand3 = 2 ≤ c → (ds : List (Call S)) → Claims (fresh S c) (nothing S) ds
