-- The tree as the queries give it, in document 01's words (Copy counts): leaves, branches, children, the root, the walk.
use Rattle.std.specs.Prelude.{◌≡◌, ◌⊎◌, Bool, cond, ℕ, suc}
use Rattle.std.proofs.Math.Option.{Option, some}
use Rattle.cuttree.specs.Setting.{Setting, below}
use Rattle.cuttree.specs.Run.{Query, copies_of, branch_of, Answer, copies_are, branch_is, Row}

module _ (S : Setting) where
  open S use {Point}

  -- what is seen: each query's answer, and the point kept for an id less c
  pub record View : Type 0 where
    pub asked : Query → Answer S
    pub value : ℕ → Option Point

  module _ (G : View) where
    -- "a leaf [is an id] that the copies query answers, its value the point kept for its id less c"
    abbrev pub IsLeaf : ℕ → ℕ → Type 0
    IsLeaf x n = G.asked (copies_of x) ≡ copies_are n

    abbrev pub LeafOf : ℕ → ℕ → Point → Type 0
    LeafOf x n q = IsLeaf x n × (G.value x ≡ some q)

    -- "a branch is an id that the branch queries answer"
    abbrev pub IsBranch : ℕ → Row S → Type 0
    IsBranch x r = G.asked (branch_of x) ≡ branch_is r

    abbrev pub IsNode : ℕ → Type 0
    IsNode x = ((n : ℕ) × IsLeaf x n) ⊎ ((r : Row S) × IsBranch x r)

    -- y is the child of the branch x, on its left (true) or right
    abbrev pub Child : ℕ → Bool → ℕ → Type 0
    Child x s y = (r : Row S) × IsBranch x r × (cond s r.left r.right ≡ y)

    pub data Reached : ℕ → ℕ → Type 0 where
      here : {x : ℕ} → Reached x x
      down : {x y z : ℕ} (s : Bool) → Child x s y → Reached y z → Reached x z

    -- q is the value of a leaf reached from x
    abbrev pub Under : ℕ → Point → Type 0
    Under x q = (y : ℕ) × (n : ℕ) × Reached x y × LeafOf y n q

    -- "one node, the root, is no branch's child; every other is a child once only and is reached from the root"
    pub record IsRoot (x : ℕ) : Type 0 where
      pub node : IsNode x
      pub no_child : (y : ℕ) (s : Bool) → Child y s x → ⊥
      pub child : (z : ℕ) → IsNode z → (z ≡ x → ⊥) → (y : ℕ) × (s : Bool) × Child y s z
      pub once : (z y y' : ℕ) (s s' : Bool) → Child y s z → Child y' s' z → (y ≡ y') × (s ≡ s')
      pub reached : (z : ℕ) → IsNode z → Reached x z

    -- the walk of v from x to a leaf has n nodes, both ends counted
    pub data Walk (v : Point) : ℕ → ℕ → Type 0 where
      ends : {x n : ℕ} → IsLeaf x n → Walk v x 1
      goes : {x y m : ℕ} (r : Row S) → IsBranch x r → (cond (below S r.cut v) r.left r.right ≡ y) → Walk v y m → Walk v x (suc m)
