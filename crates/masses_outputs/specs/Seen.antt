-- Masses as the queries give them (request A.2), and the copy counts beside them. Definitions.
use Rattle.std.specs.Prelude.{◌≡◌, ◌⊎◌, List, [], ◌∷◌, ℕ, ◌+◌}
use Rattle.cuttree.specs.Setting.{Setting}
use Rattle.cuttree.specs.Run.{Row}
use Rattle.cuttree.specs.Counts.{Counts, Values}
use Rattle.cuttree.specs.Graph.{View, IsLeaf, IsBranch, IsRoot}

module _ (S : Setting) where
  open S use {Point}

  -- the copies of these values, as the counts number them
  abbrev pub copies_of_all : Counts S → List Point → ℕ
  copies_of_all K [] = 0
  copies_of_all K (v ∷ vs) = K.number v + copies_of_all K vs

  -- the node x has the mass m: "A leaf's mass becomes its copies"
  abbrev pub HasMass : View S → ℕ → ℕ → Type 0
  HasMass G x m = IsLeaf S G x m ⊎ ((r : Row S) × IsBranch S G x r × (r.mass ≡ m))

  pub record MassClaim (G : View S) (K : Counts S) : Type 0 where
    -- a node has one mass
    pub one : (x m n : ℕ) → HasMass G x m → HasMass G x n → m ≡ n
    -- "a branch's mass the sum of its sides"
    pub sides : (x : ℕ) (r : Row S) → IsBranch S G x r → (m : ℕ) × (n : ℕ) × HasMass G r.left m × HasMass G r.right n × (r.mass ≡ m + n)
    -- the root's is the total: the copies of all values held, each value once
    pub root : (x : ℕ) → IsRoot S G x → (vs : List Point) × Values S K vs × HasMass G x (copies_of_all K vs)
