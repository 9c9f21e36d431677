-- What stands in the slots of a tree's branches and leaves: a branch's slot is its number, a leaf's its point index. A slot of neither is zero. Definitions.
use Rattle.std.specs.Prelude.{cond, List, [], ◌∷◌, ℕ, eqb, ltb, get_or, Float}
use Rattle.readings.specs.Number.{nought}
use Rattle.cuttree.specs.Tree.{Tree, leaf, branch, id, is, sum, lo, hi, mass}
use Rattle.wholetree.specs.Whole.{whole, ends}

-- the number k of the row i
abbrev pub field : List (List ℕ) → ℕ → ℕ → ℕ
field rows i k = get_or (get_or rows i []) k 0

module _ (d c : ℕ) where
  -- how often the branch number j is in the tree
  abbrev pub uses : Tree (whole d) → ℕ → ℕ
  uses t j = sum (whole d) (λ i q n. 0) (λ b. is b j) t

  -- f of the branch numbered j, or z where there is none
  unfoldable pub slot : {A : Type 0} → (Tree (whole d) → A) → A → Tree (whole d) → ℕ → A
  slot f z (leaf i q n) j = z
  slot f z (branch b k l r) j = cond (eqb b j) (f (branch b k l r)) (cond (ltb 0 (uses l j)) (slot f z l j) (slot f z r j))

  -- a branch's row: the ids of its left and right sides, its mass, and the channel of its cut
  abbrev pub row_of : Tree (whole d) → List ℕ
  row_of (leaf i q n) = 0 ∷ 0 ∷ 0 ∷ 0 ∷ []
  row_of (branch b k l r) = id (whole d) c l ∷ id (whole d) c r ∷ mass (whole d) (branch b k l r) ∷ k.channel ∷ []

  -- the value of its cut
  abbrev pub cut_of : Tree (whole d) → Float
  cut_of (leaf i q n) = nought
  cut_of (branch b k l r) = k.value.value

  -- the lower and the upper ends of its box
  abbrev pub low_of : Tree (whole d) → List Float
  low_of t = ends (lo (whole d) t)

  abbrev pub high_of : Tree (whole d) → List Float
  high_of t = ends (hi (whole d) t)

  -- its box: the lower ends, then the upper ends
  abbrev pub box_ends : Tree (whole d) → List (List Float)
  box_ends t = low_of t ∷ high_of t ∷ []

  -- the copies of the leaf of a point index
  abbrev pub count_at : Tree (whole d) → ℕ → ℕ
  count_at t x = sum (whole d) (λ i q n. cond (eqb i x) n 0) (λ b. 0) t
