-- The slots of a tree's arrays and of its table, each named; `arrays_of` of the crate `treestore` says which array is made of which. Definitions.
use Rattle.std.specs.Prelude.{cond, List, [], ◌∷◌, ℕ, ◌-◌, ltb, replicate, Float}
use Rattle.std.proofs.Math.Option.{Option, none, some}
use Rattle.limits.specs.Limits.{width, point_limit}
use Rattle.readings.specs.Number.{nought}
use Rattle.cuttree.specs.Tree.{Tree, id}
use Rattle.wholetree.specs.Reading.{Reading}
use Rattle.wholetree.specs.Whole.{whole, tab}
use Rattle.layout.specs.Slots.{slot, box_ends, count_at}

-- no branch's row, no reading's, and no box
abbrev pub no_row : List ℕ
no_row = 0 ∷ 0 ∷ 0 ∷ 0 ∷ []

abbrev pub no_ends : List Float
no_ends = replicate width nought

abbrev pub no_box_ends : List (List Float)
no_box_ends = no_ends ∷ no_ends ∷ []

-- what the table keeps: a row of coordinates for each index, and whether it is written
pub record Table : Type 0 where
  pub points : List (List Float)
  pub written : List ℕ

-- d channels, capacity c, and k cached branches
module _ (d c k : ℕ) where
  -- the id of the root, and c − 1 where the tree is empty
  abbrev pub root_of : Option (Tree (whole d)) → ℕ
  root_of none = c - 1
  root_of (some t) = id (whole d) c t

  -- f of the branch numbered j, or z where there is none
  abbrev pub slot_in : {A : Type 0} → (Tree (whole d) → A) → A → Option (Tree (whole d)) → ℕ → A
  slot_in f z none j = z
  slot_in f z (some t) j = slot d c f z t j

  -- the copies of the leaf of the index x, and 0 where there is none
  abbrev pub count_in : Option (Tree (whole d)) → ℕ → ℕ
  count_in none x = 0
  count_in (some t) x = count_at d c t x

  -- 'The cached boxes are those the tree keeps, one for each branch in it below the whole part of share × c'
  abbrev pub box_in : Option (Tree (whole d)) → ℕ → List (List Float)
  box_in o j = cond (ltb j k) (slot_in (box_ends d c) no_box_ends o j) no_box_ends

abbrev pub point_row : Option Reading → List Float
point_row none = no_ends
point_row (some p) = p.row

abbrev pub mark : Option Reading → ℕ
mark none = 0
mark (some p) = 1

abbrev pub table_of : (ℕ → Option Reading) → Table
table_of f = record { points = tab point_limit (λ (i : ℕ). point_row (f i)); written = tab point_limit (λ (i : ℕ). mark (f i)) }
