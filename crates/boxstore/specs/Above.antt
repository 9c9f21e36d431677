-- The box of a node of a walk. Definitions.
use Rattle.std.specs.Prelude.{◌≡◌, ℕ}
use Rattle.boundingbox.specs.declared.BoundingBox.{BoundingBox}
use Rattle.cuttree.specs.Tree.{Tree}
use Rattle.cuttree.specs.Walk.{sub}
use Rattle.wholetree.specs.Reading.{Reading}
use Rattle.wholetree.specs.Whole.{whole}
use Rattle.layout.specs.Slots.{low_of, high_of}

-- b is the box of the node of height m on the walk of p
pub record At (d c : ℕ) (p : Reading) (t : Tree (whole d)) (m : ℕ) (b : BoundingBox) : Type 0 where
  pub low : b.min_values ≡ low_of d c (sub (whole d) t m p)
  pub high : b.max_values ≡ high_of d c (sub (whole d) t m p)
