-- Looking for a reading: what the walk, its leaf and the test of their rows are told, and that the test tells whether the reading is held. Assumes nothing.
use mathlib.Core.Path.{◌≡◌, refl, ap, ◌∙◌}
use mathlib.Core.Bool.{Bool}
use mathlib.Core.List.{List, []}
use Prim.Native.Nat.{ℕ, ◌<◌}
use lib.ListN.{get_or, drop}
use lib.Ieee.{Float}
use Rattle.limits.specs.Limits.{width, point_limit}
use Rattle.boundingbox.specs.Padding.{Padded}
use Rattle.cuttree.specs.Tree.{Tree, ending, found}
use Rattle.cuttree.proofs.Leaves.{all_ending}
use Rattle.wholetree.specs.Reading.{Reading, same_row}
use Rattle.wholetree.specs.Whole.{whole}
use Rattle.layout.proofs.Ranges.{range_ending}
use Rattle.walk.specs.Walks.{Walks, SomeWalks, Walked, SomeWalked}
use Rattle.treestore.specs.Finds.{Sought, FoundIn}

module _ {d c root : ℕ} {nodes : List (List ℕ)} {cuts : List Float} {points : List (List Float)} {index : ℕ} {t : Tree (whole d)} {p : Reading} (S : Sought d c root nodes cuts points index t p) where
  pub index_padded : Padded (get_or points index []) d width
  index_padded = (S.padded index S.index_small).rest

  pub some_walks : SomeWalks c nodes cuts (get_or points index []) root
  some_walks = record { channels = d; tree = t; reading = p; walks = S.walks }

  -- the path that is written, and its leaf
  module _ (path : List (List ℕ)) (n : ℕ) (w : (d : ℕ) (t : Tree (whole d)) (p : Reading) → Walks d c nodes cuts (get_or points index []) root t p → Walked d c path n t p) where
    pub some_walked : SomeWalked c path n
    some_walked = record { channels = d; tree = t; reading = p; walked = w d t p S.walks }

    module _ (leaf : ℕ) (l : (d : ℕ) (t : Tree (whole d)) (p : Reading) → Walked d c path n t p → leaf ≡ (ending (whole d) t p).index) where
      leaf_is : leaf ≡ (ending (whole d) t p).index
      leaf_is = l d t p (w d t p S.walks)

      pub leaf_low : leaf < point_limit
      leaf_low = rw leaf_is (range_ending d c p t S.walks.in_range)

      pub leaf_padded : Padded (get_or points leaf []) d width
      leaf_padded = (S.padded leaf leaf_low).rest

      same_is : same_row (get_or points leaf []) (get_or points index []) ≡ found (whole d) t p
      same_is =
          let x : get_or points leaf [] ≡ (ending (whole d) t p).value.row = ap (λ j. get_or points j []) leaf_is ∙ all_ending (whole d) (λ j q n. get_or points j [] ≡ q.row) p t S.leaves in
          rw (x, S.walks.point_is) refl

      pub found_in : (before : List (List ℕ)) (held : Bool) → held ≡ same_row (get_or points leaf []) (get_or points index []) → drop n path ≡ drop n before → FoundIn d c t p before (record { walk = n; leaf = leaf; held = held }) path
      found_in before held e f = record { walked = w d t p S.walks; leaf_is = leaf_is; held_is = e ∙ same_is; rest = f }
