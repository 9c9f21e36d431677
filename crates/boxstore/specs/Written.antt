-- The cached boxes, by branch number: what is read of one, and one written where its branch is cached. Definitions.
use Rattle.std.specs.Prelude.{cond, List, [], ◌∷◌, ℕ, ltb, get_or, set, Float}
use Rattle.boundingbox.specs.Ends.{joined, least, greatest}

-- the ends kept for the branch j
abbrev pub low_in : List (List (List Float)) → ℕ → List Float
low_in boxes j = get_or (get_or boxes j []) 0 []

abbrev pub high_in : List (List (List Float)) → ℕ → List Float
high_in boxes j = get_or (get_or boxes j []) 1 []

-- the box between low and high, grown by a point
abbrev pub box_with : (low high point : List Float) → List (List Float)
box_with low high point = joined least low point ∷ joined greatest high point ∷ []

-- k branches are cached
unfoldable pub written : ℕ → ℕ → List (List Float) → List (List (List Float)) → List (List (List Float))
written k j x boxes = cond (ltb j k) (set boxes j x) boxes
