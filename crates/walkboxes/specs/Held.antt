-- Boxes on a walk that hold a point. Definitions.
use Rattle.std.specs.Prelude.{◌≡◌, true, List, [], ℕ, ◌<◌, get_or, Float}
use Rattle.limits.specs.Limits.{width}
use Rattle.boundingbox.specs.Contained.{contains}
use Rattle.boxstore.specs.Written.{low_in, high_in}

-- the cached boxes of the rows of a path before one hold the point, k branches being cached
abbrev pub HoldBefore : (k from : ℕ) → List (List ℕ) → List Float → List (List (List Float)) → Type 0
HoldBefore k from path point boxes = (i : ℕ) → i < from → get_or (get_or path i []) 0 0 < k
    → contains (low_in boxes (get_or (get_or path i []) 0 0)) (high_in boxes (get_or (get_or path i []) 0 0)) point point width ≡ true
