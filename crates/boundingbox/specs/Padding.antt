-- What stands in the channels that a tree does not use. Definitions.
-- It changes neither what a box holds nor its range sum (proofs/Padding.antt: `padded_contains`, `padded_range`).
use Rattle.std.specs.Prelude.{◌≡◌, List, ℕ, ◌≤◌, ◌<◌, Float}
use Rattle.boundingbox.specs.Ends.{channel}
use Rattle.readings.specs.Number.{nought}

-- A box or a point has room for n channels, and a tree of d channels leaves +0.0 in the others.
abbrev pub Padded : List Float → ℕ → ℕ → Type 0
Padded xs d n = (i : ℕ) → d ≤ i → i < n → channel xs i ≡ nought
