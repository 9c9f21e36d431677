-- The factor of a random word. Definitions.
use Rattle.std.specs.Prelude.{ℕ, ◌/◌, ◌^◌, false, Float}
use Rattle.std.specs.Float.{binary64}
use Rattle.std.specs.Float.Ieee.{round}

-- Document 01, 'Tree': 'A random word w (64 bits) is the factor (w shifted right by 11) × 2^−53.' It is a value of f64, so nothing is rounded,
-- and below 1: `factor_value` and `factor_below` in proofs/Words.antt.
unfoldable pub factor_of : ℕ → Float
unfolding round
factor_of w = round binary64 false (w / 2 ^ 11) (2 ^ 53)
