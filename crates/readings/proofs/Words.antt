-- The factor of a random word is exact, and below 1. Assumes nothing.
use Rattle.std.proofs.Common.{◌≡◌, ℕ, ◌/◌, ◌^◌, ◌<◌, true, false, pos, refl, ◌∙◌, arith, leb→le, pow_pos}
use lib.Ieee.{fin, lt}
use lib.Ieee.Exact.{HasValue}
use Rattle.readings.specs.Word.{factor_of}
use Rattle.readings.proofs.Tests.{leb_yes}
use Rattle.readings.proofs.Values.{scaled_exact, lt_value}

-- the upper 53 bits of a word of 64
pub upper_bits : (w : ℕ) → w < 2 ^ 64 → w / 2 ^ 11 < 2 ^ 53
upper_bits w h = omega arith

-- the factor of a word of 64 bits is its upper 53 bits over 2 ^ 53
pub factor_value : (w : ℕ) → w < 2 ^ 64 → HasValue (factor_of w) false (w / 2 ^ 11) (2 ^ 53)
unfolding factor_of
factor_value w h = scaled_exact (w / 2 ^ 11) 53 (upper_bits w h) (leb→le 53 1074 tt)

-- it is below 1
pub factor_below : (w : ℕ) → w < 2 ^ 64 → lt (factor_of w) (fin false 1 (pos 0)) ≡ true
factor_below w h = lt_value (factor_of w) (fin false 1 (pos 0)) (w / 2 ^ 11) (2 ^ 53) (2 ^ 53) (pow_pos 53) (factor_value w h) (refl, refl) ∙ leb_yes (upper_bits w h)
