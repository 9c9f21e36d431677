-- `little::pattern_of` meets its contract: NaN has the pattern that is given to it. Assumes nothing.
use mathlib.Core.Path.{◌≡◌, refl, sym, ◌∙◌}
use lib.Ieee.{nan, binary32, to_bits}
use Rattle.little.proofs.Patterns.{nan_pattern}
use Rattle.little.proofs.pattern_of.Goals as goal

of_nan : 2143289344 ≡ to_bits binary32 nan
unfolding to_bits
of_nan = refl

pub returns-then-is_nan : goal.returns-then-is_nan
returns-then-is_nan c = of_nan ∙ nan_pattern binary32 c.args.x (sym c.is_nan.ensures.value ∙ c.if-is_nan.true)
