-- `little::double_of` meets its contract: a pattern above infinity's, but for the sign, is NaN's. Assumes nothing.
use mathlib.Core.Path.{◌≡◌, refl, ◌∙◌}
use lib.Ieee.{nan, binary64, of_bits}
use Rattle.little.proofs.Patterns.{above, within}
use Rattle.little.proofs.double_of.Goals as goal

none : of_bits binary64 9221120237041090560 ≡ nan
unfolding of_bits
none = refl

pub returns-then-bits-gt-INFINITE64 : goal.returns-then-bits-gt-INFINITE64
returns-then-bits-gt-INFINITE64 c = none ∙ above binary64 c.args.bits c.if-bits-gt-INFINITE64.true

pub float_from_bits-result : goal.float_from_bits-result
float_from_bits-result c = within binary64 c.args.bits c.if-bits-gt-INFINITE64.false
