-- `little::float_of` meets its contract: a pattern above infinity's, but for the sign, is NaN's. Assumes nothing.
use mathlib.Core.Path.{◌≡◌, refl, ◌∙◌}
use lib.Ieee.{nan, binary32, of_bits}
use Rattle.little.proofs.Patterns.{above, within}
use Rattle.little.proofs.float_of.Goals as goal

none : of_bits binary32 2143289344 ≡ nan
unfolding of_bits
none = refl

pub returns-then-bits-gt-INFINITE : goal.returns-then-bits-gt-INFINITE
returns-then-bits-gt-INFINITE c = none ∙ above binary32 c.args.bits c.if-bits-gt-INFINITE.true

pub float_from_bits-result : goal.float_from_bits-result
float_from_bits-result c = within binary32 c.args.bits c.if-bits-gt-INFINITE.false
