-- `boundingbox::and_stays` meets its contract: it is the definition's test. Assumes nothing.
use mathlib.Core.Path.{refl}
use Rattle.boundingbox.specs.Contained.{stays}
use Rattle.boundingbox.proofs.and_stays.Goals as goal

pub returns : goal.returns
unfolding stays
returns c = refl
