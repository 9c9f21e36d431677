-- `boundingbox::and_inside` meets its contract: it is the definition's test. Assumes nothing.
use mathlib.Core.Path.{refl}
use Rattle.boundingbox.specs.Contained.{inside}
use Rattle.boundingbox.proofs.and_inside.Goals as goal

pub returns : goal.returns
unfolding inside
returns c = refl
