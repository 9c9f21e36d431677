-- `BoundingBox::unmoved` meets its contract: after i turns `held` tells of the first i channels. Assumes nothing.
use mathlib.Core.Path.{refl}
use Rattle.boundingbox.specs.Contained.{every}
use Rattle.boundingbox.proofs.Every.{every_next}
use Rattle.boundingbox.proofs.BoundingBox.unmoved.Goals as goal

pub loop-i-init : goal.loop-i-init
unfolding every
loop-i-init c = refl

pub loop-i-preserved : goal.loop-i-preserved
loop-i-preserved c = rw (every_next, c.and_stays-held.ensures, c.loop-i.invariant)
