-- `wholes` meets its contract: the sides that are not worked out are of padding. Assumes nothing.
use Rattle.limits.specs.Limits.{width}
use Rattle.cut.proofs.Padding.{padded_side}
use Rattle.cut.proofs.Sums.{sides_all}
use Rattle.cut.proofs.whole.wholes.Goals as goal

pub returns-then-dimensions-le8 : goal.returns-then-dimensions-le8
returns-then-dimensions-le8 c = sides_all _ _ 8 c.wholes_to.result c.wholes_to.ensures c.if-dimensions-le8.true (padded_side _ width _ _ _ c.requires.padded)

pub returns-then-dimensions-le16 : goal.returns-then-dimensions-le16
returns-then-dimensions-le16 c = sides_all _ _ 16 c.wholes_to-then-dimensions-le16.result c.wholes_to-then-dimensions-le16.ensures c.if-dimensions-le16.true (padded_side _ width _ _ _ c.requires.padded)

pub returns : goal.returns
returns c = let Z = c.requires.padded in sides_all _ _ width c.wholes_to-2.result c.wholes_to-2.ensures Z.fewer (padded_side _ width _ _ _ Z)
