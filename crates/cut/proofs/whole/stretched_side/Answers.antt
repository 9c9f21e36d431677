-- `stretched_side` meets its contract. Assumes nothing.
use Rattle.std.proofs.Common.{◌∙◌}
use Rattle.cut.proofs.whole.stretched_side.Goals as goal

pub whole_side-requires : goal.whole_side-requires
whole_side-requires c = rw (c.least_of.ensures, c.greatest_of.ensures) c.requires

pub returns : goal.returns
returns c = c.whole_side.ensures ∙ rw (c.least_of.ensures, c.greatest_of.ensures)
