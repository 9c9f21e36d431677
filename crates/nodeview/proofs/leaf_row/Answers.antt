-- `leaf_row` meets its contract: each answer of the test is one case of the chance. Assumes nothing.
use lib.Ieee.{of_bits}
use Rattle.nodeview.proofs.leaf_row.Goals as goal

pub same_point-requires : goal.same_point-requires
same_point-requires c = record { narrow = c.requires.narrow; padded = (c.requires.padded.0.rest, c.requires.padded.1.rest) }

pub returns-then-same_point : goal.returns-then-same_point
unfolding of_bits
returns-then-same_point c = rw (← c.same_point.ensures, c.if-same_point.true) c.numbers_of.ensures

pub returns : goal.returns
unfolding of_bits
returns c = rw (← c.same_point.ensures, c.if-same_point.false) c.numbers_of-2.ensures
