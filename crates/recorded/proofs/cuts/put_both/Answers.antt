-- `put_both` meets its contract: both ways draw one cut. Assumes nothing.
use Rattle.lines.proofs.Writes.{then}
use Rattle.cut.proofs.Padding.{none_padded}
use Rattle.recorded.proofs.cuts.put_both.Goals as goal

pub whole_cut_and_separation-whole-requires : goal.whole_cut_and_separation-whole-requires
whole_cut_and_separation-whole-requires c = record { readings = c.requires; padded = none_padded _ _ _ _ }

pub returns : goal.returns
returns c = then (rw c.random_cut_and_separation-any.ensures at c.put_cut-p.ensures.wrote) (rw c.whole_cut_and_separation-whole.ensures at c.put_cut.ensures.wrote)
