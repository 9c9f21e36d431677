-- `side_with` meets its contract. Assumes nothing.
use Rattle.cut.proofs.side_with.Goals as goal

pub returns : goal.returns
returns c = rw (← c.least_of.ensures, ← c.greatest_of.ensures) c.gap.ensures
