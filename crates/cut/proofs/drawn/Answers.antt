-- `drawn` meets its contract. Assumes nothing.
use Rattle.cut.specs.Draw.{drawn_at}
use Rattle.cut.proofs.drawn.Goals as goal

pub returns : goal.returns
unfolding drawn_at
returns c = rw (← c.least_of.ensures, ← c.greatest_of.ensures, ← c.place-value.ensures, ← c.separates-parts.ensures)
