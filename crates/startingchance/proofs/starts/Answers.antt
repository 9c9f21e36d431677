-- `starts` meets its contract: what it compares is what its callees give. Assumes nothing.
use borrow.Author.Rules.{rules}
use Rattle.startingchance.specs.Chance.{starts_by}
use Rattle.startingchance.proofs.starts.Goals as goal

pub returns : goal.returns
unfolding starts_by
returns c = rw (← c.get_fill_fraction-fill_fraction.ensures, ← c.initial_accept_probability-chance.ensures, ← c.factor.ensures)
