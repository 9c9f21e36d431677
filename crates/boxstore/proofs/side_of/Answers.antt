-- `side_of` meets its contract. Assumes nothing.
use borrow.Author.Rules.{rules}
use Rattle.boxstore.proofs.side_of.Goals as goal

pub returns : goal.returns
returns c = c.wide16.ensures.0
