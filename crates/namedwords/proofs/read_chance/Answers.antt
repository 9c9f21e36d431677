-- `namedwords::read_chance` meets its contract. Assumes nothing.
use Rattle.namedwords.proofs.Words.{had, chance_none, chance_is}
use borrow.Author.Rules.{rules}
use Rattle.namedwords.proofs.read_chance.Goals as goal

pub returns-then-is_beyond : goal.returns-then-is_beyond
returns-then-is_beyond c = chance_none _ c.requires c.is_beyond.ensures c.if-is_beyond.true

pub fill_from-requires : goal.fill_from-requires
fill_from-requires c = record { named = c.requires; had = had _ c.requires c.is_beyond.ensures c.if-is_beyond.false; within = (search rules, search rules) }

pub returns : goal.returns
returns c = chance_is _ c.requires c.is_beyond.ensures c.if-is_beyond.false c.fill_from.ensures
