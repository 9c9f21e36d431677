-- `archiverow::read_chance` meets its contract. Assumes nothing.
use mathlib.Core.Path.{sym, ◌∙◌}
use Rattle.archiverow.proofs.Rest.{chance_named, chance_written}
use Rattle.archiverow.proofs.read_chance.Goals as goal

pub read_chance-requires : goal.read_chance-requires
read_chance-requires c = sym c.is_named.ensures ∙ c.if-is_named.true

pub returns-then-is_named : goal.returns-then-is_named
returns-then-is_named c = chance_named _ _ _ c.after_field-at.ensures.fields c.is_named.ensures c.if-is_named.true c.read_chance.ensures

pub returns : goal.returns
returns c = chance_written _ _ _ c.after_field-at.ensures.fields c.is_named.ensures c.if-is_named.false c.word_from.ensures
