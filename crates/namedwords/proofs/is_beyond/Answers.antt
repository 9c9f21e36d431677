-- `namedwords::is_beyond` meets its contract. Assumes nothing.
use mathlib.Core.Path.{sym, ◌∙◌}
use Rattle.namedwords.proofs.Words.{not_beyond, beyond_last}
use Rattle.namedwords.proofs.is_beyond.Goals as goal

pub returns-then-not-is_named : goal.returns-then-not-is_named
returns-then-not-is_named c = not_beyond _ c.is_named.ensures c.if-not-is_named.true

pub returns : goal.returns
returns c = beyond_last _ (sym c.is_named.ensures ∙ c.if-not-is_named.false) c.read_first.ensures
