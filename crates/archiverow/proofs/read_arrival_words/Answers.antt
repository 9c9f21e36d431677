-- `archiverow::read_arrival_words` meets its contract. Assumes nothing.
use mathlib.Core.Path.{sym, ◌∙◌}
use Rattle.archiverow.proofs.Rest.{words_named, words_written}
use Rattle.archiverow.proofs.read_arrival_words.Goals as goal

pub read_words-requires : goal.read_words-requires
read_words-requires c = sym c.is_named.ensures ∙ c.if-is_named.true

pub returns-then-is_named : goal.returns-then-is_named
returns-then-is_named c = let it = words_named _ _ _ c.after_field-chance.ensures.fields c.is_named.ensures _ c.if-is_named.true (c.read_words.ensures.count, c.read_words.ensures.words) in record { value = it.0; words_after = it.1 }

pub returns : goal.returns
returns c = let it = words_written _ _ _ c.after_field-chance.ensures.fields c.is_named.ensures _ c.if-is_named.false _ c.after_field-at.ensures.fields (c.read_words-2.ensures.value, c.read_words-2.ensures.words_after) in record { value = it.0; words_after = it.1 }
