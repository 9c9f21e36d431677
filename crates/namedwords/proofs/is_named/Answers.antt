-- `namedwords::is_named` meets its contract. Assumes nothing.
use mathlib.Core.Path.{◌∙◌}
use Rattle.namedwords.proofs.Fields.{named_none, named_one, named_more, named_not, named_word}
use Rattle.namedwords.proofs.is_named.Goals as goal

pub returns-then-row-start : goal.returns-then-row-start
returns-then-row-start c = named_none _ _ c.if-row-start.true

pub returns-then-end-row : goal.returns-then-end-row
returns-then-end-row c = named_one _ _ c.if-row-start.false c.piece_end-end.ensures c.if-end-row.true

pub returns-then-piece_end-row : goal.returns-then-piece_end-row
returns-then-piece_end-row c = named_more _ _ c.if-row-start.false c.piece_end-end.ensures c.if-end-row.false c.piece_end.ensures c.if-piece_end-row.true

pub returns-then-not-is_key : goal.returns-then-not-is_key
returns-then-not-is_key c = named_not _ _ c.if-row-start.false c.piece_end-end.ensures c.if-end-row.false c.piece_end.ensures c.if-piece_end-row.false c.is_key.ensures c.if-not-is_key.true

pub returns : goal.returns
returns c = c.all_words.ensures ∙ named_word _ _ c.if-row-start.false c.piece_end-end.ensures c.if-end-row.false c.piece_end.ensures c.if-piece_end-row.false c.is_key.ensures c.if-not-is_key.false
