-- `archiverow::is_arrival` meets its contract. Assumes nothing.
use Rattle.std.proofs.Common.{not, ap, ◌∙◌}
use Rattle.archiverow.proofs.Rows.{arrival_none, arrival_one, arrival_bad, arrival_words, arrival_named}
use Rattle.archiverow.proofs.is_arrival.Goals as goal

pub returns-then-row-start : goal.returns-then-row-start
returns-then-row-start c = arrival_none _ _ c.if-row-start.true

pub returns-then-end-row : goal.returns-then-end-row
returns-then-end-row c = arrival_one _ _ c.if-row-start.false c.piece_end-end.ensures c.if-end-row.true

pub returns-then-is_none : goal.returns-then-is_none
returns-then-is_none c = arrival_bad _ _ c.if-row-start.false c.piece_end-end.ensures c.if-end-row.false (rw (← c.read_bits.ensures) (c.is_none.ensures ∙ ap not c.if-is_none.true))

pub returns-then-all_words : goal.returns-then-all_words
returns-then-all_words c = arrival_words _ _ c.if-row-start.false c.piece_end-end.ensures c.if-end-row.false (rw (← c.read_bits.ensures) (c.is_none.ensures ∙ ap not c.if-is_none.false)) c.all_words.ensures c.if-all_words.true

pub returns : goal.returns
returns c = c.is_named.ensures ∙ arrival_named _ _ c.if-row-start.false c.piece_end-end.ensures c.if-end-row.false (rw (← c.read_bits.ensures) (c.is_none.ensures ∙ ap not c.if-is_none.false)) c.all_words.ensures c.if-all_words.false
