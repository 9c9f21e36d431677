-- `text::word_from` meets its contract. Assumes nothing.
use Rattle.text.specs.Numbers.{word_of}
use Rattle.text.proofs.Pieces.{from_first, from_past}
use Rattle.text.proofs.word_from.Goals as goal

pub returns-then-row-start : goal.returns-then-row-start
unfolding word_of
returns-then-row-start c = rw (from_past 32 _ _ c.if-row-start.true)

pub returns : goal.returns
returns c = rw (from_first 32 _ _ _ c.if-row-start.false c.piece_end-end.ensures, ← c.read_word.ensures) c.unwrap_or.ensures
