-- `text::after_field` meets its contract. Assumes nothing.
use Rattle.text.proofs.Pieces.{after_none, after_one}
use Rattle.text.proofs.after_field.Goals as goal

pub returns-then-row-start : goal.returns-then-row-start
returns-then-row-start c = let it = after_none _ _ c.if-row-start.true in record { place = it.0; fields = it.1 }

pub returns : goal.returns
returns c = let it = after_one _ _ c.if-row-start.false c.piece_end-end.ensures in record { place = it.0; fields = it.1 }
