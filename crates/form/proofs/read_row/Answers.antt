-- `form::read_row` meets its contract. Assumes nothing.
use Rattle.form.specs.Rows.{row_by}
use Rattle.form.proofs.Rows.{row_one, row_two}
use Rattle.form.proofs.read_row.Goals as goal

pub returns-then-first-row : goal.returns-then-first-row
returns-then-first-row c = row_one _ c.piece_end-first.ensures c.if-first-row.true

pub returns-in_err-index : goal.returns-in_err-index
returns-in_err-index c = rw (row_two _ c.piece_end-first.ensures c.if-first-row.false c.piece_end-second.ensures, ← c.read_number.ensures, c.in_err-index.was, c.from_residual.ensures)

pub returns-in_err-op : goal.returns-in_err-op
unfolding row_by
returns-in_err-op c = rw (row_two _ c.piece_end-first.ensures c.if-first-row.false c.piece_end-second.ensures, ← c.read_number.ensures, ← c.read_number-2.ensures, c.in_ok-index.was, c.in_err-op.was, c.from_residual-in_err-op.ensures)

pub returns : goal.returns
returns c = rw (row_two _ c.piece_end-first.ensures c.if-first-row.false c.piece_end-second.ensures, ← c.read_number.ensures, ← c.read_number-2.ensures, c.in_ok-index.was, c.in_ok-op.was) c.row_by_op.ensures
