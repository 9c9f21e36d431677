-- `archiverow::read_line` meets its contract. Assumes nothing.
use Rattle.archiverow.proofs.Rows.{too_long, line_one, line_two}
use Rattle.archiverow.proofs.read_line.Goals as goal

pub returns-then-row-gt-LONGEST : goal.returns-then-row-gt-LONGEST
returns-then-row-gt-LONGEST c = too_long _ c.if-row-gt-LONGEST.true

pub returns-then-first-row : goal.returns-then-first-row
returns-then-first-row c = line_one _ c.if-row-gt-LONGEST.false c.piece_end-first.ensures c.if-first-row.true

pub returns-in_default : goal.returns-in_default
returns-in_default c = line_two _ c.if-row-gt-LONGEST.false c.piece_end-first.ensures c.if-first-row.false c.piece_end-second.ensures c.read_number.ensures (rw c.in_default.is)

pub returns : goal.returns
returns c = line_two _ c.if-row-gt-LONGEST.false c.piece_end-first.ensures c.if-first-row.false c.piece_end-second.ensures c.read_number.ensures (rw c.in-Some.is c.line_by_op.ensures)
