-- `form::check_rows` meets its contract. Assumes nothing.
use Rattle.form.proofs.Lines.{count_start, count_end, count_tail, count_bad, count_step}
use Rattle.form.proofs.check_rows.Goals as goal

pub loop-start-init : goal.loop-start-init
loop-start-init c = count_start c.requires

pub returns-then-end-at : goal.returns-then-end-at
returns-then-end-at c = count_end c.loop-start.invariant c.piece_end-end.ensures c.if-end-bytes.true c.if-end-at.true

pub returns-then-end-bytes : goal.returns-then-end-bytes
returns-then-end-bytes c = count_tail c.loop-start.invariant c.piece_end-end.ensures c.if-end-bytes.true c.if-end-at.false

pub returns-then-not-is_row : goal.returns-then-not-is_row
returns-then-not-is_row c = count_bad c.loop-start.invariant c.piece_end-end.ensures c.if-end-bytes.false c.is_row.ensures c.if-not-is_row.true

pub loop-start-preserved : goal.loop-start-preserved
loop-start-preserved c = count_step c.loop-start.invariant c.piece_end-end.ensures c.if-end-bytes.false c.is_row.ensures c.if-not-is_row.false
