-- `form::read_making` meets its contract. Assumes nothing.
use Rattle.std.proofs.Common.{arith}
use Rattle.form.proofs.MakingRow.{making_one, making_two, making_many, making_three}
use Rattle.form.proofs.read_making.Goals as goal

pub returns-then-a-row : goal.returns-then-a-row
returns-then-a-row c = making_one _ c.piece_end-a.ensures c.if-a-row.true

pub returns-then-b-row : goal.returns-then-b-row
returns-then-b-row c = making_two _ c.piece_end-a.ensures c.if-a-row.false c.piece_end-b.ensures c.if-b-row.true

pub returns-then-c-row : goal.returns-then-c-row
returns-then-c-row c = making_many _ c.piece_end-a.ensures c.if-a-row.false c.piece_end-b.ensures c.if-b-row.false c.piece_end-c.ensures (λ e. omega arith)

pub returns-in_err-channels : goal.returns-in_err-channels
returns-in_err-channels c = rw (making_three _ c.piece_end-a.ensures c.if-a-row.false c.piece_end-b.ensures c.if-b-row.false c.piece_end-c.ensures c.if-c-row.false, ← c.read_number.ensures, c.in_err-channels.was, c.from_residual.ensures)

pub returns-in_err-capacity : goal.returns-in_err-capacity
returns-in_err-capacity c = rw (making_three _ c.piece_end-a.ensures c.if-a-row.false c.piece_end-b.ensures c.if-b-row.false c.piece_end-c.ensures c.if-c-row.false, ← c.read_number.ensures, ← c.read_number-2.ensures, c.in_ok-channels.was, c.in_err-capacity.was, c.from_residual-in_err-capacity.ensures)

pub returns-in_err-sixteenths : goal.returns-in_err-sixteenths
returns-in_err-sixteenths c = rw (making_three _ c.piece_end-a.ensures c.if-a-row.false c.piece_end-b.ensures c.if-b-row.false c.piece_end-c.ensures c.if-c-row.false, ← c.read_number.ensures, ← c.read_number-2.ensures, ← c.read_number-3.ensures, c.in_ok-channels.was, c.in_ok-capacity.was, c.in_err-sixteenths.was, c.from_residual-in_err-sixteenths.ensures)

pub returns : goal.returns
returns c = rw (making_three _ c.piece_end-a.ensures c.if-a-row.false c.piece_end-b.ensures c.if-b-row.false c.piece_end-c.ensures c.if-c-row.false, ← c.read_number.ensures, ← c.read_number-2.ensures, ← c.read_number-3.ensures, c.in_ok-channels.was, c.in_ok-capacity.was, c.in_ok-sixteenths.was)
