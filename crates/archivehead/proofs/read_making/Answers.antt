-- `archivehead::read_making` meets its contract. Assumes nothing.
use Rattle.archivehead.proofs.Making.{making_one, making_two, making_three, making_many, making_four}
use native.Mathlib.Omega.{arith}
use Rattle.archivehead.proofs.read_making.Goals as goal

pub returns-then-a-line : goal.returns-then-a-line
returns-then-a-line c = making_one _ c.piece_end-a.ensures c.if-a-line.true

pub returns-then-b-line : goal.returns-then-b-line
returns-then-b-line c = making_two _ c.piece_end-a.ensures c.if-a-line.false c.piece_end-b.ensures c.if-b-line.true

pub returns-then-c-line : goal.returns-then-c-line
returns-then-c-line c = making_three _ c.piece_end-a.ensures c.if-a-line.false c.piece_end-b.ensures c.if-b-line.false c.piece_end-c.ensures c.if-c-line.true

pub returns-then-d-line : goal.returns-then-d-line
returns-then-d-line c = making_many _ c.piece_end-a.ensures c.if-a-line.false c.piece_end-b.ensures c.if-b-line.false c.piece_end-c.ensures c.if-c-line.false c.piece_end-d.ensures (λ e. omega arith)

pub returns-in_err-channels : goal.returns-in_err-channels
returns-in_err-channels c = rw (making_four _ c.piece_end-a.ensures c.if-a-line.false c.piece_end-b.ensures c.if-b-line.false c.piece_end-c.ensures c.if-c-line.false c.piece_end-d.ensures c.if-d-line.false, ← c.read_number.ensures, c.in_err-channels.was, c.from_residual.ensures)

pub returns-in_err-capacity : goal.returns-in_err-capacity
returns-in_err-capacity c = rw (making_four _ c.piece_end-a.ensures c.if-a-line.false c.piece_end-b.ensures c.if-b-line.false c.piece_end-c.ensures c.if-c-line.false c.piece_end-d.ensures c.if-d-line.false, ← c.read_number.ensures, ← c.read_number-2.ensures, c.in_ok-channels.was, c.in_err-capacity.was, c.from_residual-in_err-capacity.ensures)

pub returns-in_err-cached : goal.returns-in_err-cached
returns-in_err-cached c = rw (making_four _ c.piece_end-a.ensures c.if-a-line.false c.piece_end-b.ensures c.if-b-line.false c.piece_end-c.ensures c.if-c-line.false c.piece_end-d.ensures c.if-d-line.false, ← c.read_number.ensures, ← c.read_number-2.ensures, ← c.read_number-3.ensures, c.in_ok-channels.was, c.in_ok-capacity.was, c.in_err-cached.was, c.from_residual-in_err-cached.ensures)

pub returns-in_err-initial : goal.returns-in_err-initial
returns-in_err-initial c = rw (making_four _ c.piece_end-a.ensures c.if-a-line.false c.piece_end-b.ensures c.if-b-line.false c.piece_end-c.ensures c.if-c-line.false c.piece_end-d.ensures c.if-d-line.false, ← c.read_number.ensures, ← c.read_number-2.ensures, ← c.read_number-3.ensures, ← c.read_number-4.ensures, c.in_ok-channels.was, c.in_ok-capacity.was, c.in_ok-cached.was, c.in_err-initial.was, c.from_residual-in_err-initial.ensures)

pub returns : goal.returns
returns c = rw (making_four _ c.piece_end-a.ensures c.if-a-line.false c.piece_end-b.ensures c.if-b-line.false c.piece_end-c.ensures c.if-c-line.false c.piece_end-d.ensures c.if-d-line.false, ← c.read_number.ensures, ← c.read_number-2.ensures, ← c.read_number-3.ensures, ← c.read_number-4.ensures, c.in_ok-channels.was, c.in_ok-capacity.was, c.in_ok-cached.was, c.in_ok-initial.was)
