-- `turn` meets its contract, by whether the rows are looked at. Assumes nothing.
use Rattle.recorded.proofs.Sequences.{turn_look, turn_call}
use Rattle.recorded.proofs.intervals.turn.Goals as goal

pub returns-then-number-eq-ROWS : goal.returns-then-number-eq-ROWS
returns-then-number-eq-ROWS c = turn_look _ _ _ c.if-number-eq-ROWS.true (c.put_rows.ensures.wrote, c.put_rows.ensures.next)

pub returns : goal.returns
returns c = turn_call _ _ _ c.if-number-eq-ROWS.false c.call.ensures.answer c.call.ensures.rows_after c.put_call.ensures
