-- `call` meets its contract, by which call it is. Assumes nothing.
use Rattle.recorded.proofs.Sequences.{called_got, called_released}
use Rattle.recorded.proofs.intervals.call.Goals as goal

pub returns-then-number-eq-GET : goal.returns-then-number-eq-GET
returns-then-number-eq-GET c = let it = called_got _ _ _ c.if-number-eq-GET.true c.get.ensures.answer c.after_get.ensures c.get.ensures.rows_after in record { answer = it.0; rows_after = it.1 }

pub returns : goal.returns
returns c = let it = called_released _ _ _ c.if-number-eq-GET.false c.release.ensures.answer c.after_release.ensures c.release.ensures.rows_after in record { answer = it.0; rows_after = it.1 }
