-- `regrow_text::find_head` meets its contract. Assumes nothing.
use Rattle.regrow_text.proofs.Heads.{no_first, no_second, no_third}
use Rattle.regrow_text.proofs.find_head.Goals as goal

pub returns-in_err-first : goal.returns-in_err-first
returns-in_err-first c = rw c.from_residual.ensures (no_first _ c.in_err-first.ensures)

pub returns-in_err-second : goal.returns-in_err-second
returns-in_err-second c = rw c.from_residual-in_err-second.ensures (no_second _ c.in_ok-first.ensures c.in_err-second.ensures)

pub returns-in_err-third : goal.returns-in_err-third
returns-in_err-third c = rw c.from_residual-in_err-third.ensures (no_third _ c.in_ok-first.ensures c.in_ok-second.ensures c.in_err-third.ensures)
