-- `regrow_line::write_answer` meets its contract. Assumes nothing.
use Rattle.regrow_line.proofs.write_answer.Goals as goal

pub returns-clause-wrote : goal.returns-clause-wrote
returns-clause-wrote c = rw (← c.asks_of.ensures) c.put_answer.ensures.wrote
