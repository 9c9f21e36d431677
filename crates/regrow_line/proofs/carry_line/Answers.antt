-- `regrow_line::carry_line` meets its contract. Assumes nothing.

use Rattle.regrow_line.proofs.Lines.{line_done}
use Rattle.regrow_line.proofs.carry_line.Goals as goal

pub call_row-next-requires : goal.call_row-next-requires
call_row-next-requires c = (c.read_line-read.ensures, c.requires.stands)

pub write_answer-end-requires : goal.write_answer-end-requires
write_answer-end-requires c = c.requires.near

pub returns : goal.returns
returns c = record { carries = line_done c.args.line.now _ c.args.number c.args.at c.args.tree c.args.store.now c.args.table.now.points c.args.table.now.written c.args.sample.now.weights c.args.sample.now.held c.args.rows.now c.args.out.now _ _ _ _ _ _ _ _ _ _ _ c.read_line-read.ensures c.call_row-next.ensures c.write_answer-end.ensures.wrote c.in_form-goes_on.ensures; fits = c.write_answer-end.ensures.fits }
