-- `runreports::write_rows` meets its contract. Assumes nothing.
use native.Mathlib.Omega.{arith}
use Rattle.runreports.proofs.Rows.{same_answers, row_turn, rows_all}
use Rattle.runreports.proofs.write_rows.Goals as goal

pub put_row-requires : goal.put_row-requires
put_row-requires c = omega (arith, c.requires, c.loop-i-test.true, same_answers c.args.rows.now c.args.out c.loop-i.i c.args.answers.now c.loop-i.answers c.loop-i.invariant)

pub loop-i-preserved : goal.loop-i-preserved
loop-i-preserved c = row_turn c.args.rows.now c.args.out c.loop-i.i c.args.answers.now c.loop-i.answers c.loop-i.invariant _ _ c.row_at.ensures c.put_row.ensures

pub returns : goal.returns
returns c = rows_all c.args.rows.now c.args.out c.loop-i.i c.args.answers.now c.loop-i.answers c.loop-i.invariant c.args.n (omega arith) (omega arith)
