-- `archivelines::put_report` meets its contract. Assumes nothing.
use native.Mathlib.Omega.{arith}
use Rattle.lines.proofs.Writes.{long}
use Rattle.archivelines.proofs.Answers.{row_step, row_end}
use Rattle.archivelines.proofs.put_report.Goals as goal

pub bounds-rows-i : goal.bounds-rows-i
bounds-rows-i c = omega (arith, c.loop-i-test.true, c.at_most-n.ensures)

pub put_report_row-p-requires : goal.put_report_row-p-requires
put_report_row-p-requires c = omega (arith, c.loop-i.invariant.few, c.loop-i.invariant.within, c.loop-i-test.true, c.at_most-n.ensures, c.requires)

pub loop-i-preserved : goal.loop-i-preserved
loop-i-preserved c = row_step c.loop-i.invariant c.loop-i-test.true (omega (arith, c.at_most-n.ensures)) c.put_report_row-p.ensures.wrote c.put_report_row-p.ensures.few

pub shape_of-out : goal.shape_of-out
shape_of-out c = long c.loop-i.invariant.wrote

pub returns : goal.returns
returns c = record { wrote = row_end _ c.loop-i.invariant c.loop-i-test.false c.at_most-n.ensures; few = omega (arith, c.loop-i.invariant.few, c.loop-i.invariant.within, c.at_most-n.ensures, c.requires.1) }
