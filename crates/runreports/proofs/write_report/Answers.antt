-- `runreports::write_report` meets its contract. Assumes nothing.
use Rattle.runreports.proofs.Rows.{report_put}
use Rattle.runreports.proofs.write_report.Goals as goal

pub returns : goal.returns
returns c = let s = c.args in
    report_put s.answer s.rows.now s.n s.out s.answers.now _ _ _ _ _ c.unwrap_or-count.ensures c.refusal_of.ensures c.put_u32.ensures c.put_u32-2.ensures c.write_rows.ensures
