-- `runreports::put_row` meets its contract. Assumes nothing.
use Rattle.runreports.proofs.Rows.{five_put}
use Rattle.runreports.proofs.put_row.Goals as goal

pub returns : goal.returns
returns c = let s = c.args in
    five_put s.out s.row s.answers.now _ _ _ _ _ _ _ _ _ _ c.wide64.ensures c.wide64-2.ensures c.wide64-3.ensures c.wide64-4.ensures c.wide64-5.ensures
    c.put_u32.ensures c.put_u32-2.ensures c.put_u32-3.ensures c.put_u32-4.ensures c.put_u32-5.ensures
