-- `runreports::row_at` meets its contract. Assumes nothing.
use mathlib.Core.Path.{sym}
use native.Mathlib.Omega.{arith}
use lib.ListN.{get_or-eq_default}
use Rattle.runreports.proofs.Rows.{row_written}
use Rattle.runreports.proofs.row_at.Goals as goal

pub returns-then-i-rows : goal.returns-then-i-rows
returns-then-i-rows c = row_written c.args.rows.now c.args.i _ (omega arith)

pub returns-else-i-rows : goal.returns-else-i-rows
returns-else-i-rows c = sym (get_or-eq_default c.args.rows.now _ (omega arith))
