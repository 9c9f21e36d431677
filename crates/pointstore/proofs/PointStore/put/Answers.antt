-- `PointStore::put` meets its contract. Assumes nothing.
use mathlib.Core.Path.{sym}
use native.Mathlib.Omega.{arith}
use Rattle.std.proofs.lemmas.Result.{err_from_is_err_and}
use Rattle.pointstore.proofs.Refusals.{taken_below, puts_refused, puts_written}
use Rattle.pointstore.proofs.PointStore.put.Goals as goal

pub returns-in_err-check_put : goal.returns-in_err-check_put
returns-in_err-check_put c = let p = err_from_is_err_and c.from_residual.result c.from_residual.ensures.1 in rw (p.1, p.2) (puts_refused _ _ _ _ _ _ _ c.in_err-check_put.ensures)

pub offset_bounds-self-index : goal.offset_bounds-self-index
offset_bounds-self-index c = omega (arith, taken_below _ _ _ _ (sym c.in_ok-check_put.ensures))

pub bounds-self-index : goal.bounds-self-index
bounds-self-index c = taken_below _ _ _ _ (sym c.in_ok-check_put.ensures)

pub bounds-self-index-2 : goal.bounds-self-index-2
bounds-self-index-2 c = taken_below _ _ _ _ (sym c.in_ok-check_put.ensures)

pub returns : goal.returns
returns c = puts_written _ _ _ _ _ _ c.in_ok-check_put.ensures _ c.row_of.ensures
