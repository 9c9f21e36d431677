-- `check_put` meets its contract. Assumes nothing.
use mathlib.Core.Path.{sym}
use Rattle.std.proofs.lemmas.Result.{err_from_is_err_and}
use Rattle.pointstore.proofs.Refusals.{index_refused, point_refused, leaf_refused, none_refused}
use Rattle.pointstore.proofs.check_put.Goals as goal

pub returns-then-index-ge-POINTS : goal.returns-then-index-ge-POINTS
returns-then-index-ge-POINTS c = sym (index_refused _ _ _ _ c.if-index-ge-POINTS.true)

pub returns-in_err-check_point : goal.returns-in_err-check_point
returns-in_err-check_point c = let p = err_from_is_err_and c.from_residual.result c.from_residual.ensures.1 in rw (p.1, p.2) (sym (point_refused _ _ _ _ c.if-index-ge-POINTS.false _ (sym c.in_err-check_point.ensures)))

pub returns-then-copies-index-gt0 : goal.returns-then-copies-index-gt0
returns-then-copies-index-gt0 c = sym (leaf_refused _ _ _ _ c.if-index-ge-POINTS.false (sym c.in_ok-check_point.ensures) c.if-copies-index-gt0.true)

pub returns : goal.returns
returns c = sym (none_refused _ _ _ _ c.if-index-ge-POINTS.false (sym c.in_ok-check_point.ensures) c.if-copies-index-gt0.false)
