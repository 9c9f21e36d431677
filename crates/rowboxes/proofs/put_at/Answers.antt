-- `put_at` meets its contract: after j turns the first j of the block are written. Assumes nothing.
use borrow.Author.Rules.{rules}
use native.Mathlib.Omega.{arith}
use mathlib.Core.Path.{◌≡◌, refl}
use Rattle.rowboxes.proofs.Rows.{put_none, put_turn}
use Rattle.rowboxes.proofs.put_at.Goals as goal

pub loop-j-init : goal.loop-j-init
loop-j-init c = put_none _ _ _

pub loop-j-preserved : goal.loop-j-preserved
loop-j-preserved c = let at = c.loop-j in put_turn _ at.j _ _ at.row _ (omega arith) at.invariant refl
