-- `set_after` meets its contract, within the line and beyond it. Assumes nothing.
use mathlib.Core.Path.{sym}
use native.Mathlib.Omega.{arith}
use lib.Seq.{set_out}
use Rattle.lines.proofs.set_after.Goals as goal
use Rattle.lines.proofs.set_after.Goals.{else-at-out-via-then-at-out+else-count-out, else-at-out-via-else-at-out}

pub returns-else-at-out : goal.returns-else-at-out
returns-else-at-out c = elim c.else-at-out.branch [
  | else-at-out-via-then-at-out+else-count-out w ↦ sym (set_out _ _ _ (omega arith))
  | else-at-out-via-else-at-out w ↦ sym (set_out _ _ _ (omega arith))
]
