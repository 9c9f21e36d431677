-- `row_of` meets its contract: after i turns the first i entries stand. Assumes nothing.
use native.Mathlib.Omega.{arith}
use mathlib.Core.Path.{refl}
use Prim.Native.Nat.{zero-le}
use Rattle.limits.specs.Limits.{width}
use Rattle.pointstore.proofs.Rows.{fill_turn, padded_is}
use Rattle.pointstore.proofs.row_of.Goals as goal

pub loop-i-init : goal.loop-i-init
loop-i-init c = record { within = zero-le; long = refl; entries = λ k l. absurd (omega arith) }

pub bounds-row-i : goal.bounds-row-i
bounds-row-i c = omega (arith, c.loop-i.invariant.long)

pub loop-i-preserved : goal.loop-i-preserved
loop-i-preserved c = fill_turn _ width _ _ c.loop-i.invariant (omega arith) _ c.coordinate_at.ensures

pub returns : goal.returns
returns c = padded_is _ _ _ c.loop-i-test.false c.loop-i.invariant
