-- `sum_of` meets its contract: after i turns the sum is what that of all channels grows by in i of them. Assumes nothing.
use native.Mathlib.Omega.{arith}
use Rattle.boundingbox.proofs.Sums.{sum_turn}
use Rattle.boundingbox.proofs.sum_of.Goals as goal

pub loop-i-preserved : goal.loop-i-preserved
loop-i-preserved g c = record {
  few = omega (arith, c.requires.small _ _ (omega arith) c.of-sum.ensures);
  grows = λ f says. sum_turn f _ c.loop-i.i _ _ (c.loop-i.invariant.grows f says) (says _ _ (omega arith) c.of-sum.ensures);
}
