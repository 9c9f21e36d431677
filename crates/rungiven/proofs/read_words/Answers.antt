-- `rungiven::read_words` meets its contract: after i turns the first i stand. Assumes nothing.
use native.Mathlib.Omega.{arith}
use Rattle.rungiven.proofs.Firsts.{firsts_none, firsts_turn, firsts_all}
use Rattle.rungiven.proofs.read_words.Goals as goal

pub loop-i-init : goal.loop-i-init
loop-i-init c = firsts_none _ _

pub loop-i-preserved : goal.loop-i-preserved
loop-i-preserved c = firsts_turn _ _ _ _ _ c.loop-i.invariant c.double_at.ensures

pub returns : goal.returns
returns c = firsts_all _ _ _ _ c.loop-i.invariant (omega arith)
