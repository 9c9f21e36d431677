-- `side_cut` meets its contract: what is left of the channels gives what all of them give. Assumes nothing.
use Rattle.std.proofs.Common.{sym, ◌∙◌, arith}
use Rattle.limits.specs.Limits.{width}
use Rattle.cut.specs.Draw.{side_of}
use Rattle.cut.proofs.Turns.{turn_ends, turn_goes_on, turns_done}
use Rattle.cut.proofs.side_cut.Goals as goal

pub returns-then-side_reaches : goal.returns-then-side_reaches
unfolding side_of
returns-then-side_reaches c = let l = c.loop-i in
    sym (turn_ends _ width _ _ _ _ (omega arith) c.side_with-side.ensures c.side_reaches.ensures c.if-side_reaches.true) ∙ l.invariant

pub loop-i-preserved : goal.loop-i-preserved
unfolding side_of
loop-i-preserved c = let l = c.loop-i in
    sym (turn_goes_on _ width _ _ _ _ (omega arith) c.side_with-side.ensures c.side_reaches.ensures c.if-side_reaches.false _ c.left_of-rest.ensures) ∙ l.invariant

pub returns : goal.returns
returns c = sym (turns_done _ width _ _ (omega arith)) ∙ c.loop-i.invariant
