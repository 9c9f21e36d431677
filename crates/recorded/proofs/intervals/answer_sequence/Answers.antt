-- `answer_sequence` meets its contract: before each turn the numbers passed are answered. Assumes nothing.
use mathlib.Core.Path.{◌∙◌}
use native.Mathlib.Omega.{arith}
use Rattle.lines.proofs.Writes.{long}
use Rattle.recorded.proofs.Sequences.{sequenced_none, sequenced_start, sequenced_all, no_turns, one_turn}
use Rattle.recorded.proofs.intervals.answer_sequence.Goals as goal

pub returns-then-n-eq0 : goal.returns-then-n-eq0
returns-then-n-eq0 c = sequenced_none _ c.if-n-eq0.true

pub loop-i-init : goal.loop-i-init
loop-i-init c = no_turns c.if-n-eq0.false c.put_call-state.ensures.next

pub turn-state-requires : goal.turn-state-requires
turn-state-requires c = omega (arith, c.loop-i.invariant.few)

pub loop-i-preserved : goal.loop-i-preserved
loop-i-preserved c = one_turn c.loop-i.invariant c.loop-i-test.true c.u16_at-number.ensures c.turn-state.ensures

pub shape_of-out : goal.shape_of-out
shape_of-out c = c.loop-i.invariant.same ∙ long c.put_call-state.ensures.wrote

pub returns : goal.returns
returns c = let start = sequenced_start _ c.if-n-eq0.false c.u16_at.ensures c.new-manager.ensures.answer c.new-manager.ensures.rows_after c.get_capacity.ensures c.put_call-state.ensures in
    sequenced_all _ (c.loop-i.invariant.follows _ start) c.loop-i-test.false
