-- `answer_floats` meets its contract: after i turns the first i answers stand. Assumes nothing.
use mathlib.Core.Path.{◌∙◌}
use Rattle.lines.proofs.Writes.{long}
use Rattle.recorded.proofs.Values.{valued_none, valued_next, valued_all, value_same}
use Rattle.recorded.proofs.floats.answer_floats.Goals as goal

pub loop-i-init : goal.loop-i-init
loop-i-init c = valued_none _ _ _

pub loop-i-preserved : goal.loop-i-preserved
loop-i-preserved c = valued_next c.loop-i.invariant c.loop-i-test.true _ _ _ (c.value_of.ensures ∙ value_same _ _ _ _ _ c.u64_at-bits.ensures c.u16_at-capacity.ensures) c.put_double-p.ensures.wrote c.put_double-p.ensures.next

pub shape_of-out : goal.shape_of-out
shape_of-out c = long c.loop-i.invariant.wrote

pub returns : goal.returns
returns c = valued_all c.loop-i.invariant c.loop-i-test.false
