use native.Mathlib.Omega.{arith}
use Rattle.lines.proofs.Writes.{long}
use Rattle.recorded_samples.proofs.Samples.{sequenced_start, sequenced_none, sequenced_large, sequenced_all, sequenced_next}
use Rattle.recorded_samples.proofs.answer_sample.Goals as goal

pub returns-then-n-eq0 : goal.returns-then-n-eq0
returns-then-n-eq0 c = sequenced_none _ c.if-n-eq0.true

pub returns-then-wide16-gt-CAPACITY : goal.returns-then-wide16-gt-CAPACITY
returns-then-wide16-gt-CAPACITY c = sequenced_large _ c.if-n-eq0.false c.wide16.ensures.0 c.u16_at-capacity.ensures c.if-wide16-gt-CAPACITY.true

pub loop-i-init : goal.loop-i-init
loop-i-init c = sequenced_start _ c.if-n-eq0.false c.wide16.ensures.0 c.u16_at-capacity.ensures c.if-wide16-gt-CAPACITY.false c.new-sampler.ensures.made c.new-sampler.ensures.weights_after c.new-sampler.ensures.points_after

pub turn-state-requires : goal.turn-state-requires
turn-state-requires c = (omega (arith, c.loop-i.invariant.few), c.loop-i.invariant.fits, rw c.loop-i.invariant.capacity_is c.loop-i.invariant.room)

pub loop-i-preserved : goal.loop-i-preserved
loop-i-preserved c = sequenced_next c.loop-i.invariant c.loop-i-test.true (rw c.u64_at.ensures at c.double_of-share.ensures) c.u64_at-word.ensures (rw c.u32_at.ensures at c.float_of-weight.ensures) c.u16_at-index.ensures c.turn-state.ensures

pub shape_of-out : goal.shape_of-out
shape_of-out c = long c.loop-i.invariant.wrote

pub returns : goal.returns
returns c = sequenced_all _ c.loop-i.invariant c.loop-i-test.false
