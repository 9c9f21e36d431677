-- `put_heap` meets its contract: after k turns the first k slots stand. Assumes nothing.
use mathlib.Core.Path.{◌∙◌}
use Rattle.lines.proofs.Writes.{long}
use Rattle.recorded_samples.proofs.Heaps.{heaped_none, heaped_next, heaped_all}
use Rattle.recorded_samples.proofs.put_heap.Goals as goal

pub loop-k-init : goal.loop-k-init
loop-k-init c = heaped_none _ _ _ _ _

pub loop-k-preserved : goal.loop-k-preserved
loop-k-preserved c = heaped_next c.loop-k.invariant c.loop-k-test.true (c.wide32.ensures.0 ∙ c.pattern_of.ensures) c.wide16.ensures.0 c.put_word-p.ensures.wrote c.put_word-p-in-loop-k.ensures.wrote c.put_word-p.ensures.next c.put_word-p-in-loop-k.ensures.next

pub shape_of-out : goal.shape_of-out
shape_of-out c = long c.loop-k.invariant.wrote

pub returns : goal.returns
returns c = let it = heaped_all c.loop-k.invariant c.loop-k-test.false in record { wrote = it.0; next = it.1 }
