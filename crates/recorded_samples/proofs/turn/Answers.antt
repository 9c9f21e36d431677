-- `turn` meets its contract, by whether the heap is looked at, an entry evicted, or neither. Assumes nothing.
use Rattle.recorded_samples.proofs.Samples.{turn_look, turn_evict, turn_arrival}
use Rattle.recorded_samples.proofs.turn.Goals as goal

pub returns-then-index-eq-LOOK : goal.returns-then-index-eq-LOOK
returns-then-index-eq-LOOK c = λ ks at. turn_look _ _ _ _ _ _ c.requires.1 c.requires.2 at c.if-index-eq-LOOK.true c.wide16.ensures.0 (c.put_heap.ensures.wrote, c.put_heap.ensures.next)

pub returns-then-index-eq-EVICT : goal.returns-then-index-eq-EVICT
returns-then-index-eq-EVICT c = λ ks at. turn_evict _ _ _ _ _ _ c.requires.1 c.requires.2 at c.chance_of-chance.ensures c.if-index-eq-EVICT.true (c.evict.ensures ks at) c.put_arrived.ensures

pub returns : goal.returns
returns c = λ ks at. turn_arrival _ _ _ _ _ _ c.requires.1 c.requires.2 at c.chance_of-chance.ensures c.if-index-eq-LOOK.false c.if-index-eq-EVICT.false (c.arrive-arrived.ensures ks at) c.put_arrived-2.ensures
