-- `arrivals::enter` meets its contract. Assumes nothing.
use mathlib.Core.Path.{refl}
use lib.ListN.{length}
use Rattle.arrivals.proofs.Arrived.{enter_does}
use Rattle.arrivals.proofs.enter.Goals as goal

pub returns : goal.returns
returns c = let s = c.args in
    enter_does _ _ _ _ _ _ s.index s.weight _ _ _ _ _ _ _ (length s.words.now) (refl, c.enter-answer.ensures) c.head_updated-next.ensures c.tell_update.ensures
