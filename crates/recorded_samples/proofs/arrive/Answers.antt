use mathlib.Core.Path.{refl}
use lib.Ieee.{of_bits}
use Rattle.recorded_samples.proofs.Arrivals.{roomy, arrives_some, arrives_none}
use Rattle.recorded_samples.proofs.arrive.Goals as goal

pub admit-requires : goal.admit-requires
admit-requires c = roomy _ _ _ _ c.is_initial-initial.ensures refl c.requires.0 c.requires.1 c.if-initial-holds.true

pub returns-then-initial-holds : goal.returns-then-initial-holds
returns-then-initial-holds c = λ ks at. arrives_some _ _ _ _ c.is_initial-initial.ensures refl c.requires.0 c.requires.1 c.args.weight c.args.index ks at c.accepts-accepts.ensures c.if-initial-holds.true c.admit.ensures.answer (c.admit.ensures.slots ks at)

pub returns : goal.returns
unfolding of_bits
returns c = λ ks at. arrives_none _ _ _ _ c.is_initial-initial.ensures refl c.requires.0 c.requires.1 c.args.weight c.args.index ks at c.accepts-accepts.ensures c.if-initial-holds.false
