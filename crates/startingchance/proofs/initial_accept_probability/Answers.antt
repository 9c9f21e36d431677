-- `initial_accept_probability` meets its contract: each branch is what its tests select. Assumes nothing.
use lib.Ieee.{of_bits}
use Rattle.startingchance.specs.Chance.{chance_of}
use Rattle.startingchance.proofs.initial_accept_probability.Goals as goal

pub returns-then-fill_fraction-initial_accept_fraction : goal.returns-then-fill_fraction-initial_accept_fraction
unfolding chance_of of_bits
returns-then-fill_fraction-initial_accept_fraction c = rw c.if-fill_fraction-initial_accept_fraction.true

pub returns-then-initial_accept_fraction : goal.returns-then-initial_accept_fraction
unfolding chance_of of_bits
returns-then-initial_accept_fraction c = rw (c.if-fill_fraction-initial_accept_fraction.false, c.if-initial_accept_fraction.true)

pub returns : goal.returns
unfolding chance_of of_bits
returns c = rw (c.if-fill_fraction-initial_accept_fraction.false, c.if-initial_accept_fraction.false)
