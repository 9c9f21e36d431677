-- `get_fill_fraction` meets its contract: each branch is what its test selects. Assumes nothing.
use borrow.Author.Rules.{rules}
use borrow.Author.Tests.{eq-eqb, ne_eqb}
use lib.Ieee.{of_bits}
use Rattle.startingchance.specs.Chance.{fill_fraction}
use Rattle.startingchance.proofs.get_fill_fraction.Goals as goal

pub returns-then-current_size-capacity : goal.returns-then-current_size-capacity
unfolding fill_fraction of_bits
returns-then-current_size-capacity c = rw (eq-eqb c.args.current_size c.args.capacity c.if-current_size-capacity.true)

pub returns : goal.returns
unfolding fill_fraction
returns c = rw (ne_eqb c.args.current_size c.args.capacity c.if-current_size-capacity.false)
