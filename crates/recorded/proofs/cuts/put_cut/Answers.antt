-- `put_cut` meets its contract, by whether there is a cut. Assumes nothing.
use Rattle.recorded.specs.Cuts.{told_cut}
use Rattle.recorded.proofs.cuts.put_cut.Goals as goal

pub returns-in_default : goal.returns-in_default
unfolding told_cut
returns-in_default c = rw c.in_default.is (record { wrote = c.put_three.ensures.wrote; next = c.put_three.ensures.next })

pub returns : goal.returns
unfolding told_cut
returns c = rw c.in-Some.is (record { wrote = rw (c.bit-kind.ensures.0, c.wide32-bits.ensures.0, c.pattern_of.ensures) at c.put_three-2.ensures.wrote; next = c.put_three-2.ensures.next })
