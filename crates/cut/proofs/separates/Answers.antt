-- `separates` meets its contract. Assumes nothing.
use Rattle.cut.specs.Draw.{parts}
use Rattle.cut.proofs.separates.Goals as goal

pub returns-then-cuts_between : goal.returns-then-cuts_between
unfolding parts
returns-then-cuts_between c = rw (← c.cuts_between.ensures, c.if-cuts_between.true)

pub returns : goal.returns
unfolding parts
returns c = rw (← c.cuts_between.ensures, c.if-cuts_between.false) c.cuts_between-2.ensures
