-- `IntervalStoreManager::new` meets its contract: the rows that it leaves are the layout computed. Assumes nothing.
use mathlib.Core.Path.{refl}
use borrow.Author.Tests.{ne_eqb}
use Rattle.intervalstoremanager.specs.Stack.{fresh}
use Rattle.intervalstoremanager.specs.Rows.{layout, upon}
use Rattle.intervalstoremanager.proofs.IntervalStoreManager.new.Goals as goal

pub returns-then-size-eq0 : goal.returns-then-size-eq0
unfolding fresh layout upon
returns-then-size-eq0 c = rw c.if-size-eq0.true (record { answer = refl; rows_after = refl })

pub returns : goal.returns
unfolding fresh layout upon
returns c = rw (ne_eqb c.args.size 0 c.if-size-eq0.false) (record { answer = refl; rows_after = refl })
