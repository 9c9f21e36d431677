-- `IntervalStoreManager::push` meets its contract, by its one test. Assumes nothing.
use mathlib.Core.Path.{refl}
use borrow.Author.Tests.{lt-ltb, le-ltb}
use Rattle.limits.specs.Limits.{branch_limit}
use Rattle.intervalstoremanager.proofs.IntervalStoreManager.push.Goals as goal

pub returns-then-n-lt-BRANCHES : goal.returns-then-n-lt-BRANCHES
returns-then-n-lt-BRANCHES c = let w = c.wide16-n in
    rw (← w.ensures.0, lt-ltb w.result branch_limit c.if-n-lt-BRANCHES.true) (record { answer = refl; rows_after = refl })

pub returns : goal.returns
returns c = let w = c.wide16-n in
    rw (← w.ensures.0, le-ltb w.result branch_limit c.if-n-lt-BRANCHES.false) (record { answer = refl; rows_after = refl })
