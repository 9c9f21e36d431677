-- `IntervalStoreManager::get` meets its contract: each way out is the case of `got_of` and `rows_got` that its tests show.
-- Assumes nothing.
use mathlib.Core.Path.{refl}
use native.Mathlib.Omega.{arith}
use borrow.Author.Tests.{lt-ltb, le-ltb}
use Rattle.intervalstoremanager.specs.Rows.{got_of, rows_got}
use Rattle.intervalstoremanager.proofs.Tests.{is_topped, over_topped}
use Rattle.intervalstoremanager.proofs.IntervalStoreManager.get.Goals as goal

pub returns-then-n-eq0 : goal.returns-then-n-eq0
unfolding got_of rows_got
returns-then-n-eq0 c = let w = c.wide16-n in
    rw (← w.ensures.0, le-ltb 0 w.result (omega arith)) (record { answer = refl; rows_after = refl })

pub returns-then-n-gt-BRANCHES : goal.returns-then-n-gt-BRANCHES
unfolding got_of rows_got
returns-then-n-gt-BRANCHES c = rw (over_topped c.args.self (omega arith)) (record { answer = refl; rows_after = refl })

pub returns-then-start-end : goal.returns-then-start-end
unfolding got_of rows_got
returns-then-start-end c = rw (is_topped c.args.self (omega arith) (omega arith), ← c.wide16-n.ensures.0, lt-ltb _ _ c.if-start-end.true) (record { answer = refl; rows_after = refl })

pub returns : goal.returns
unfolding got_of rows_got
returns c = rw (is_topped c.args.self (omega arith) (omega arith), ← c.wide16-n.ensures.0, le-ltb _ _ c.if-start-end.false) (record { answer = refl; rows_after = refl })
