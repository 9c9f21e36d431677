-- `IntervalStoreManager::release` meets its contract: each way out is the case of `released_of` and `rows_released` that its tests show.
-- Assumes nothing.
use Rattle.std.proofs.Common.{[], ◌+◌, ◌-◌, get_or}
use mathlib.Core.Path.{refl}
use native.Mathlib.Omega.{arith}
use borrow.Author.Tests.{le-ltb, eq-eqb, ne_eqb}
use Rattle.limits.specs.Limits.{branch_limit}
use Rattle.intervalstoremanager.specs.Rows.{released_of, rows_released}
use Rattle.intervalstoremanager.proofs.Tests.{is_topped, over_topped}
use Rattle.intervalstoremanager.proofs.IntervalStoreManager.release.Goals as goal

pub returns-then-n-eq0 : goal.returns-then-n-eq0
unfolding released_of rows_released
returns-then-n-eq0 c = let w = c.wide16-n in
    rw (c.push.ensures.answer, c.push.ensures.rows_after, ← w.ensures.0, le-ltb 0 w.result (omega arith)) (record { answer = refl; rows_after = refl })

pub returns-then-n-gt-BRANCHES : goal.returns-then-n-gt-BRANCHES
unfolding released_of rows_released
returns-then-n-gt-BRANCHES c = let m = c.args.self in
    rw (over_topped m (omega arith), le-ltb m.last_in_use branch_limit (omega arith)) (record { answer = refl; rows_after = refl })

pub returns-then-wide16 : goal.returns-then-wide16
unfolding released_of rows_released
returns-then-wide16 c = let n = c.wide16-n in
    let i = c.args.index in
    let joins = eq-eqb (get_or (get_or c.args.rows.now (n.result - 1) []) 0 0) (i + 1) (omega (arith, c.wide16.ensures.0, c.wide16-2.ensures.0)) in
    rw (is_topped c.args.self (omega arith) (omega arith), ← n.ensures.0, joins) (record { answer = refl; rows_after = refl })

pub returns-then-wide16-2 : goal.returns-then-wide16-2
unfolding released_of rows_released
returns-then-wide16-2 c = let n = c.wide16-n in
    let i = c.args.index in
    let apart = ne_eqb (get_or (get_or c.args.rows.now (n.result - 1) []) 0 0) (i + 1) (λ e. omega (arith, c.wide16.ensures.0, c.wide16-2.ensures.0)) in
    let joins = eq-eqb (get_or (get_or c.args.rows.now (n.result - 1) []) 1 0 + 1) i (omega (arith, c.wide16-3.ensures.0, c.wide16-4.ensures.0)) in
    rw (is_topped c.args.self (omega arith) (omega arith), ← n.ensures.0, apart, joins) (record { answer = refl; rows_after = refl })

pub returns : goal.returns
unfolding released_of rows_released
returns c = let n = c.wide16-n in
    let i = c.args.index in
    let apart = ne_eqb (get_or (get_or c.args.rows.now (n.result - 1) []) 0 0) (i + 1) (λ e. omega (arith, c.wide16.ensures.0, c.wide16-2.ensures.0)) in
    let beyond = ne_eqb (get_or (get_or c.args.rows.now (n.result - 1) []) 1 0 + 1) i (λ e. omega (arith, c.wide16-3.ensures.0, c.wide16-4.ensures.0)) in
    rw (c.push-2.ensures.answer, c.push-2.ensures.rows_after, is_topped c.args.self (omega arith) (omega arith), ← n.ensures.0, apart, beyond) (record { answer = refl; rows_after = refl })
