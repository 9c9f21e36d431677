-- Tests decided: a proof by a test's two answers, and whether a manager has a top row. Assumes nothing.
use mathlib.Core.Path.{◌≡◌}
use mathlib.Core.Bool.{true, false}
use Prim.Native.Nat.{◌≤◌, ◌<◌}
use native.Mathlib.Omega.{arith}
use borrow.Author.Tests.{lt-ltb, le-leb, lt-leb}
use Rattle.limits.specs.Limits.{branch_limit}
use Rattle.intervalstoremanager.specs.declared.IntervalStoreManager.{IntervalStoreManager}
use Rattle.intervalstoremanager.specs.Rows.{topped}
-- a case for each answer of a test
pub use borrow.Table.Steps.{cases as by-test}

pub is_topped : (m : IntervalStoreManager) → 0 < m.last_in_use → m.last_in_use ≤ branch_limit → topped m ≡ true
is_topped m some all = rw (lt-ltb 0 m.last_in_use some, le-leb m.last_in_use branch_limit all)

pub over_topped : (m : IntervalStoreManager) → branch_limit < m.last_in_use → topped m ≡ false
over_topped m over = rw (lt-ltb 0 m.last_in_use (omega arith), lt-leb m.last_in_use branch_limit over)
