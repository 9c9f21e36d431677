-- `RCFTree::copies_of` meets its contract: each way out is one of the query's places. Assumes nothing.
use mathlib.Core.Path.{sym}
use native.Mathlib.Omega.{arith}
use Rattle.randomcuttree.proofs.Told.{below_read, beyond_read, none_read, some_read}
use Rattle.randomcuttree.proofs.RCFTree.copies_of.Goals as goal

pub returns-then-id-capacity : goal.returns-then-id-capacity
returns-then-id-capacity c = sym (below_read _ _ _ (omega (arith, c.wide16-capacity.ensures.0)))

pub returns-then-index-ge-POINTS : goal.returns-then-index-ge-POINTS
returns-then-index-ge-POINTS c = let e = c.wide16-capacity.ensures.0 in sym (beyond_read _ _ _ (omega (arith, e)) (omega (arith, e)))

pub returns-then-n-eq0 : goal.returns-then-n-eq0
returns-then-n-eq0 c = let e = c.wide16-capacity.ensures.0 in sym (none_read _ _ _ (omega (arith, e)) (omega (arith, e)) (rw e at c.if-n-eq0.true))

pub returns : goal.returns
returns c = let e = c.wide16-capacity.ensures.0 in rw (c.wide16.ensures.0, e) (sym (some_read _ _ _ (omega (arith, e)) (omega (arith, e)) (rw e at c.if-n-eq0.false)))
