-- `mass_of` meets its contract: a branch and a leaf are the two cases of `mass_at`. Assumes nothing.
use native.Mathlib.Omega.{arith}
use borrow.Author.Tests.{lt-ltb, le-ltb}
use Rattle.nodestore.proofs.mass_of.Goals as goal

pub bounds-nodes-wide16 : goal.bounds-nodes-wide16
bounds-nodes-wide16 c = omega (arith, c.wide16.ensures.0, c.requires.node_lt_branch_limit c.if-node-capacity.true)

pub returns-then-node-capacity : goal.returns-then-node-capacity
returns-then-node-capacity c = rw (lt-ltb _ _ c.if-node-capacity.true, ← c.wide16.ensures.0)

pub returns : goal.returns
returns c = rw (le-ltb _ _ c.if-node-capacity.false, ← c.wide16-2.ensures.0, ← c.wide16-3.ensures.0)
