-- `relink_at` meets its contract: the two cases of `relink`. Assumes nothing.
use native.Mathlib.Omega.{arith}
use borrow.Author.Tests.{eq-eqb, ne_eqb}
use Rattle.nodestore.proofs.relink_at.Goals as goal

pub returns-then-k-eq0 : goal.returns-then-k-eq0
returns-then-k-eq0 c = rw (eq-eqb _ _ c.if-k-eq0.true)

pub replace_node-requires : goal.replace_node-requires
replace_node-requires c = omega (arith, c.wide16.ensures.0, c.requires (omega arith))

pub returns : goal.returns
returns c = rw (ne_eqb _ _ c.if-k-eq0.false, ← c.wide16.ensures.0) c.replace_node.ensures
