-- `side_with` meets its contract. Assumes nothing.
use borrow.Author.Tests.{eq-eqb, ne_eqb}
use borrow.Author.Rules.{rules}
use Rattle.nodestore.proofs.side_with.Goals as goal

pub returns-then-nodes-a : goal.returns-then-nodes-a
returns-then-nodes-a c = (rw (eq-eqb _ _ c.if-nodes-a.true), search rules)

pub returns-else-nodes-a : goal.returns-else-nodes-a
returns-else-nodes-a c = (rw (ne_eqb _ _ c.if-nodes-a.false), search rules)
