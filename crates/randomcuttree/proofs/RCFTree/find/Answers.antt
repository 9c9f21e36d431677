-- `find` meets its contract: no walk in an empty tree. Assumes nothing.
use mathlib.Core.Path.{refl}
use Rattle.randomcuttree.proofs.RCFTree.find.Goals as goal

pub returns-then-self-eq0 : goal.returns-then-self-eq0
returns-then-self-eq0 c = record { empty = λ z. (c.no_walk.ensures, refl); walked = λ n. absurd (n c.if-self-eq0.true) }

pub find-requires : goal.find-requires
find-requires c = rw c.header.ensures (c.requires c.if-self-eq0.false)

pub returns : goal.returns
returns c = record { empty = λ z. absurd (c.if-self-eq0.false z); walked = λ n. rw c.header.ensures at c.find.ensures }
