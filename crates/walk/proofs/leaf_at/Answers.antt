-- `leaf_at` meets its contract: the last row of the path has the id of the leaf. Assumes nothing.
use native.Mathlib.Omega.{arith}
use Rattle.walk.proofs.Ends.{last_is}
use Rattle.walk.proofs.leaf_at.Goals as goal

pub overflow_sub-result : goal.overflow_sub-result
overflow_sub-result c = omega (arith, c.wide16-2.ensures.0, c.wide16.ensures.0, c.node_at.ensures, last_is c.requires.walked)

pub returns : goal.returns
returns c = λ d t p w. omega (arith, c.wide16-2.ensures.0, c.wide16.ensures.0, c.node_at.ensures, last_is w)
