-- `inside_one` meets its contract: each branch is what its test selects. Assumes nothing.
use borrow.Author.Rules.{rules}
use Rattle.boundingbox.specs.Contained.{inside}
use Rattle.boundingbox.proofs.inside_one.Goals as goal

pub returns-then-lo-p : goal.returns-then-lo-p
unfolding inside
returns-then-lo-p c = record { few = search rules; told = rw c.if-lo-p.true }

pub returns-else-lo-p : goal.returns-else-lo-p
unfolding inside
returns-else-lo-p c = record { few = search rules; told = rw c.if-lo-p.false }
