-- `form::check_blocks` meets its contract. Assumes nothing.
use Rattle.std.proofs.Common.{rules}
use borrow.Author.Tests.{not-true, not-false}
use Rattle.form.proofs.Blocks.{names_bad, ops_bad, making_bad, making_good}
use Rattle.form.proofs.check_blocks.Goals as goal

pub returns-then-ne : goal.returns-then-ne
returns-then-ne c = names_bad c.requires (search (rules, not-true))

pub returns-then-ne-2 : goal.returns-then-ne-2
returns-then-ne-2 c = ops_bad c.requires (search (rules, not-false)) (search (rules, not-true))

pub returns-then-not-is_making : goal.returns-then-not-is_making
returns-then-not-is_making c = making_bad c.requires (search (rules, not-false)) (search (rules, not-false)) c.is_making.ensures c.if-not-is_making.true

pub returns : goal.returns
returns c = making_good c.requires (search (rules, not-false)) (search (rules, not-false)) c.is_making.ensures c.if-not-is_making.false c.check_rows.ensures
