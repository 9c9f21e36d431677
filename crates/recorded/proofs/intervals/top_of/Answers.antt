-- `top_of` meets its contract, by whether there is a top row. Assumes nothing.
use Rattle.recorded.proofs.Rows.{top_none, top_beyond, top_row}
use Rattle.recorded.proofs.intervals.top_of.Goals as goal

pub returns-then-n-eq0 : goal.returns-then-n-eq0
returns-then-n-eq0 c = top_none _ _ c.wide16-n.ensures.0 c.if-n-eq0.true

pub returns-then-n-gt-BRANCHES : goal.returns-then-n-gt-BRANCHES
returns-then-n-gt-BRANCHES c = top_beyond _ _ c.wide16-n.ensures.0 c.if-n-gt-BRANCHES.true

pub returns : goal.returns
returns c = top_row _ _ c.wide16-n.ensures.0 c.if-n-eq0.false c.if-n-gt-BRANCHES.false
