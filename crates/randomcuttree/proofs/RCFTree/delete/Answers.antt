-- `delete` meets its contract: each refusal before a walk, the walk, and what is deleted by it. Assumes nothing.
use Rattle.randomcuttree.proofs.Calls.{is_written, seeks, some_seen}
use Rattle.randomcuttree.proofs.Deletes.{above, blank}
use Rattle.randomcuttree.proofs.RCFTree.delete.Goals as goal

pub returns-then-index-ge-POINTS : goal.returns-then-index-ge-POINTS
returns-then-index-ge-POINTS c = λ d e s W H. above H _ c.if-index-ge-POINTS.true

pub returns-then-table-index-eq0 : goal.returns-then-table-index-eq0
returns-then-table-index-eq0 c = λ d e s W H. blank H _ c.if-index-ge-POINTS.false c.if-table-index-eq0.true

pub find-found-requires : goal.find-found-requires
find-found-requires c = let q = c.requires in seeks q.state (is_written q.state _ c.if-index-ge-POINTS.false c.if-table-index-eq0.false).1

pub delete_found-requires : goal.delete_found-requires
delete_found-requires c = let q = c.requires in some_seen q.state (is_written q.state _ c.if-index-ge-POINTS.false c.if-table-index-eq0.false).1 c.find-found.ensures

pub returns : goal.returns
returns c = λ d e s W H. c.delete_found.ensures d e s W _ _ H (is_written H _ c.if-index-ge-POINTS.false c.if-table-index-eq0.false).1
