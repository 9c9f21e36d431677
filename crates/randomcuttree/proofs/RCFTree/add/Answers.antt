-- `add` meets its contract: each refusal before a walk, the walk, and what is added by it. Assumes nothing.
use Rattle.randomcuttree.proofs.Calls.{is_written, seeks, some_seen}
use Rattle.randomcuttree.proofs.Adds.{above, blank, at_limit}
use Rattle.randomcuttree.proofs.RCFTree.add.Goals as goal

pub returns-then-index-ge-POINTS : goal.returns-then-index-ge-POINTS
returns-then-index-ge-POINTS c = λ d e s W H. above H _ _ c.if-index-ge-POINTS.true

pub returns-then-table-index-eq0 : goal.returns-then-table-index-eq0
returns-then-table-index-eq0 c = λ d e s W H. blank H _ c.if-index-ge-POINTS.false _ c.if-table-index-eq0.true

pub returns-then-self-eq-TOTAL : goal.returns-then-self-eq-TOTAL
returns-then-self-eq-TOTAL c = λ d e s W H. at_limit H _ (is_written H _ c.if-index-ge-POINTS.false c.if-table-index-eq0.false).1 _ c.if-self-eq-TOTAL.true

pub find-found-requires : goal.find-found-requires
find-found-requires c = let q = c.requires in seeks q.state (is_written q.state _ c.if-index-ge-POINTS.false c.if-table-index-eq0.false).1

pub add_found-requires : goal.add_found-requires
add_found-requires c = let q = c.requires in
    record { seen = some_seen q.state (is_written q.state _ c.if-index-ge-POINTS.false c.if-table-index-eq0.false).1 c.find-found.ensures; room = c.if-self-eq-TOTAL.false }

pub returns : goal.returns
returns c = λ d e s W H. c.add_found.ensures d e s W _ _ H (is_written H _ c.if-index-ge-POINTS.false c.if-table-index-eq0.false).1
