-- `traverse_in` meets its contract: refusals in document 01's order, then the rows of the walk, and what it leaves. Assumes nothing.
use mathlib.Core.Path.{refl}
use Rattle.std.proofs.lemmas.Result.{err_from_is_err_and}
use Rattle.randomcuttree.proofs.Calls.{a_tree}
use Rattle.nodeview.proofs.Reports.{no_point, unwalked, empty, empty_unwalked, some_walking, walk_left, too_few, some_writing, told}
use Rattle.nodeview.proofs.traverse_in.Goals as goal

pub returns-in_err-check_point : goal.returns-in_err-check_point
returns-in_err-check_point c = let p = err_from_is_err_and c.from_residual.result c.from_residual.ensures.1 in
    let f = c.in_err-check_point.ensures in
    rw (p.1, p.2) (record { told = (λ d e s W a marks H E. no_point H E _ _ f _ refl _); memory = λ d e s W a marks H E. unwalked H E _ _ f _ refl _ _ })

pub returns-then-tree-eq0 : goal.returns-then-tree-eq0
returns-then-tree-eq0 c = let f = c.in_ok-check_point.ensures in
    record { told = (λ d e s W a marks H E. empty H E _ _ f refl c.if-tree-eq0.true _); memory = λ d e s W a marks H E. empty_unwalked H E _ _ f refl c.if-tree-eq0.true _ _ }

pub walk_down-n-requires : goal.walk_down-n-requires
walk_down-n-requires c = let p = c.requires in
    let it = some_walking p.state.state p.read _ _ c.in_ok-check_point.ensures refl (a_tree p.state.state c.if-tree-eq0.false).1 _ c.row_of-point.ensures in record { few = it.0; stands = it.1 }

pub returns-then-rows-n : goal.returns-then-rows-n
returns-then-rows-n c = let f = c.in_ok-check_point.ensures in
    let w = c.walk_down-n.ensures in record { told = (λ d e s W a marks H E. too_few H E _ _ f refl (a_tree H c.if-tree-eq0.false).1 _ c.row_of-point.ensures _ _ w.walked _ c.if-rows-n.true); memory = λ d e s W a marks H E. walk_left H E _ _ f refl (a_tree H c.if-tree-eq0.false).1 _ c.row_of-point.ensures _ _ w.walked _ _ _ w.rest w.chances w.others }

pub write_rows-requires : goal.write_rows-requires
write_rows-requires c = let w = c.walk_down-n.ensures in
    let p = c.requires in
    record { walk = some_writing p.state.state p.read _ _ c.in_ok-check_point.ensures refl (a_tree p.state.state c.if-tree-eq0.false).1 _ c.row_of-point.ensures _ _ w.walked _ c.if-rows-n.false; chances = w.chances }

pub returns : goal.returns
returns c = let w = c.walk_down-n.ensures in
    let f = c.in_ok-check_point.ensures in record { told = (λ d e s W a marks H E. told H E _ _ f refl (a_tree H c.if-tree-eq0.false).1 _ c.row_of-point.ensures _ _ w.walked _ c.if-rows-n.false _ c.write_rows.ensures); memory = λ d e s W a marks H E. walk_left H E _ _ f refl (a_tree H c.if-tree-eq0.false).1 _ c.row_of-point.ensures _ _ w.walked _ _ _ w.rest w.chances w.others }
