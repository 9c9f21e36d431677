-- `set_path` meets its contract: at each turn the walk of every tree that stands has come to the node (`Reaching`). Assumes nothing.
use mathlib.Core.Path.{refl, ap, ◌∙◌}
use native.Mathlib.Omega.{arith}
use lib.ListN.{drop}
use lib.Seq.{drop-set-lt}
use Rattle.walk.proofs.Paths.{Turn, start, turn, arrived, drop_next}
use borrow.Author.Rules.{rules}
use Rattle.walk.proofs.set_path.Goals as goal
use Rattle.walk.proofs.set_path.Goals.{In-loop-node}

-- what is known of the node that the walk has come to
turn_here : (c : In-loop-node) → Turn c.args.capacity c.args.nodes.now c.args.cuts.now c.args.point.now c.loop-node.invariant.3.channels c.loop-node.invariant.3.reading c.loop-node.invariant.3.tree c.loop-node.path c.loop-node.n c.loop-node.node
turn_here c = let w = c.loop-node.invariant in turn _ _ _ _ _ _ _ _ _ _ w.0 w.3.walks.point_is (w.4 _ _ _ w.3.walks) c.loop-node-test.true

pub loop-node-init : goal.loop-node-init
loop-node-init c = (search rules, search rules, refl, c.requires.some_walks, λ d t p w. rw c.begin.ensures.root (start _ _ _ _ d p _ c.args.path.now t c.begin.ensures.whole w))

pub step_at-s-requires : goal.step_at-s-requires
step_at-s-requires c = let t = turn_here (goal.at.step_at-s-requires c).In-loop-node in
    record { i_lt_branch_limit = omega (arith, c.wide16.ensures.0, c.loop-node.invariant.0, t.small); i_bound = rw c.wide16.ensures.0 t.chan }

pub offset_bounds-path-n : goal.offset_bounds-path-n
offset_bounds-path-n c = let t = turn_here (goal.at.offset_bounds-path-n c).In-loop-node in omega (arith, t.room, c.loop-node.invariant.0)

pub bounds-path-n : goal.bounds-path-n
bounds-path-n c = let t = turn_here (goal.at.bounds-path-n c).In-loop-node in omega (arith, t.room, c.loop-node.invariant.0)

pub overflow_add-n : goal.overflow_add-n
overflow_add-n c = let t = turn_here (goal.at.overflow_add-n c).In-loop-node in omega (arith, t.room, c.loop-node.invariant.0)

pub loop-node-smaller : goal.loop-node-smaller
loop-node-smaller c = let t = turn_here (goal.at.loop-node-smaller c).In-loop-node in omega (arith, t.room, c.loop-node.invariant.0)

pub loop-node-preserved : goal.loop-node-preserved
loop-node-preserved c = let w = c.loop-node.invariant in
    let l = c.loop-node in (
      w.0,
      omega arith,
      drop_next l.path l.n _ _ w.2,
      w.3,
      λ d t p g. rw (c.step_at-s.ensures, c.wide16.ensures.0) (turn _ _ _ _ d p t _ _ _ w.0 g.point_is (w.4 d t p g) c.loop-node-test.true).next,
    )

pub returns : goal.returns
returns c = let w = c.loop-node.invariant in
    record { walked = (λ d t p g. arrived _ _ _ _ d p t _ _ _ w.0 (w.4 d t p g) c.loop-node-test.false); rest = w.2 ∙ ap (drop c.loop-node.n) c.begin.ensures.root ∙ drop-set-lt _ _ 0 _ w.1 }
