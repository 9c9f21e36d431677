-- `manage_ancestors` meets its contract: the masses of the rows from k on are changed. Assumes nothing.
use borrow.Author.Rules.{rules}
use native.Mathlib.Omega.{arith}
use mathlib.Core.Path.{◌≡◌, ap, ◌∙◌}
use mathlib.Core.List.{[]}
use Prim.Native.Nat.{ℕ, ◌-◌}
use lib.ListN.{set, get_or}
use denote.Param.{number}
use Rattle.nodestore.specs.Rows.{counted, fewest, most}
use Rattle.nodestore.specs.contracts.manage_ancestors.{MORE-type}
use Rattle.nodestore.proofs.Masses.{Turn, turn, begin}
use Rattle.nodestore.proofs.manage_ancestors.Goals as goal
use Rattle.nodestore.proofs.manage_ancestors.Goals.{After-wide16-i}

-- what is known of the branch whose turn it is
turn_here : (g : _) (c : After-wide16-i g) → let b = MORE-type (number g.row.MORE) in Turn (counted b) (fewest b) (most b) c.args.nodes.now c.args.above.now c.loop-k.nodes (c.loop-k.k - 1) c.wide16-i.result
turn_here g c = let l = c.loop-k in
    let m = c.loop-k-test.true in
    turn (counted (MORE-type (number g.row.MORE))) _ c.args.above.now c.requires l.nodes l.k (l.k - 1) c.wide16-i.result l.invariant.1 (omega arith) (omega (arith, l.invariant.0)) c.wide16-i.ensures.0

pub loop-k-init : goal.loop-k-init
loop-k-init g c = (search rules, begin (counted (MORE-type (number g.row.MORE))) _ c.args.above.now)

pub bounds-nodes-i : goal.bounds-nodes-i
bounds-nodes-i g c = let t = turn_here g (goal.at.bounds-nodes-i g c).After-wide16-i in omega (arith, t.small)

pub counted-requires : goal.counted-requires
counted-requires g c = let t = turn_here g (goal.at.counted-requires g c).After-wide16-i in (t.at_least, t.at_most)

pub bounds-nodes-i-in-loop-k : goal.bounds-nodes-i-in-loop-k
bounds-nodes-i-in-loop-k g c = let t = turn_here g (goal.at.bounds-nodes-i-in-loop-k g c).After-wide16-i in omega (arith, t.small)

pub loop-k-preserved : goal.loop-k-preserved
loop-k-preserved g c = let t = turn_here g (goal.at.loop-k-preserved g c).After-wide16-i in
    (omega (arith, c.loop-k.invariant.0), ap (λ (x : ℕ). set c.loop-k.nodes c.wide16-i.result (set (get_or c.loop-k.nodes c.wide16-i.result []) 2 x)) c.counted.ensures ∙ t.next)

pub returns : goal.returns
returns g c = let e : c.loop-k.k ≡ 0 = omega arith in rw e at c.loop-k.invariant.1
