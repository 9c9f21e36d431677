-- `calls::query` meets its contract. Assumes nothing.
use mathlib.Core.Path.{◌≡◌}
use native.Mathlib.Omega.{arith}
use Rattle.calls.proofs.Queries.{copies_does, branch_does, box_does}
use Rattle.calls.proofs.query.Goals as goal

pub returns-in-8 : goal.returns-in-8
returns-in-8 c = λ a marks g e f. copies_does _ _ _ _ c.in-8.is _ _ c.copies_of.ensures c.tell_count.ensures a _ marks f

pub returns-in-9 : goal.returns-in-9
returns-in-9 c = λ a marks g e f. branch_does _ _ _ _ c.in-9.is _ _ _ c.branch_of.ensures c.tell_branch.ensures a _ marks g.nodes_are e

pub returns-in_default : goal.returns-in_default
returns-in_default c = λ a marks g e f. box_does _ _ c.args.id _ (λ (n : c.args.kind ≡ 8). omega (arith, n)) (λ (n : c.args.kind ≡ 9). omega (arith, n)) _ _ _ _ c.box_of.ensures c.tell_box.ensures a marks g
